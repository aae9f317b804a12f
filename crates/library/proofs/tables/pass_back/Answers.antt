-- `library::tables::pass_back` meets its contract: none of the words that were passed opens a sequence.
-- Assumes nothing.
use Rattle.std.proofs.Common.{◌≡◌, ℕ, List, ◌++◌, false, sym, append_assoc, ap, ◌∙◌, arith}
use Rattle.std.specs.Slice.Exact.{rchunks_exact_remainder, rchunks_exact_rest, rchunks_exact_size}
use Rattle.image.specs.Word.{is_kind}
use Rattle.image.proofs.FourWords.{last_four, last_at, last_rest}
use Rattle.library.proofs.Rows.{none_four, none_start}
use Rattle.library.proofs.tables.pass_back.Goals as goal

pub overflow_sub-i : goal.overflow_sub-i
overflow_sub-i c =
    let here = c.loop-four.invariant in
    let steps = c.in-Some.ensures.steps in
    let before = rchunks_exact_remainder c.loop-four.four-iterator in
    let cut = here.parts ∙ ap (λ (ws : List ℕ). before ++ ws) steps.2.0 ∙ sym (append_assoc before _ _) in
    last_four c.args.part.now _ _ c.loop-four.i here.within cut (steps.2.1 ∙ here.size)

pub loop-four-preserved : goal.loop-four-preserved
loop-four-preserved c =
    let here = c.loop-four.invariant in
    let steps = c.in-Some.ensures.steps in
    let before = rchunks_exact_remainder c.loop-four.four-iterator in
    let cut = here.parts ∙ ap (λ (ws : List ℕ). before ++ ws) steps.2.0 ∙ sym (append_assoc before _ _) in
    let long = steps.2.1 ∙ here.size in
    let words = c.args.part.now in
    let i = c.loop-four.i in
    record {
      within = omega (arith, here.within);
      none =
          none_four words i _ (last_four words _ _ i here.within cut long) here.within
          (last_at words _ _ i here.within cut long (λ w. is_kind 6 w ≡ false) (c.none_opens.ensures c.if-not-none_opens.false)) here.none;
      parts = sym (last_rest words _ _ i here.within cut long) ∙ ap (λ (ws : List ℕ). ws ++ rchunks_exact_rest c.next.new.self) (sym steps.1);
      size = steps.0 ∙ here.size;
    }

pub loop-four-init : goal.loop-four-init
loop-four-init c =
    let made = c.into_iter-four-iterator.ensures.into_iter_gives in
    record {
      within = c.requires;
      none = none_start _ _;
      parts =
          c.rchunks_exact-four-items.ensures.parts
          ∙ ap (λ (s : _). rchunks_exact_remainder s ++ rchunks_exact_rest s) (sym made);
      size = ap rchunks_exact_size made ∙ c.rchunks_exact-four-items.ensures.size;
    }
