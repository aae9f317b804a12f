-- `reading::read::Reader::read_alternative` meets its contract: what is joined so far, with the entries to come, is the whole alternative.
-- Assumes nothing.
use borrow.Author.Rules.{rules}
use native.Mathlib.Omega.{arith}
use mathlib.Core.Path.{◌≡◌, sym, ap, ◌∙◌}
use mathlib.Core.Bool.{false, not}
use Prim.Native.Nat.{ℕ}
use lib.ListN.{length, get_or, get_or-eq_default}
use lib.Dec.{ltb}
use borrow.Author.Tests.{lt-ltb, eqb-true}
use Rattle.image.specs.Word.{kind, is_entry}
use Rattle.library.proofs.Decode.{check_entry}
use Rattle.walk.proofs.Walking.{folding_out, leaving_out}
use Rattle.row.specs.Words.{no_row, check_row}
use Rattle.row.specs.declared.words.Row.{Row}
use Rattle.reading.specs.Walks.{is_dead, entry_in, joined_from}
use Rattle.reading.proofs.Walks.{dead_is, live_turn, dead_end}
use Rattle.reading.proofs.read.Reader.read_alternative.Goals as goal
use Rattle.reading.proofs.read.Reader.read_alternative.Goals.{then-is_check, else-is_check+else-named-eq0}

pub returns-then-not-part_entry : goal.returns-then-not-part_entry
unfolding joined_from
returns-then-not-part_entry c =
    let here = c.loop-i.invariant in
    let e = sym c.part_entry.ensures ∙ c.if-not-part_entry.true in
    record { row = folding_out here.folding e; ended = leaving_out here e }

pub returns-then-named-eq0 : goal.returns-then-named-eq0
returns-then-named-eq0 c =
    let s = c.args.self.now in
    let entry = sym c.part_entry.ensures ∙ c.if-not-part_entry.false in
    let named = ap (λ (r : Row). not (ltb 0 r.run)) (sym (c.named_row-named.ensures s.block)) in
    let dead = dead_is s.block _ _ _ (s.readable c.loop-i.i c.loop-i-test.true) entry ∙ named ∙ ap (λ (n : ℕ). not (ltb 0 n)) c.if-named-eq0.true in
    let nothing : c.default.result ≡ no_row = search rules in
    let left = dead_end s.block _ _ _ c.loop-i.invariant entry nothing dead in
    record { row = left.0; ended = left.1 }

pub loop-i-preserved : goal.loop-i-preserved
loop-i-preserved c =
    let s = c.args.self.now in
    let w = get_or s.part.now c.loop-i.i 0 in
    let entry = sym c.part_entry.ensures ∙ c.if-not-part_entry.false in
    elim c.if-is_check.branch [
      | then-is_check t ↦
          let is = check_entry w (eqb-true (kind w) 13 (sym c.is_check.ensures ∙ t.if-is_check.true)) in
          live_turn s.block _ _ _ c.loop-i.invariant entry (t.row-is ∙ t.joined-row.ensures)
          (t.of_check.ensures ∙ ap (check_row s.block.number) t.payload_of.ensures ∙ sym (ap (entry_in s.block s.steps.now s.table.now) is))
          (ap (is_dead s.table.now) is)
      | else-is_check+else-named-eq0 t ↦
          let named = t.named_row-named.ensures s.block in
          let live = ap not (lt-ltb 0 t.named_row-named.result.run (omega (arith, t.if-named-eq0.false))) in
          live_turn s.block _ _ _ c.loop-i.invariant entry (t.row-is ∙ t.joined-row-else-is_check.ensures) named
          (dead_is s.block _ _ _ (s.readable c.loop-i.i c.loop-i-test.true) entry ∙ ap (λ (r : Row). not (ltb 0 r.run)) (sym named) ∙ live)
    ]

pub returns : goal.returns
unfolding joined_from
returns c =
    let here = c.loop-i.invariant in
    let part = c.args.self.now.part.now in
    let none : is_entry (get_or part c.loop-i.i 0) ≡ false = ap is_entry (get_or-eq_default part 0 {n = c.loop-i.i} c.loop-i-test.false) in
    let all : length part ≡ c.loop-i.i = omega (arith, here.folding.within) in
    record { row = folding_out here.folding none; ended = all ∙ leaving_out here none }
