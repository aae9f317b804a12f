-- `reader::check::Part::read_fours` meets its contract.
-- Assumes nothing.
use Rattle.std.proofs.Common.{ℕ, ◌+◌, sym, ◌∙◌, subst, arith}
use Rattle.image.proofs.FourWords.{four_within, four_word, four_at, four_rest}
use Rattle.reader.proofs.Walk.{Fours, fours_turn}
use Rattle.reader.proofs.check.Part.read_fours.Goals as goal

pub loop-four-preserved : goal.loop-four-preserved
loop-four-preserved c =
    let here = c.loop-four.invariant in
    let steps = c.in-Some.ensures.steps in
    let cut = sym here.rest ∙ steps.1.0 in
    let long = steps.1.1 ∙ here.size in
    let a = c.args in
    let ws = a.self.now.words.now in
    let i = c.loop-four.next in
    let within = four_within _ _ _ _ cut long in
    record {
      within = within;
      fours =
          subst (λ (w : ℕ). Fours a.self.now.head ws a.last a.at w (i + 4)) (sym (four_word _ _ _ i cut long 3 (omega arith)))
          (fours_turn _ ws a.last a.at _ i within (four_at _ _ _ i cut long _ (c.four_right.ensures c.if-not-four_right.false)) here.fours);
      rest = four_rest ws _ _ i cut long;
      size = steps.0 ∙ here.size;
    }
