-- `library::parts::first_sequence` meets its contract: none of the words that were passed opens a sequence.
-- Assumes nothing.
use Rattle.std.proofs.Common.{◌≡◌, length, arith, sym, ◌∙◌}
use Rattle.library.proofs.Seam.{not_true, passed_below, passed_found, passed_turn, passed_end}
use Rattle.library.proofs.parts.first_sequence.Goals as goal

pub returns-then-is_of-clause-at : goal.returns-then-is_of-clause-at
returns-then-is_of-clause-at c = passed_found _ _ (omega arith) c.loop-i.invariant (sym c.is_of.ensures ∙ c.if-is_of.true)

pub loop-i-preserved : goal.loop-i-preserved
loop-i-preserved c = passed_turn _ _ (omega arith) c.loop-i.invariant (sym c.is_of.ensures ∙ c.if-is_of.false)

pub returns-clause-at : goal.returns-clause-at
returns-clause-at c =
    let out : c.loop-i.i ≡ length c.args.words.now = omega (arith, c.loop-i.invariant.within) in
    sym out ∙ passed_end _ _ out c.loop-i.invariant

pub loop-i-init : goal.loop-i-init
loop-i-init c = passed_below _ _ c.fours_ahead-i.ensures.within (λ i l. not_true _ (sym (c.fours_ahead-i.ensures.pass i l)))
