-- `rules::rules::set_before` meets its contract.
-- Assumes nothing.
use Rattle.std.proofs.Common.{sym, ◌∙◌}
use Rattle.rules.proofs.Sets.{sets_first, back_found, back_opened, back_passed}
use Rattle.rules.proofs.rules.set_before.Goals as goal

pub returns-then-is_of-payload_of : goal.returns-then-is_of-payload_of
returns-then-is_of-payload_of c =
    sym (back_found _ _ _ c.args.f c.in-Some.ensures.steps (rw (c.is_of.ensures, c.payload_of.ensures) at c.if-is_of-payload_of.true)) ∙ c.loop-w.invariant

pub returns-then-is_of : goal.returns-then-is_of
returns-then-is_of c = sym (back_opened _ _ _ c.args.f c.in-Some.ensures.steps (sym c.is_of-in-loop-w.ensures ∙ c.if-is_of.true)) ∙ c.loop-w.invariant

pub loop-w-preserved : goal.loop-w-preserved
loop-w-preserved c =
    back_passed _ _ _ c.args.f c.in-Some.ensures.steps (rw (c.is_of.ensures, c.payload_of.ensures) at c.if-is_of-payload_of.false) (sym c.is_of-in-loop-w.ensures ∙ c.if-is_of.false)
    ∙ c.loop-w.invariant

pub returns : goal.returns
returns c = sym (sets_first _ c.args.f c.in-None.ensures.steps.0) ∙ c.loop-w.invariant
