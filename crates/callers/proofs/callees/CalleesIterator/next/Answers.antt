-- `callers::callees::Callees`, as an iterator: a call of `next` gives the next call and leaves the others, or none is left.
-- Assumes nothing.
use Rattle.std.proofs.Common.{refl, sym, ◌∙◌}
use Rattle.callers.proofs.Calls.{left_call, left_on, left_out, left_past}
use Rattle.callers.proofs.callees.CalleesIterator.next.Goals as goal

pub returns-then-is_of-clause-steps : goal.returns-then-is_of-clause-steps
returns-then-is_of-clause-steps c =
    let part = c.args.self.now.part.now in
    let nine = sym c.is_of.ensures ∙ c.if-is_of.true in (
      c.loop-i.invariant.0,
      record {
        place = c.loop-i.i;
        from = c.loop-i.auto.i;
        within = c.loop-i-test.true;
        named = nine;
        number = c.payload_of.ensures;
        after = refl;
        left = λ d. rw c.payload_of.ensures (c.loop-i.invariant.1 d ∙ left_call part c.loop-i.i d nine);
      },
    )

pub returns-then-not-goes_on-clause-steps : goal.returns-then-not-goes_on-clause-steps
returns-then-not-goes_on-clause-steps c = (
  c.loop-i.invariant.0,
  λ d. c.loop-i.invariant.1 d
      ∙ left_out c.args.self.now.part.now c.loop-i.i d (sym c.is_of.ensures ∙ c.if-is_of.false) (sym c.goes_on.ensures ∙ c.if-not-goes_on.true),
)

pub loop-i-preserved : goal.loop-i-preserved
loop-i-preserved c = (
  c.loop-i.invariant.0,
  λ d. c.loop-i.invariant.1 d ∙ sym (left_on c.args.self.now.part.now c.loop-i.i d (sym c.goes_on.ensures ∙ c.if-not-goes_on.false)),
)

pub returns-clause-steps : goal.returns-clause-steps
returns-clause-steps c = (c.loop-i.invariant.0, λ d. c.loop-i.invariant.1 d ∙ left_past c.args.self.now.part.now c.loop-i.i d c.loop-i-test.false)
