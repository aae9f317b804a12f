-- `callers::callees::Callees`, as an iterator: what is left from the first index on is left here.
-- Assumes nothing.
use Rattle.std.proofs.Common.{◌≡◌, ℕ}
use Rattle.callers.specs.Callees.{calls_left}
use Rattle.callers.proofs.callees.CalleesIterator.next.Given as goal

abbrev pub invariant-loop-i : goal.invariant-loop-i
invariant-loop-i l = (l.self.part.now ≡ l.part) × ((d : ℕ) → calls_left l.part l.initial.i d ≡ calls_left l.part l.i d)
