-- `callers::write::add_calls` meets its contract: the callers so far, with the calls that are left, are all.
-- Assumes nothing.
use Rattle.std.proofs.Common.{◌≡◌}
use Rattle.callers.proofs.CallerSets.{Adding}
use Rattle.callers.proofs.write.add_calls.Given as goal

abbrev pub invariant-loop-d : goal.invariant-loop-d
invariant-loop-d l = (l.d-iterator.part.now ≡ l.part) × Adding l.part l.at l.c l.initial.callers l.callers l.d-iterator.at
