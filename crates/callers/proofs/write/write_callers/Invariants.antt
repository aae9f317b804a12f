-- `callers::write::write_callers` meets its contract, sequence by sequence.
-- Assumes nothing.
use Rattle.callers.proofs.CallerSets.{Writing}
use Rattle.callers.proofs.write.write_callers.Given as goal

abbrev pub invariant-loop-c : goal.invariant-loop-c
invariant-loop-c l = Writing l.part l.places l.initial.callers l.callers l.n l.c
