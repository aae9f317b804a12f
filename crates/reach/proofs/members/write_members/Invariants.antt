-- `reach::members::write_members` meets its contract.
-- Assumes nothing.
use Rattle.callers.specs.Callers.{in_set}
use Rattle.reach.proofs.Listing.{Writing}
use Rattle.reach.proofs.members.write_members.Given as goal

abbrev pub invariant-loop-c : goal.invariant-loop-c
invariant-loop-c l = Writing (in_set l.set) l.n l.initial.area l.area l.k l.c
