-- `reach::found::Reached::note_named` meets its contract: what is found so far, with the calls that are left, is all.
-- Assumes nothing.
use Rattle.std.proofs.Common.{◌≡◌}
use Rattle.reach.proofs.Queue.{Noting}
use Rattle.reach.proofs.found.Reached.note_named.Given as goal

abbrev pub invariant-loop-d : goal.invariant-loop-d
invariant-loop-d l = (l.d-iterator.part.now ≡ l.part) × Noting l.part l.at l.initial.self l.self l.d-iterator.at
