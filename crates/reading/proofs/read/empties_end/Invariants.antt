-- `reading::read::empties_end` meets its contract: the alternatives so far have no entries.
-- Assumes nothing.
use Rattle.reading.specs.Walks.{EmptiesEnd}
use Rattle.reading.proofs.read.empties_end.Given as goal

abbrev pub invariant-loop-i : goal.invariant-loop-i
invariant-loop-i l = EmptiesEnd l.part l.at l.i
