-- `library::tables::last_opener` meets its contract: none of the words that were passed opens a sequence.
-- Assumes nothing.
use Rattle.library.specs.Tables.{NoPlaces}
use Rattle.library.proofs.tables.last_opener.Given as goal

abbrev pub invariant-loop-i : goal.invariant-loop-i
invariant-loop-i l = NoPlaces l.part l.i l.end
