-- `library::tables::write_places` meets its contract: from the last word to the first, each opener's index is written.
-- Assumes nothing.
use Rattle.library.proofs.Rows.{PlacesAt}
use Rattle.library.proofs.tables.write_places.Given as goal

abbrev pub invariant-loop-at : goal.invariant-loop-at
invariant-loop-at l = PlacesAt l.part l.initial.area l.area l.end

abbrev pub decreases-loop-at : goal.decreases-loop-at
decreases-loop-at l = l.end
