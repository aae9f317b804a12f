-- `library::tables::write_masks` meets its contract: from the last word to the first, each opener's row is written.
-- Assumes nothing.
use Rattle.library.proofs.Rows.{MasksLeft}
use Rattle.library.proofs.tables.write_masks.Given as goal

abbrev pub invariant-loop-w : goal.invariant-loop-w
invariant-loop-w l = MasksLeft l.block l.part l.initial.area l.area l.m l.w-iterator.iter.rest.now
