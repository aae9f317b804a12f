-- `writer::block::write_blocks` meets its contract: each turn writes the block into the next card, in its own part.
-- Assumes nothing.
use Rattle.writer.proofs.Loops.{CardsAt}
use Rattle.writer.proofs.block.write_blocks.Given as goal

abbrev pub invariant-loop-c : goal.invariant-loop-c
invariant-loop-c l = CardsAt l.block l.table l.initial.area l.area l.c
