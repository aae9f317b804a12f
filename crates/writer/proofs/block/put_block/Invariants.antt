-- `writer::block::put_block` meets its contract: each turn writes the block's word of a column.
-- Assumes nothing.
use Rattle.writer.proofs.Loops.{ColumnsAt}
use Rattle.writer.proofs.block.put_block.Given as goal

abbrev pub invariant-loop-j : goal.invariant-loop-j
invariant-loop-j l = ColumnsAt l.word-items l.block l.initial.card l.card l.j
