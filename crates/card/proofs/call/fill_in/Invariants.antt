-- `card::call::fill_in` meets its contract, block by block.
-- Assumes nothing.
use Rattle.card.proofs.Blocks.{Blocks}
use Rattle.card.proofs.call.fill_in.Given as goal

abbrev pub invariant-loop-block : goal.invariant-loop-block
invariant-loop-block g l = Blocks l.accepted.image.now l.accepted.head l.initial.area l.area l.block
