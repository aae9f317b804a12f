-- `card::call::fill_in` meets its contract, block by block.
-- Assumes nothing.
use native.Mathlib.Omega.{arith}
use Rattle.card.proofs.Blocks.{filling_start, filling_turn, filling_end}
use Rattle.card.proofs.call.fill_in.Goals as goal

pub loop-block-init : goal.loop-block-init
loop-block-init g c = filling_start c.args.accepted.now.image.now c.args.accepted.now.head c.requires.0.accepted _ _ c.clear.ensures

pub loop-block-preserved : goal.loop-block-preserved
loop-block-preserved g c =
    filling_turn c.args.accepted.now.image.now c.args.accepted.now.head c.requires.0.accepted _ _ _ c.loop-block.invariant (omega arith) _ c.fill_block.ensures

pub returns : goal.returns
returns g c =
    filling_end c.args.accepted.now.image.now c.args.accepted.now.head c.requires.0.accepted _ _ c.clear.ensures _ _ c.loop-block.invariant (omega arith) (omega arith)
