-- `writer::block::put_block` meets its contract: each turn writes the block's word of a column.
-- Assumes nothing.
use Rattle.std.proofs.Common.{ℕ, ◌+◌, List, set, ◌∙◌, ap₂, arith}
use Rattle.std.proofs.lemmas.Slice.{between_to_end}
use Rattle.writer.specs.Block.{columnwise, with_block}
use Rattle.writer.proofs.Loops.{columns_start, columns_next, columns_end}
use Rattle.writer.proofs.block.put_block.Goals as goal

pub loop-j-init : goal.loop-j-init
loop-j-init c = columns_start _ _ _

pub loop-j-preserved : goal.loop-j-preserved
loop-j-preserved c = columns_next _ _ _ c.loop-j.card c.loop-j.j c.loop-j.invariant c.loop-j-test.true

pub returns : goal.returns
unfolding with_block
returns c =
    columns_end _ _ _ c.loop-j.card c.loop-j.j c.loop-j.invariant c.loop-j-test.false
    ∙ ap₂ (λ (f : ℕ) (ws : List ℕ). columnwise (set c.args.card.now 0 f) (1 + c.args.block) ws) c.counted.ensures
    (between_to_end c.args.numbers.now 1 13 (omega arith))
