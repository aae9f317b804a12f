-- `list::compose::write_row` meets its contract: the numbers of the kept row, the flags of the row, and all put into the card.
-- Assumes nothing.
use Prim.Native.Nat.{ℕ}
use mathlib.Core.Path.{ap, ◌∙◌}
use mathlib.Core.List.{List}
use Rattle.writer.specs.Block.{with_block}
use Rattle.list.proofs.Written.{written}
use Rattle.list.proofs.compose.write_row.Goals as goal

pub returns : goal.returns
returns c =
    c.put_block.ensures
    ∙ ap (λ (ns : List ℕ). with_block c.args.block ns c.args.card.now)
    (written c.args.x c.args.all _ _ _ c.kept_row-kept.ensures c.numbers_of-numbers.ensures c.flags.ensures)
