-- `tables::prepare::prepare_masks` meets its contract: the steps' part of an accepted image is what the maker of the masks asks.
-- Assumes nothing.
use Rattle.tables.proofs.Tables.{steps_asked, masked}
use Rattle.tables.proofs.prepare.prepare_masks.Goals as goal

pub write_masks-requires : goal.write_masks-requires
write_masks-requires c = steps_asked _ _ c.args.accepted.now.accepted _ c.requires c.steps_part.ensures

pub returns : goal.returns
returns c = masked _ _ c.args.accepted.now.accepted _ c.args.block c.steps_part.ensures c.write_masks.ensures
