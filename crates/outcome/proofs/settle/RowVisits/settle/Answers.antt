-- `outcome::settle::RowVisits::settle` meets its contract, by the laws of its visits.
-- Assumes nothing.
use Rattle.outcome.proofs.Laws.{row_laws}
use Rattle.outcome.proofs.settle.RowVisits.settle.Goals as goal

pub settle-requires : goal.settle-requires
settle-requires c = (row_laws _ _ _ _ _ _ c.requires.0, c.requires.1)
