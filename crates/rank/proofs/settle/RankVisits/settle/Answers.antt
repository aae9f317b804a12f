-- `rank::settle::RankVisits::settle` meets its contract, by the laws of its visits.
-- Assumes nothing.
use Rattle.rank.proofs.Laws.{rank_laws}
use Rattle.rank.proofs.settle.RankVisits.settle.Goals as goal

pub settle-requires : goal.settle-requires
settle-requires c = (rank_laws _ _ _ _ _ _ _ c.requires.0, c.requires.1)
