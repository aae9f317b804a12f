-- `rank::settle::RankVisits` visits as it says.
-- Assumes nothing.
use Rattle.std.proofs.Common.{refl, arith}
use Rattle.rank.proofs.Settling.{visit_made}
use Rattle.rank.proofs.settle.RankVisitsVisits.visit.Goals as goal

pub returns : goal.returns
returns c =
    let v = c.args.self.now in
    visit_made v.q v.ahead.now v.behind.now v.part.now v.places.now c.args.ranks.now c.args.c _ c.lowered_rank-new.result _
    (omega (arith, c.requires.1.ranked, c.requires.2)) refl c.lowered_rank-new.ensures refl
