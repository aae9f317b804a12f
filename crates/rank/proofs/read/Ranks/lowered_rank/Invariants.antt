-- `rank::read::Ranks::lowered_rank` meets its contract: the rank so far, lowered by the alternatives to come, is the rank lowered by all.
-- Assumes nothing.
use Prim.Native.Nat.{◌-◌}
use lib.ListN.{length, drop}
use Rattle.library.specs.Library.{alternatives_from}
use Rattle.walk.proofs.Walking.{Walking}
use Rattle.rank.specs.Walk.{lowered_from}
use Rattle.rank.specs.Tables.{look_in}
use Rattle.rank.proofs.read.Ranks.lowered_rank.Given as goal

abbrev pub invariant-loop-i : goal.invariant-loop-i
invariant-loop-i l =
    let T = l.self in
    Walking T.part.now (lowered_from (look_in T.q T.ahead.now T.behind.now T.ranks.now) l.fn.rank (alternatives_from (drop l.fn.at T.part.now)))
    (lowered_from (look_in T.q T.ahead.now T.behind.now T.ranks.now) l.r) l.i

abbrev pub decreases-loop-i : goal.decreases-loop-i
decreases-loop-i l = length l.self.part.now - l.i
