-- `settling::settle::Schedule::sweep` meets its contract: each visit keeps what is swept.
-- Assumes nothing.
use Rattle.std.proofs.Common.{arith}
use Rattle.settling.proofs.Visits.{reached_length}
use Rattle.settling.proofs.Settling.{swept_turn}
use Rattle.settling.proofs.settle.Schedule.sweep.Goals as goal
use Rattle.settling.proofs.settle.Schedule.sweep.Goals.{then-c-self, else-c-self}

pub visit-requires : goal.visit-requires
visit-requires g c = (c.requires.0.kept _ (reached_length c.requires.0.lowers c.loop-c.invariant.reached), c.if-c-self.true, c.requires.1.few, c.requires.1.room)

pub loop-c-preserved : goal.loop-c-preserved
loop-c-preserved g c =
    elim c.if-c-self.branch [
      | then-c-self w ↦ rw (w.table-is, w.stale-is)
          (swept_turn c.requires.0.local c.requires.1 _ _ c.loop-c.stale _ _ _ w.visit.ensures.0
          (omega (arith, reached_length c.requires.0.lowers c.loop-c.invariant.reached, c.requires.0.long)) w.if-c-self.true c.loop-c.invariant w.visit.ensures.1 w.visit.ensures.2)
      | else-c-self w ↦ rw (w.table-is, w.stale-is) c.loop-c.invariant
    ]
