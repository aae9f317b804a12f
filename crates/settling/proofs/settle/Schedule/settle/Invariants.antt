-- `settling::settle::Schedule::settle` meets its contract, turn by turn.
-- Assumes nothing.
use Rattle.settling.specs.Settling.{Swept}
use Rattle.settling.proofs.Settling.{load}
use Rattle.settling.proofs.settle.Schedule.settle.Given as goal

abbrev pub invariant-loop-c : goal.invariant-loop-c
invariant-loop-c g l = let m = g.V.Visits in Swept (m.visited l.visits) l.self.n (m.value l.initial.table) (m.value l.table) l.stale

abbrev pub decreases-loop-c : goal.decreases-loop-c
decreases-loop-c g l = let m = g.V.Visits in load m.weight (m.value l.table) l.stale
