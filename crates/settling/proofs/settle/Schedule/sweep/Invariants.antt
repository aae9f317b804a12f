-- `settling::settle::Schedule::sweep` meets its contract: each visit keeps what is swept.
-- Assumes nothing.
use Rattle.settling.specs.Settling.{Swept}
use Rattle.settling.proofs.settle.Schedule.sweep.Given as goal

abbrev pub invariant-loop-c : goal.invariant-loop-c
invariant-loop-c g l = let m = g.V.Visits in Swept (m.visited l.visits) l.self.n (m.value l.initial.table) (m.value l.table) l.stale
