-- `running::settle::RunVisits::settle_from` meets its contract.
-- Assumes nothing.
use Rattle.settling.specs.Settling.{Reached}
use Rattle.running.specs.Visited.{lacking, visited}
use Rattle.running.proofs.settle.RunVisits.settle_from.Given as goal

abbrev pub invariant-passes : goal.invariant-passes
invariant-passes l = Reached (visited l.self.part.now l.self.places.now) l.self.n l.initial.runs l.runs

abbrev pub decreases-passes : goal.decreases-passes
decreases-passes l = lacking l.runs
