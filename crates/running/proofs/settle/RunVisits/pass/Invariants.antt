-- `running::settle::RunVisits::pass` meets its contract.
-- Assumes nothing.
use Rattle.settling.proofs.Visits.{Passing}
use Rattle.running.specs.Visited.{lacking, visited}
use Rattle.running.proofs.settle.RunVisits.pass.Given as goal

abbrev pub invariant-loop-i : goal.invariant-loop-i
invariant-loop-i l = Passing (visited l.self.part.now l.self.places.now) lacking l.self.n l.forward l.initial.runs l.runs l.count l.i
