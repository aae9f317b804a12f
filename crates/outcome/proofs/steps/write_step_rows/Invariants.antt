-- `outcome::steps::write_step_rows` meets its contract.
-- Assumes nothing.
use Rattle.reading.specs.Walks.{StepRows}
use Rattle.outcome.proofs.steps.write_step_rows.Given as goal

abbrev pub invariant-loop-a : goal.invariant-loop-a
invariant-loop-a l = StepRows l.all l.masks l.a l.initial.rows l.rows
