-- `outcome::steps::write_step_rows` meets its contract.
-- Assumes nothing.
use native.Mathlib.Omega.{arith}
use Rattle.outcome.proofs.StepRows.{writing_turn}
use Rattle.outcome.proofs.steps.write_step_rows.Goals as goal

pub loop-a-preserved : goal.loop-a-preserved
loop-a-preserved c =
    rw (c.put_row.ensures, c.step_row.ensures) (writing_turn _ _ _ _ c.loop-a.a c.loop-a.invariant (omega arith))
