-- `running::read::gives_run` meets its contract: whether one of the alternatives to come gives a run is whether one of all does.
-- Assumes nothing.
use Rattle.std.proofs.Common.{◌-◌, length, drop}
use Rattle.library.specs.Library.{alternatives_from}
use Rattle.walk.proofs.Walking.{Walking}
use Rattle.callers.specs.Callers.{in_set}
use Rattle.running.specs.Runs.{runs_by}
use Rattle.running.proofs.read.gives_run.Given as goal

abbrev pub invariant-loop-i : goal.invariant-loop-i
invariant-loop-i l = Walking l.part (runs_by (in_set l.runs) (alternatives_from (drop l.at l.part))) (runs_by (in_set l.runs)) l.i

abbrev pub decreases-loop-i : goal.decreases-loop-i
decreases-loop-i l = length l.part - l.i
