-- `running::read::live_end` meets its contract: what the entries to come give is what the alternative gives.
-- Assumes nothing.
use Rattle.std.proofs.Common.{drop}
use Rattle.library.specs.Library.{entries_from}
use Rattle.walk.proofs.Walking.{Leaving}
use Rattle.callers.specs.Callers.{in_set}
use Rattle.running.specs.Runs.{is_dead, gives_by}
use Rattle.running.proofs.read.live_end.Given as goal

abbrev pub invariant-loop-i : goal.invariant-loop-i
invariant-loop-i l = Leaving l.part (gives_by (in_set l.runs) (entries_from (drop l.at l.part))) (is_dead l.runs) l.at (gives_by (in_set l.runs)) l.i
