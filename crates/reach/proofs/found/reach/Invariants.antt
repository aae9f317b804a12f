-- `reach::found::reach` meets its contract: what the first sequences of the queue name is found.
-- Assumes nothing.
use Rattle.std.proofs.Common.{◌-◌}
use Rattle.reach.proofs.Reaching.{Reaching}
use Rattle.reach.proofs.found.reach.Given as goal

abbrev pub invariant-loop-done : goal.invariant-loop-done
invariant-loop-done l = Reaching l.n l.part l.places l.runs l.c l.reached l.done

abbrev pub decreases-loop-done : goal.decreases-loop-done
decreases-loop-done l = l.n - l.done
