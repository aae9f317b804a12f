-- `settling::turns::Turns::look` meets its contract.
-- Assumes nothing.
use Rattle.settling.specs.Turns.{Passed}
use Rattle.settling.proofs.turns.Turns.look.Given as goal

abbrev pub invariant-loop-i : goal.invariant-loop-i
invariant-loop-i l = Passed l.schedule.n l.order l.stale l.forward l.place l.i
