-- `order::named::mark` meets its contract: what is marked so far is named.
-- Assumes nothing.
use Rattle.order.proofs.Order.{Marking}
use Rattle.order.proofs.named.mark.Given as goal

abbrev pub invariant-loop-c : goal.invariant-loop-c
invariant-loop-c l = Marking l.order l.seen
