-- `order::named::all_marked` meets its contract: the numbers so far are marked.
-- Assumes nothing.
use Rattle.order.specs.Order.{AllMarked}
use Rattle.order.proofs.named.all_marked.Given as goal

abbrev pub invariant-loop-c : goal.invariant-loop-c
invariant-loop-c l = AllMarked l.seen l.c
