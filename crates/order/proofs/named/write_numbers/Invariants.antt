-- `order::named::write_numbers` meets its contract: number c stands at place c.
-- Assumes nothing.
use Rattle.order.specs.Order.{InTurn}
use Rattle.order.proofs.named.write_numbers.Given as goal

abbrev pub invariant-loop-c : goal.invariant-loop-c
invariant-loop-c l = InTurn l.place-items l.c
