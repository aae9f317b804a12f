-- `order::finishing::visiting_order` meets its contract: the finishing order where it names all sequences, otherwise the numbers in turn.
-- Assumes nothing.
use Rattle.std.proofs.Common.{sym, arith, length-take-le}
use Rattle.order.proofs.Order.{in_turn_complete}
use Rattle.order.proofs.finishing.visiting_order.Goals as goal

pub slice_bounds-complete-end-2 : goal.slice_bounds-complete-end-2
slice_bounds-complete-end-2 c = sym (length-take-le _ _ (omega (arith, c.finishing_order.auto, c.requires.1)))

pub returns-then-complete : goal.returns-then-complete
returns-then-complete c = c.complete.ensures c.if-complete.true

pub returns : goal.returns
returns c = in_turn_complete _ _ (omega (arith, c.write_numbers.auto, c.finishing_order.auto, c.requires.1)) c.write_numbers.ensures
