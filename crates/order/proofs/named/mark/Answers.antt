-- `order::named::mark` meets its contract: what is marked so far is named.
-- Assumes nothing.
use Rattle.std.proofs.Common.{refl}
use Rattle.order.proofs.Order.{marked_start, marked_turn}
use Rattle.order.proofs.named.mark.Goals as goal
use Rattle.order.proofs.named.mark.Goals.{then-c-lt-MOST, else-c-lt-MOST}

pub loop-c-init : goal.loop-c-init
loop-c-init c = rw c.default-seen.ensures (marked_start c.args.order.now)

pub loop-c-preserved : goal.loop-c-preserved
loop-c-preserved c =
    elim c.if-c-lt-MOST.branch [
      | then-c-lt-MOST w ↦ rw (w.seen-is, w.insert.ensures) (marked_turn c.args.order.now c.loop-c.seen c.loop-c.c-index _ c.loop-c-test.true refl w.if-c-lt-MOST.true c.loop-c.invariant)
      | else-c-lt-MOST w ↦ rw w.seen-is c.loop-c.invariant
    ]

pub returns : goal.returns
returns c = c.loop-c.invariant.named
