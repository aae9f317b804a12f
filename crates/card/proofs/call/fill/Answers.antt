-- `card::call::fill` meets its contract: too little room, or the cards.
-- Assumes nothing.
use native.Mathlib.Omega.{arith}
use Rattle.std.proofs.Common.{lit≤}
use Rattle.tables.proofs.Tables.{few_steps, few_sequences}
use Rattle.card.proofs.call.fill.Goals as goal

pub fill_in-requires-else-is_small : goal.fill_in-requires-else-is_small
fill_in-requires-else-is_small c =
    let steps = few_steps _ _ c.args.accepted.now.accepted in
    let sequences = few_sequences _ _ c.args.accepted.now.accepted in (
      record { accepted = c.args.accepted.now.accepted; room = c.if-area-head.false },
      record { places = sequences; callers = omega arith; places_few = lit≤ tt; callers_few = lit≤ tt },
      record { masks = omega arith; steps = omega arith; rows = omega arith; masks_few = lit≤ tt; steps_few = lit≤ tt; rows_few = lit≤ tt },
    )
