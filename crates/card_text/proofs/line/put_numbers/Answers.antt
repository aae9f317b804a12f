-- `card_text::line::put_numbers` meets its contract: from the last column to the first, and the flags.
-- Assumes nothing.
use Rattle.std.proofs.Common.{arith, refl, ◌+◌, ◌*◌, ◌-◌}
use Rattle.card_text.proofs.Lines.{part_length, columns_start, columns_next, columns_end}
use Rattle.card_text.proofs.line.put_numbers.Goals as goal

pub loop-k-init : goal.loop-k-init
loop-k-init c = columns_start c.args.cards.now c.args.sequence c.args.text.now

pub put_number-requires : goal.put_number-requires
put_number-requires c =
    let long = part_length c.args.cards.now (49 * c.args.sequence + 1 + 4 * (c.loop-k.k - 1)) 4 (omega (arith, c.loop-k.invariant.below)) in
    (omega (arith, long), omega (arith, long, c.loop-k.invariant.within))

pub loop-k-preserved : goal.loop-k-preserved
loop-k-preserved c =
    let from = 49 * c.args.sequence + 1 + 4 * (c.loop-k.k - 1) in
    columns_next _ _ _ _ _ c.loop-k.invariant _ _ c.put_number.ensures (c.loop-k.k - 1) ((from + 4) - from) (omega arith) (omega arith) refl
    (part_length c.args.cards.now from 4 (omega (arith, c.loop-k.invariant.below)))

pub put_number-requires-2 : goal.put_number-requires-2
put_number-requires-2 c =
    let long = part_length c.args.cards.now (49 * c.args.sequence) 1 (omega arith) in
    (omega (arith, long), omega (arith, long, c.loop-k.invariant.within))

pub returns : goal.returns
returns c =
    let from = 49 * c.args.sequence in
    columns_end _ _ _ _ _ c.loop-k.invariant _ _ c.put_number-2.ensures ((from + 1) - from) (omega arith) (omega arith) refl
    (part_length c.args.cards.now from 1 (omega arith)) c.requires.1
