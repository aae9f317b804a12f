-- `card_text::line::put_refusal` meets its contract: five pieces, each in front of the one before.
-- Assumes nothing.
use Rattle.std.proofs.Common.{arith}
use Rattle.card_text.proofs.Lines.{long_length, long_asked, refusal_put}
use Rattle.card_text.proofs.line.put_refusal.Goals as goal

pub put_numeral-requires : goal.put_numeral-requires
put_numeral-requires c = long_asked _ _ c.ranges.position.fits (omega (arith, c.put_byte.ensures.front.room))

pub put_bytes-requires : goal.put_bytes-requires
put_bytes-requires c =
    omega (arith, long_length c.args.position c.ranges.position.fits, c.put_byte.ensures.front.room, c.put_numeral.ensures.front.room)

pub put_numeral-requires-2 : goal.put_numeral-requires-2
put_numeral-requires-2 c =
    long_asked _ _ c.ranges.number.fits
    (omega (arith, long_length c.args.position c.ranges.position.fits, c.put_byte.ensures.front.room, c.put_numeral.ensures.front.room, c.put_bytes.ensures.front.room))

pub put_bytes-requires-2 : goal.put_bytes-requires-2
put_bytes-requires-2 c =
    omega (arith, long_length c.args.position c.ranges.position.fits, long_length c.args.number c.ranges.number.fits, c.put_byte.ensures.front.room, c.put_numeral.ensures.front.room, c.put_bytes.ensures.front.room, c.put_numeral-2.ensures.front.room)

pub returns : goal.returns
returns c =
    refusal_put _ _ _ _ _ _ _ _ c.put_byte.ensures c.put_numeral.ensures c.put_bytes.ensures c.put_numeral-2.ensures c.put_bytes-2.ensures
