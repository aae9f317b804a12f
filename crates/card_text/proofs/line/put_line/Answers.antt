-- `card_text::line::put_line` meets its contract: the line's end, the numbers and the sequence's number, each in front of the one before.
-- Assumes nothing.
use Rattle.std.proofs.Common.{arith}
use Rattle.card_text.proofs.Lines.{decimal_asked, line_put}
use Rattle.card_text.proofs.line.put_line.Goals as goal

pub put_numeral-requires : goal.put_numeral-requires
put_numeral-requires c =
    rw c.from.ensures (decimal_asked _ _ c.ranges.sequence.fits (omega (arith, c.put_byte.ensures.front.room, c.put_numbers.ensures.within)))

pub returns : goal.returns
returns c = line_put _ _ _ _ _ _ c.ranges.sequence.fits c.put_byte.ensures c.put_numbers.ensures (rw c.from.ensures at c.put_numeral.ensures)
