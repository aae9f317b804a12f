-- `writer::card::numbers_of` meets its contract: number by number.
-- Assumes nothing.
use Rattle.std.proofs.Common.{rules}
use Rattle.writer.specs.Card.{row_numbers}
use Rattle.writer.proofs.card.numbers_of.Goals as goal

pub returns : goal.returns
unfolding row_numbers
returns c = search rules
