-- `card_text::line::put_numbers` meets its contract: from the last column to the first, and the flags.
-- Assumes nothing.
use Rattle.card_text.proofs.Lines.{ColumnsAt}
use Rattle.card_text.proofs.line.put_numbers.Given as goal

abbrev pub invariant-loop-k : goal.invariant-loop-k
invariant-loop-k l = ColumnsAt l.cards l.sequence l.initial.text l.k l.text
