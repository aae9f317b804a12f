-- `card_text::line::put_lines` meets its contract: from the last sequence to the first.
-- Assumes nothing.
use Rattle.card_text.specs.Writers.{numbers_of}
use Rattle.card_text.proofs.Lines.{LinesAt}
use Rattle.card_text.proofs.line.put_lines.Given as goal

abbrev pub invariant-loop-c : goal.invariant-loop-c
invariant-loop-c l = LinesAt (numbers_of l.cards) l.n l.initial.text l.c l.text
