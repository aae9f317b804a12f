-- `card_text::line::put_low` meets its contract: the digits of the words so far stand in front.
-- Assumes nothing.
use Rattle.text.specs.Text.{Put}
use Rattle.card_text.specs.Writers.{digits_below}
use Rattle.card_text.proofs.line.put_low.Given as goal

abbrev pub invariant-loop-w : goal.invariant-loop-w
invariant-loop-w l = Put l.initial.text (digits_below l.words l.w-index) l.text
