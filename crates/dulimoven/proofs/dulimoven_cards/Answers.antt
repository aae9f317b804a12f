-- `dulimoven_cards` meets its contract, by those of the card call and of its answer's number.
-- Assumes nothing.
use mathlib.Core.Path.{ap, ap₂, ◌∙◌}
use Rattle.card.specs.Answer.{cards_answer}
use Rattle.dulimoven.specs.Returned.{returned}
use Rattle.dulimoven.proofs.dulimoven_cards.Goals as goal

pub returns : goal.returns
returns c =
    let called = c.cards.ensures in
    ap₂ returned (c.answer_number.ensures ∙ ap cards_answer called.answer) called.area
