-- `dulimoven_list` meets its contract, by those of the list call and of its answer's number.
-- Assumes nothing.
use mathlib.Core.Path.{ap, ap₂, ◌∙◌}
use Rattle.list.specs.Answer.{listed_answer}
use Rattle.dulimoven.specs.Returned.{returned}
use Rattle.dulimoven.proofs.dulimoven_list.Goals as goal

pub returns : goal.returns
returns c =
    let called = c.list.ensures in
    ap₂ returned (c.answer_number.ensures ∙ ap listed_answer called.answer) called.card
