-- `dulimoven_endless` meets its contract, by those of the endless call and of its answer's number.
-- Assumes nothing.
use mathlib.Core.Path.{ap, ap₂, ◌∙◌}
use Rattle.endless.specs.Answer.{endless_answer}
use Rattle.dulimoven.specs.Returned.{returned}
use Rattle.dulimoven.proofs.dulimoven_endless.Goals as goal

pub returns : goal.returns
returns c =
    let called = c.endless.ensures in
    ap₂ returned (c.endless_answer.ensures ∙ ap endless_answer called.answer) called.area
