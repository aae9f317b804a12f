-- `dulimoven_seal` meets its contract, by those of the seal call and of its answer's number.
-- Assumes nothing.
use mathlib.Core.Path.{ap, ap₂, ◌∙◌}
use Rattle.seal.specs.Answer.{seal_answer}
use Rattle.dulimoven.specs.Returned.{returned}
use Rattle.dulimoven.proofs.dulimoven_seal.Goals as goal

pub returns : goal.returns
returns c =
    let called = c.seal.ensures in
    ap₂ returned (c.seal_answer.ensures ∙ ap seal_answer called.answer) called.image
