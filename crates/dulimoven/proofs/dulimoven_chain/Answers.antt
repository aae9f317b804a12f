-- `dulimoven_chain` meets its contract, by those of the chain call and of its answer's number.
-- Assumes nothing.
use mathlib.Core.Path.{ap, ap₂, ◌∙◌}
use Rattle.question.specs.Answer.{chain_answer}
use Rattle.dulimoven.specs.Returned.{returned}
use Rattle.dulimoven.proofs.dulimoven_chain.Goals as goal

pub returns : goal.returns
returns c =
    let called = c.chain.ensures in
    ap₂ returned (c.chain_answer.ensures ∙ ap chain_answer called.answer) called.area
