-- `dulimoven_check` meets its contract, by those of the check and of its answer's number.
-- Assumes nothing.
use mathlib.Core.Path.{ap, ◌∙◌}
use Rattle.image.specs.Answer.{checked_answer}
use Rattle.dulimoven.proofs.dulimoven_check.Goals as goal

pub returns : goal.returns
returns c = c.answer_number.ensures ∙ ap checked_answer c.check.ensures
