-- `chain::call::chain` meets its contract: 1 to 7 by the check, and then the question.
-- Assumes nothing.
use mathlib.Core.Path.{sym, ◌∙◌}
use Rattle.chain.proofs.Calls.{call_refused}
use Rattle.chain.proofs.call.chain.Goals as goal

pub returns-in-Err : goal.returns-in-Err
returns-in-Err c =
    let a = c.args in
    call_refused a.image.now _ a.sequence a.question a.fact a.area.now (sym c.check.ensures ∙ c.in-Err.is)
