-- `callers::callees::Callees::of` meets its contract.
-- Assumes nothing.
use Rattle.callers.proofs.Calls.{left_start}
use Rattle.callers.proofs.callees.Callees.of.Goals as goal

pub returns-clause-calls : goal.returns-clause-calls
returns-clause-calls c = λ d. left_start c.args.part.now c.args.at c.entries_end.result d c.entries_end.ensures
