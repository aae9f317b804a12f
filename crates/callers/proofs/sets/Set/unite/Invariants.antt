-- `callers::sets::Set::unite` meets its contract, word by word.
-- Assumes nothing.
use Rattle.callers.proofs.CallerSets.{Uniting}
use Rattle.callers.proofs.sets.Set.unite.Given as goal

abbrev pub invariant-loop-k : goal.invariant-loop-k
invariant-loop-k l = Uniting l.d l.callers l.fn.self l.self-inside.words l.k
