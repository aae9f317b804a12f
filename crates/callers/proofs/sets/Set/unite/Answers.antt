-- `callers::sets::Set::unite` meets its contract, word by word.
-- Assumes nothing.
use Rattle.std.proofs.Common.{slice_index_or, ap, arith}
use Rattle.callers.proofs.CallerSets.{uniting_turn}
use Rattle.callers.proofs.sets.Set.unite.Goals as goal

pub loop-k-init : goal.loop-k-init
loop-k-init c = record { four = c.self.told; done = λ k l. absurd (omega arith); left = λ k l. ap (λ s. slice_index_or s k 0) c.self.view_is }

pub loop-k-preserved : goal.loop-k-preserved
loop-k-preserved c = uniting_turn c.args.d c.args.callers.now c.args.self.now c.loop-k.self-inside.words c.loop-k.k c.union.result c.loop-k-test.true c.union.ensures c.loop-k.invariant

pub returns : goal.returns
returns c = λ k l. c.loop-k.invariant.done k (omega arith)
