-- `callers::sets::Set::first_caller` meets its contract.
-- Assumes nothing.
use Rattle.std.proofs.Common.{◌+◌, ◌*◌, slice_index_or, refl, arith}
use Rattle.std.proofs.lemmas.Nat.{and_le_r}
use Rattle.callers.proofs.CallerSets.{first_in}
use Rattle.callers.proofs.sets.Set.first_caller.Goals as goal

pub returns-then-both-ne0 : goal.returns-then-both-ne0
returns-then-both-ne0 c =
    let words = c.self.inside.words in
    let callers = c.args.callers.now in
    let k = c.loop-k.k in
    let room = c.type_inv.callers (4 * c.args.d + k) in
    rw (← c.self.view_is)
    (first_in words callers c.args.d k _ _ _ c.loop-k-test.true refl (omega (arith, c.if-both-ne0.true))
    (omega (arith, and_le_r (slice_index_or words k 0) (slice_index_or callers (4 * c.args.d + k) 0), room)) refl refl)
