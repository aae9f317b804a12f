-- `reach::found::Reached::note_named` meets its contract: what is found so far, with the calls that are left, is all.
-- Assumes nothing.
use Rattle.std.proofs.Common.{◌≡◌, false, ℕ, List, subst}
use Rattle.callers.specs.Callees.{calls_left}
use Rattle.reach.proofs.Queue.{noting_start, noting_done}
use Rattle.reach.proofs.found.Reached.note_named.Goals as goal

pub loop-d-init : goal.loop-d-init
loop-d-init c =
    rw c.into_iter-d-iterator.ensures.into_iter_gives
    (c.of-d-items.ensures.same, noting_start c.args.part.now c.args.at c.args.self.now c.of-d-items.result.at c.of-d-items.ensures.calls)

pub returns : goal.returns
returns c =
    noting_done c.loop-d.invariant.1
    (subst (λ (part : List ℕ). (d : ℕ) → calls_left part c.loop-d.d-iterator.at d ≡ false) c.loop-d.invariant.0 c.in-None.ensures.steps.1)
