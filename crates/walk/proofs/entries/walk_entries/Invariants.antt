-- `walk::entries::walk_entries` meets its contract: what the walk comes to from here on, it comes to from its start on.
-- Assumes nothing.
use Rattle.std.proofs.Common.{ℕ, Result}
use Rattle.walk.specs.Entries.{Walked}
use Rattle.walk.proofs.entries.walk_entries.Given as goal

abbrev pub invariant-loop-i : goal.invariant-loop-i
invariant-loop-i g l =
    (r : Result _ _) (e : ℕ) → Walked (λ a w o. goal.F-post g l.turn a w o) l.part l.known l.i r e
    → Walked (λ a w o. goal.F-post g l.turn a w o) l.part l.fn.start l.fn.at r e
