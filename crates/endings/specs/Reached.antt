-- The list of the sequences without a run that the asked one reaches, as a function that computes. That it is that list, and no other list
-- is, is proved in `proofs/`.
use Rattle.std.specs.Prelude.{ℕ, Bool, ◌&&◌, ◌||◌, List, length}
use Rattle.std.proofs.Math.Bool.{not}
use Rattle.std.proofs.Math.Dec.{eqb}
use Rattle.general.specs.Scan.{list_below, passing}
use Rattle.general.specs.Tests.{some}
use Rattle.library.specs.Library.{Library}
use Rattle.library.specs.Calls.{calls_of}
use Rattle.runs.specs.Run.{alternatives_of}
use Rattle.runs.specs.Possible.{has_run}
use Rattle.runs.specs.Levels.{least}

module _ (L : Library) where
  -- the numbers of the sequences
  unfoldable pub numbers : List ℕ
  unfolding list_below
  numbers = list_below (λ c. c) (length L.sequences)

  -- one look at sequence e, by what is found so far: it has no run, and is the asked one, or one that is found names it
  unfoldable pub look_from : ℕ → (ℕ → Bool) → ℕ → Bool
  unfolding some numbers
  look_from c found e = not (has_run L e) && (eqb e c || some (λ d. found d && calls_of (alternatives_of L.sequences d) e) numbers)

  -- sequence e is reached from sequence c
  unfoldable pub reaches : ℕ → ℕ → Bool
  unfolding least look_from numbers
  reaches c e = least eqb (look_from c) numbers e

  -- the sequences that sequence c reaches, in rising order
  unfoldable pub endless_list : ℕ → List ℕ
  unfolding passing reaches
  endless_list c = passing (reaches c) (length L.sequences)
