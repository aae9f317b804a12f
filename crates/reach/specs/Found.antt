-- What is found, as the struct that holds it: the asked one alone, and what is found after it.
use Rattle.std.specs.Prelude.{ℕ, ◌≤◌, ◌<◌, ◌≡◌, Bool, not, ◌&&◌, ◌||◌, List, eqb, get_or}
use Rattle.callers.specs.Callers.{in_set}
use Rattle.reach.specs.declared.found.Reached.{Reached}

-- sequence c is found, and no other
pub record Alone (runs : List ℕ) (n c : ℕ) (found : Reached) : Type 0 where
  pub runs_same : found.runs.now ≡ runs
  pub bound : found.n ≡ n
  pub one : found.count ≡ 1
  pub first : get_or found.queue.now 0 0 ≡ c
  pub asked : (e : ℕ) → in_set found.set e ≡ eqb e c

-- those that a test names and that are not among `runs` are found too, and no other; what stood in the queue stays
pub record Noted (names : ℕ → Bool) (before after : Reached) : Type 0 where
  pub runs_same : after.runs.now ≡ before.runs.now
  pub bound : after.n ≡ before.n
  pub same : (e : ℕ) → in_set after.set e ≡ (in_set before.set e || (names e && not (in_set before.runs.now e)))
  pub kept : (j : ℕ) → j < before.count → get_or after.queue.now j 0 ≡ get_or before.queue.now j 0
  pub more : before.count ≤ after.count
