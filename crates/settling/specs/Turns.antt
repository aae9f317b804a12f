-- Turns: a number that is stale is visited next, until none is; and what is stale after a visit.
use Rattle.std.specs.Prelude.{ℕ, ◌+◌, ◌-◌, ◌≤◌, ◌<◌, ◌≡◌, Bool, true, false, cond, ◌&&◌, ltb, List, length, get_or, Option, Some, None}
use Rattle.image.specs.Word.{most_sequences}
use Rattle.callers.specs.Callers.{in_set, is_caller, Removed}

-- the place that comes at turn i: first to last, or last to first
abbrev pub place_of : Bool → ℕ → ℕ → ℕ
place_of forward len i = cond forward i (len - 1 - i)

-- the number at a place of an order, gone through first to last or last to first
abbrev pub number_at : List ℕ → Bool → ℕ → ℕ
number_at order forward i = get_or order (place_of forward (length order) i) 0

-- number c is below n and stale
abbrev pub to_visit : ℕ → List ℕ → ℕ → Bool
to_visit n stale c = ltb c n && in_set stale c

-- no number below n is stale at the places from `at` up to and without i
abbrev pub Passed : ℕ → List ℕ → List ℕ → Bool → ℕ → ℕ → Type 0
Passed n order stale forward at i =
    (j : ℕ) → at ≤ j → j < i → j < length order → to_visit n stale (number_at order forward j) ≡ false

-- number c is the first one from place `at` on that is below n and stale, and `next` comes after its place
pub record FirstStale (n : ℕ) (order stale : List ℕ) (forward : Bool) (at next c : ℕ) : Type 0 where
  -- its place, from `at` on
  pub place : ℕ
  pub from : at ≤ place
  -- it is one of the order's
  pub within : place < length order
  -- the number is the one at that place
  pub number : c ≡ number_at order forward place
  -- it is one of those below n
  pub low : c < n
  -- it is stale
  pub chosen : in_set stale c ≡ true
  -- no place before it has such a number
  pub passed : Passed n order stale forward at place
  -- the place from which the next one is looked for
  pub after : next ≡ place + 1

-- what is found from place `at` on: the first stale number below n, and the place after it, or that there is none
abbrev pub Looked : ℕ → List ℕ → List ℕ → Bool → ℕ → ℕ → Option ℕ → Type 0
Looked n order stale forward at next (Some c) = FirstStale n order stale forward at next c
Looked n order stale forward at next None = Passed n order stale forward at (length order)

-- the number of the next turn is stale, and where there is none no number below n is
abbrev pub NextTurn : ℕ → List ℕ → Option ℕ → Type 0
NextTurn n stale (Some c) = (c < n) × (in_set stale c ≡ true)
NextTurn n stale None = (c : ℕ) → c < n → in_set stale c ≡ false

-- what is stale after a visit of number c: c is taken out, and nothing else where the visit changed nothing; otherwise the callers of c are
-- put in
pub record StaleAfter (callers : List ℕ) (c : ℕ) (before after : List ℕ) (changed : Bool) : Type 0 where
  pub unchanged : changed ≡ false → Removed c before after
  pub others : (d : ℕ) → d < most_sequences → in_set after d ≡ false → (d ≡ c → ⊥) → in_set before d ≡ false
  pub called : changed ≡ true → (d : ℕ) → d < most_sequences → in_set after d ≡ false → is_caller callers c d ≡ false
