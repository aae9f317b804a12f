-- Orders, in the form that the loops follow: the numbers in turn, and the marks of those that an order names.
use Rattle.std.specs.Prelude.{◌≡◌, ℕ, ◌<◌, true, List, slice_index}
use Rattle.callers.specs.Callers.{in_set}
use Rattle.general.specs.Numbers.{Named}

-- the numbers below n in turn
abbrev pub InTurn : List ℕ → ℕ → Type 0
InTurn order n = (c : ℕ) → c < n → slice_index order c ≡ c

-- the marks of numbers, as a set: each that is marked is named
abbrev pub MarksNamed : List ℕ → List ℕ → Type 0
MarksNamed order seen = (c : ℕ) → in_set seen c ≡ true → Named order c

abbrev pub AllMarked : List ℕ → ℕ → Type 0
AllMarked seen n = (c : ℕ) → c < n → in_set seen c ≡ true
