-- Four words of a list that stand next to each other.
use Rattle.std.specs.Prelude.{ℕ, ◌+◌, ◌⊎◌, List, get_or}

-- each of the four words from index i on keeps P
pub record AllFour (P : ℕ → Type 0) (ws : List ℕ) (i : ℕ) : Type 0 where
  pub first : P (get_or ws i 0)
  pub second : P (get_or ws (i + 1) 0)
  pub third : P (get_or ws (i + 2) 0)
  pub fourth : P (get_or ws (i + 3) 0)

-- one of the four words from index i on keeps P
abbrev pub SomeOfFour : (ℕ → Type 0) → List ℕ → ℕ → Type 0
SomeOfFour P ws i = P (get_or ws i 0) ⊎ P (get_or ws (i + 1) 0) ⊎ P (get_or ws (i + 2) 0) ⊎ P (get_or ws (i + 3) 0)
