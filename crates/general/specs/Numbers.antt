-- Lists of numbers: their sum, one that names every number below a bound, one in rising order, one of zeros.
use Rattle.std.specs.Prelude.{ℕ, ◌+◌, ◌<◌, ◌≡◌, List, [], ◌∷◌, length, get_or}

-- the sum of the numbers
unfoldable pub total : List ℕ → ℕ
total [] = 0
total (x ∷ xs) = x + total xs

-- the list names number c
pub record Named (order : List ℕ) (c : ℕ) : Type 0 where
  pub place : ℕ
  pub within : place < length order
  pub number : get_or order place 0 ≡ c

-- each number below n
abbrev pub Complete : List ℕ → ℕ → Type 0
Complete order n = (c : ℕ) → c < n → Named order c

-- each number is below the next
abbrev pub Rising : List ℕ → Type 0
Rising [] = Unit {0}
Rising (x ∷ []) = Unit {0}
Rising (x ∷ y ∷ xs) = (x < y) × Rising (y ∷ xs)

-- every word is 0
abbrev pub Zeros : List ℕ → Type 0
Zeros area = (k : ℕ) → get_or area k 0 ≡ 0
