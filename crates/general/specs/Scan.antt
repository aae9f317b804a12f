-- Scans: a test of every element, the least of some numbers, the first and the last index that passes a test, a list by its indices, the
-- numbers that pass a test.
use Rattle.std.specs.Prelude.{ℕ, zero, suc, min, max, Bool, true, cond, ◌&&◌, List, [], ◌∷◌, ◌++◌}

-- every element of the list passes the test
unfoldable pub every : {A : Type 0} → (A → Bool) → List A → Bool
every p [] = true
every p (x ∷ xs) = let later : Bool = every p xs in p x && later

-- the least of r and the values at the indices below n
unfoldable pub least_below : (ℕ → ℕ) → ℕ → ℕ → ℕ
least_below v r zero = r
least_below v r (suc n) = min (least_below v r n) (v n)

-- the greatest of the values of the elements, 0 without elements
unfoldable pub greatest : {A : Type 0} → (A → ℕ) → List A → ℕ
greatest v [] = 0
greatest v (x ∷ xs) = max (v x) (greatest v xs)

-- the lowest index below n that passes the test, n where none does
unfoldable pub first_index : (ℕ → Bool) → ℕ → ℕ
first_index p zero = 0
first_index p (suc n) = let later : ℕ = suc (first_index (λ i. p (suc i)) n) in cond (p 0) 0 later

-- the highest index below n that passes the test, d where none does
unfoldable pub last_index : (ℕ → Bool) → ℕ → ℕ → ℕ
last_index p d zero = d
last_index p d (suc n) = let lower : ℕ = last_index p d n in cond (p n) n lower

-- the values at the indices below n
unfoldable pub list_below : (ℕ → ℕ) → ℕ → List ℕ
list_below v zero = []
list_below v (suc n) = v 0 ∷ list_below (λ i. v (suc i)) n

-- the numbers below n that pass the test, in rising order
unfoldable pub passing : (ℕ → Bool) → ℕ → List ℕ
passing p zero = []
passing p (suc n) = passing p n ++ cond (p n) (n ∷ []) []
