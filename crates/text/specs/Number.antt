-- Numbers as text: "in decimal", "in hexadecimal, lower case, no leading zeros" (document 01, "The printing program").
use Rattle.std.specs.Prelude.{ℕ, zero, suc, ◌+◌, ◌/◌, ◌%◌, cond, List, [], ◌∷◌, ◌++◌, ltb}

-- the ASCII code of a digit below 16: `0` to `9`, then `a` to `f`
abbrev pub digit : ℕ → ℕ
digit d = cond (ltb d 10) (48 + d) (87 + d)

-- A number below the base is one digit; any other is the numeral of n / b and then the digit of n % b. No more than k + 1 digits are
-- looked at.
unfoldable pub numeral_in : ℕ → ℕ → ℕ → List ℕ
numeral_in b zero n = digit n ∷ []
numeral_in b (suc k) n =
    let front : List ℕ = numeral_in b k (n / b) in
    cond (ltb n b) (digit n ∷ []) (front ++ (digit (n % b) ∷ []))

-- the numeral of n in base b: n has no more than n + 1 digits
unfoldable pub numeral : ℕ → ℕ → List ℕ
numeral b n = numeral_in b n n

-- the k digits of n in base b, zeros in front of it among them: the last of them is the digit of n % b
unfoldable pub digits_in : ℕ → ℕ → ℕ → List ℕ
digits_in b zero n = []
digits_in b (suc k) n = digits_in b k (n / b) ++ (digit (n % b) ∷ [])
