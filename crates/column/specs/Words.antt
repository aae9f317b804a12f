-- Columns in machine words: "Each column takes four words, facts 0 to 63 first" (document 02, request 8). A word has the facts of a block of 64.
use Rattle.std.specs.Prelude.{ℕ, zero, suc, ◌+◌, ◌-◌, ◌*◌, ◌/◌, ◌%◌, ◌^◌, min, Bool, cond, List, [], ◌∷◌, eqb}
use Rattle.column.specs.Column.{with_fact}

-- the n words of a column, facts 0 to 63 first
unfoldable pub words : ℕ → ℕ → List ℕ
words zero x = []
words (suc n) x = x % 2 ^ 64 ∷ words n (x / 2 ^ 64)

-- the column that words are
unfoldable pub number : List ℕ → ℕ
number [] = 0
number (w ∷ ws) = w + 2 ^ 64 * number ws

-- block k has the facts 64 k to 64 k + 63: what a test says of each of them
abbrev pub block : ℕ → (ℕ → Bool) → ℕ → Bool
block k p b = p (64 * k + b)

-- how many of the facts below n are in block k
abbrev pub facts_in : ℕ → ℕ → ℕ
facts_in n k = min 64 (n - 64 * k)

-- the column of block k with fact f in it too, if that is one of its facts
abbrev pub with_fact_in : ℕ → ℕ → ℕ → ℕ
with_fact_in k c f = cond (eqb (f / 64) k) (with_fact c (f % 64)) c

-- all facts of block k that are below n
abbrev pub all_in : ℕ → ℕ → ℕ
all_in n k = 2 ^ facts_in n k - 1
