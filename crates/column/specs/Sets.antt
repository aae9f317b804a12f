-- Columns as sets of facts.
use Rattle.std.specs.Prelude.{ℕ, zero, suc, ◌+◌, ◌-◌, ◌^◌, Bool, eqb}
use Rattle.std.specs.Int.Bits.{bit_and}
use mir.Val.{bool_byte}
use Rattle.column.specs.Column.{bit}

-- the facts of column a that are not in column b; both have width w
abbrev pub difference : ℕ → ℕ → ℕ → ℕ
difference w a b = bit_and a (2 ^ w - 1 - b)

-- no fact is in both columns
abbrev pub disjoint : ℕ → ℕ → Bool
disjoint a b = eqb (bit_and a b) 0

-- fact f is in column a
unfoldable pub in_column : ℕ → ℕ → Bool
unfolding bit
in_column a f = eqb (bit a f) 1

-- the number of facts below n of which p holds
unfoldable pub count_below : ℕ → (ℕ → Bool) → ℕ
count_below zero p = 0
count_below (suc n) p = bool_byte (p 0) + count_below n (λ (k : ℕ). p (suc k))
