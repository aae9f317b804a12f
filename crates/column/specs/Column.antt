-- Columns: numbers whose bit f says something of fact f.
use Rattle.std.specs.Prelude.{ℕ, zero, suc, ◌+◌, ◌-◌, ◌*◌, ◌/◌, ◌%◌, ◌^◌, min, Bool}
use Rattle.std.specs.Int.Bits.{bit_or}
use mir.Val.{bool_byte}

-- the bit of n at place k
unfoldable pub bit : ℕ → ℕ → ℕ
bit n k = n / 2 ^ k % 2

-- the number whose bit f, for f below n, is set exactly where p holds of f, and in which no other bit is set
unfoldable pub column : ℕ → (ℕ → Bool) → ℕ
column zero p = 0
column (suc n) p = bool_byte (p 0) + 2 * column n (λ (k : ℕ). p (suc k))

-- a column with bit f set too
abbrev pub with_fact : ℕ → ℕ → ℕ
with_fact c f = bit_or c (2 ^ f)

-- all facts below n, or as many as a column of width w has room for
abbrev pub all_below : ℕ → ℕ → ℕ
all_below w n = 2 ^ min n w - 1
