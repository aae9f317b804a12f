-- A column with no bit from n upward is below 2^n.
-- Assumes nothing.
use Prim.Native.Nat.{ℕ, zero, suc, ◌^◌, ◌≤◌, ◌<◌, suc-le-suc}
use native.Mathlib.Nat.{pow-suc}
use native.Mathlib.Omega.{arith}
use lib.Pow.{pow_pos}
use mathlib.Core.Path.{◌≡◌, ap}
use mathlib.Core.Bool.{Bool, false}
use mir.Val.{bool_byte}
use Rattle.column.specs.Column.{column}
use Rattle.column.proofs.Bits.{byte_le}

pub column_low : (w n : ℕ) (p : ℕ → Bool) → ((k : ℕ) → n ≤ k → k < w → p k ≡ false) → column w p < 2 ^ n
unfolding column
column_low zero n p none = omega (arith, pow_pos n)
column_low (suc w) zero p none =
    omega (arith, ap bool_byte (none 0 (omega arith) (omega arith)), column_low w zero (λ (k : ℕ). p (suc k)) (λ k l u. none (suc k) (omega arith) (suc-le-suc u)))
column_low (suc w) (suc n) p none =
    omega (arith, byte_le (p 0), pow-suc 2 n, column_low w n (λ (k : ℕ). p (suc k)) (λ k l u. none (suc k) (suc-le-suc l) (suc-le-suc u)))
