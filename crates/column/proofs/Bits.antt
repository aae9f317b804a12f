-- Laws of bits, over the place and the width: each operation on words bit by bit, numbers by their bits, and columns.
-- Assumes nothing.
use Prim.Native.Nat.{ℕ, zero, suc, ◌+◌, ◌-◌, ◌*◌, ◌/◌, ◌%◌, ◌^◌, ◌≤◌, ◌<◌, max, min}
use native.Mathlib.Nat.{mod-lt, pow-suc, le_of_suc-le-suc, div-eq_of_lt, lt_of_lt_of_le, zero-lt-suc}
use native.Mathlib.Numerals.{one-add}
use native.Mathlib.Omega.{arith}
use mathlib.Core.Path.{◌≡◌, refl, sym, ap, ◌∙◌}
use mathlib.Core.Bool.{Bool, true, false, ◌||◌}
use lib.Bits.{bit_and, bit_or, and_shr, or_shr, and_step, or_step, or_lt}
use borrow.Author.Tests.{ne_eqb}
use lib.Dec.{eqb, eqb-suc-suc, eqb-zero-suc}
use lib.Pow.{pow_mono, shr-shr, pow-lt}
use mir.Val.{bool_byte}
use Rattle.column.specs.Column.{bit, column, with_fact}

-- ---- one bit

pub bit_le : (a k : ℕ) → bit a k ≤ 1
unfolding bit
bit_le a k = le_of_suc-le-suc (mod-lt (a / 2 ^ k) (zero-lt-suc 1))

pub bit_zero : (a : ℕ) → bit a 0 ≡ a % 2
unfolding bit
bit_zero a = omega arith

pub bit_suc : (a k : ℕ) → bit a (suc k) ≡ bit (a / 2) k
unfolding bit
bit_suc a k = ap (λ (n : ℕ). n % 2) (ap (λ (n : ℕ). a / 2 ^ n) (sym (one-add k)) ∙ sym (shr-shr a 1 k))

pub bit_none : (k : ℕ) → bit 0 k ≡ 0
bit_none zero = bit_zero 0
bit_none (suc k) = bit_suc 0 k ∙ bit_none k

-- no bit is set past the width
pub bit_high : (w a k : ℕ) → a < 2 ^ w → w ≤ k → bit a k ≡ 0
unfolding bit
bit_high w a k l u = ap (λ (n : ℕ). n % 2) (div-eq_of_lt (lt_of_lt_of_le l (pow_mono u)))

-- ---- the operations, bit by bit

pub bit_or_lem : (a b k : ℕ) → bit (bit_or a b) k ≡ max (bit a k) (bit b k)
unfolding bit
bit_or_lem a b k = ap (λ (n : ℕ). n % 2) (or_shr a b k) ∙ omega (arith, or_step (a / 2 ^ k) (b / 2 ^ k))

pub bit_and_lem : (a b k : ℕ) → bit (bit_and a b) k ≡ min (bit a k) (bit b k)
unfolding bit
bit_and_lem a b k = ap (λ (n : ℕ). n % 2) (and_shr a b k) ∙ omega (arith, and_step (a / 2 ^ k) (b / 2 ^ k))

-- all bits below the width turned round
pub bit_not : (w a k : ℕ) → a < 2 ^ w → k < w → bit (2 ^ w - 1 - a) k ≡ 1 - bit a k
bit_not zero a k l u = absurd (omega arith)
bit_not (suc w) a zero l u = omega (arith, bit_zero a, bit_zero (2 ^ suc w - 1 - a), pow-suc 2 w)
bit_not (suc w) a (suc k) l u =
    let half : (2 ^ suc w - 1 - a) / 2 ≡ 2 ^ w - 1 - a / 2 = omega (arith, pow-suc 2 w) in
    bit_suc (2 ^ suc w - 1 - a) k ∙ ap (λ (n : ℕ). bit n k) half ∙ bit_not w (a / 2) k (omega (arith, pow-suc 2 w)) (le_of_suc-le-suc u)
    ∙ ap (λ (n : ℕ). 1 - n) (sym (bit_suc a k))

pub bit_pow : (f k : ℕ) → bit (2 ^ f) k ≡ bool_byte (eqb f k)
bit_pow zero zero = bit_zero 1
bit_pow zero (suc k) = bit_suc 1 k ∙ bit_none k ∙ ap bool_byte (sym (eqb-zero-suc k))
bit_pow (suc f) zero =
    let even : 2 ^ suc f % 2 ≡ 0 = omega (arith, pow-suc 2 f) in
    bit_zero (2 ^ suc f) ∙ even ∙ ap bool_byte (sym (ne_eqb (suc f) 0 (λ e. omega arith)))
bit_pow (suc f) (suc k) =
    let half : 2 ^ suc f / 2 ≡ 2 ^ f = omega (arith, pow-suc 2 f) in
    bit_suc (2 ^ suc f) k ∙ ap (λ (n : ℕ). bit n k) half ∙ bit_pow f k ∙ ap bool_byte (sym (eqb-suc-suc f k))

-- ---- numbers by their bits

pub bits_equal : (w a b : ℕ) → a < 2 ^ w → b < 2 ^ w → ((k : ℕ) → k < w → bit a k ≡ bit b k) → a ≡ b
bits_equal zero a b l u same = omega arith
bits_equal (suc w) a b l u same =
    let half = bits_equal w (a / 2) (b / 2) (omega (arith, pow-suc 2 w)) (omega (arith, pow-suc 2 w)) (λ k m. sym (bit_suc a k) ∙ same (suc k) (omega arith) ∙ bit_suc b k) in
    omega (arith, same 0 (omega arith), bit_zero a, bit_zero b)

-- ---- columns

pub byte_le : (b : Bool) → bool_byte b ≤ 1
byte_le true = omega arith
byte_le false = omega arith

pub column_lt : (n : ℕ) (p : ℕ → Bool) → column n p < 2 ^ n
unfolding column
column_lt zero p = omega arith
column_lt (suc n) p = omega (arith, column_lt n (λ (k : ℕ). p (suc k)), byte_le (p 0), pow-suc 2 n)

pub bit_column : (n : ℕ) (p : ℕ → Bool) (k : ℕ) → k < n → bit (column n p) k ≡ bool_byte (p k)
unfolding column
bit_column zero p k l = absurd (omega arith)
bit_column (suc n) p zero l = bit_zero _ ∙ omega (arith, byte_le (p 0))
bit_column (suc n) p (suc k) l =
    let rest = column n (λ (j : ℕ). p (suc j)) in
    let half : (bool_byte (p 0) + 2 * rest) / 2 ≡ rest = omega (arith, byte_le (p 0)) in
    bit_suc _ k ∙ ap (λ (m : ℕ). bit m k) half ∙ bit_column n (λ (j : ℕ). p (suc j)) k (le_of_suc-le-suc l)

pub column_is : (n a : ℕ) (p : ℕ → Bool) → a < 2 ^ n → ((k : ℕ) → k < n → bit a k ≡ bool_byte (p k)) → a ≡ column n p
column_is n a p l same = bits_equal n a (column n p) l (column_lt n p) (λ k u. same k u ∙ sym (bit_column n p k u))

-- columns of tests that agree are equal
pub column_same : (n : ℕ) (p q : ℕ → Bool) → ((k : ℕ) → k < n → p k ≡ q k) → column n p ≡ column n q
column_same n p q same = column_is n (column n p) q (column_lt n p) (λ k l. bit_column n p k l ∙ ap bool_byte (same k l))

pub byte_or : (a b : Bool) → bool_byte (a || b) ≡ max (bool_byte a) (bool_byte b)
byte_or true true = refl
byte_or true false = refl
byte_or false true = refl
byte_or false false = refl

-- one fact more
pub column_with : (n f : ℕ) (p : ℕ → Bool) → f < n → with_fact (column n p) f ≡ column n (λ (k : ℕ). eqb f k || p k)
column_with n f p l =
    column_is n (with_fact (column n p) f) (λ (k : ℕ). eqb f k || p k) (or_lt n (column n p) (2 ^ f) (column_lt n p) (pow-lt l))
    (λ k u. bit_or_lem (column n p) (2 ^ f) k ∙ omega (arith, bit_column n p k u, bit_pow f k, byte_or (eqb f k) (p k)))

-- no fact
pub column_none : (n : ℕ) → column n (λ (k : ℕ). false) ≡ 0
unfolding column
column_none zero = refl
column_none (suc n) = omega (arith, column_none n)

low_pow : (n : ℕ) → n < 2 ^ n
low_pow zero = omega arith
low_pow (suc n) = omega (arith, low_pow n, pow-suc 2 n)

-- numbers with the same bits are equal
pub all_bits_lem : (a b : ℕ) → ((k : ℕ) → bit a k ≡ bit b k) → a ≡ b
all_bits_lem a b same =
    bits_equal (a + b) a b (omega (arith, low_pow (a + b))) (omega (arith, low_pow (a + b))) (λ k l. same k)
