-- Columns as sets of facts, over the width: what each operation gives of the columns of two tests, the count of a column's facts,
-- and a column read one fact at a time.
-- Assumes nothing.
use Prim.Native.Nat.{ℕ, zero, suc, ◌+◌, ◌-◌, ◌*◌, ◌/◌, ◌%◌, ◌^◌, ◌≤◌, ◌<◌, min}
use native.Mathlib.Nat.{pow-suc}
use native.Mathlib.Omega.{arith}
use mathlib.Core.Path.{◌≡◌, refl, sym, ap, ap₂, ◌∙◌}
use mathlib.Core.Logic.{◌↔◌}
use mathlib.Core.Bool.{Bool, true, false, not, ◌&&◌, ◌||◌, false≢true, true≢false}
use lib.Bits.{bit_and, bit_or, or_lt, and_le_l}
use lib.Count.{ones, ones_step}
use lib.Dec.{eqb}
use borrow.Author.Tests.{eqb-true, eq-eqb, ne_eqb}
use lib.Pow.{pow_mono, pow_pos}
use mir.Val.{bool_byte}
use Rattle.column.specs.Column.{bit, column, with_fact}
use Rattle.column.specs.Sets.{difference, disjoint, in_column, count_below}
use Rattle.column.proofs.Bits.{bit_le, bit_none, byte_le, byte_or, bit_or_lem, bit_and_lem, bit_not, bit_pow, bit_high, column_lt, bit_column, column_is, column_same}

-- ---- tests as bits

byte_and : (a b : Bool) → bool_byte (a && b) ≡ min (bool_byte a) (bool_byte b)
byte_and true true = refl
byte_and true false = refl
byte_and false true = refl
byte_and false false = refl

byte_not : (a : Bool) → bool_byte (not a) ≡ 1 - bool_byte a
byte_not true = refl
byte_not false = refl

-- ---- the operations

-- the union
pub column_or : (n : ℕ) (p q : ℕ → Bool) → bit_or (column n p) (column n q) ≡ column n (λ (k : ℕ). p k || q k)
column_or n p q =
    column_is n (bit_or (column n p) (column n q)) (λ (k : ℕ). p k || q k) (or_lt n (column n p) (column n q) (column_lt n p) (column_lt n q))
    (λ k l. bit_or_lem (column n p) (column n q) k ∙ omega (arith, bit_column n p k l, bit_column n q k l, byte_or (p k) (q k)))

-- the difference, in words of any width that holds the columns
pub column_difference : (w n : ℕ) (p q : ℕ → Bool) → n ≤ w → difference w (column n p) (column n q) ≡ column n (λ (k : ℕ). p k && not (q k))
column_difference w n p q u =
    let a = column n p in
    let b = column n q in
    let wide : b < 2 ^ w = omega (arith, column_lt n q, pow_mono u) in
    column_is n (difference w a b) (λ (k : ℕ). p k && not (q k)) (omega (arith, and_le_l a (2 ^ w - 1 - b), column_lt n p))
    (λ k l. bit_and_lem a (2 ^ w - 1 - b) k
    ∙ omega (arith, bit_column n p k l, bit_column n q k l, bit_not w b k wide (omega arith), byte_and (p k) (not (q k)), byte_not (q k)))

-- every fact below n
pub column_all : (n : ℕ) → column n (λ (k : ℕ). true) ≡ 2 ^ n - 1
unfolding column
column_all zero = refl
column_all (suc n) = omega (arith, column_all n, pow-suc 2 n, pow_pos n)

-- ---- the count

-- the count of ones of a column is the number of facts of which its test holds
pub ones_column : (n : ℕ) (p : ℕ → Bool) → ones (column n p) ≡ count_below n p
unfolding column count_below ones
ones_column zero p = refl
ones_column (suc n) p =
    let rest = column n (λ (k : ℕ). p (suc k)) in
    let low : (bool_byte (p 0) + 2 * rest) % 2 ≡ bool_byte (p 0) = omega (arith, byte_le (p 0)) in
    let high : (bool_byte (p 0) + 2 * rest) / 2 ≡ rest = omega (arith, byte_le (p 0)) in
    ones_step (bool_byte (p 0) + 2 * rest) ∙ ap₂ (λ (a b : ℕ). a + ones b) low high
    ∙ ap (λ (m : ℕ). bool_byte (p 0) + m) (ones_column n (λ (k : ℕ). p (suc k)))

pub count_le : (n : ℕ) (p : ℕ → Bool) → count_below n p ≤ n
unfolding count_below
count_le zero p = omega arith
count_le (suc n) p = omega (arith, byte_le (p 0), count_le n (λ (k : ℕ). p (suc k)))

-- ---- one fact

byte_one : (b : Bool) → (bool_byte b ≡ 1) ↔ (b ≡ true)
byte_one true = ((λ e. refl), λ e. refl)
byte_one false = ((λ e. absurd (omega arith)), λ e. absurd (false≢true e))

-- a fact is in the column of a test exactly where it is below the width and the test holds of it
pub bit_one : (n : ℕ) (p : ℕ → Bool) (k : ℕ) → k < n → (bit (column n p) k ≡ 1) ↔ (p k ≡ true)
bit_one n p k l = ((λ e. (byte_one (p k)).0 (sym (bit_column n p k l) ∙ e)), λ e. bit_column n p k l ∙ (byte_one (p k)).1 e)

byte_zero : (b : Bool) → (bool_byte b ≡ 0) ↔ (b ≡ false)
byte_zero true = ((λ e. absurd (omega arith)), λ e. absurd (true≢false e))
byte_zero false = ((λ e. refl), λ e. refl)

-- and is missing from it exactly where the test does not hold
pub bit_null : (n : ℕ) (p : ℕ → Bool) (k : ℕ) → k < n → (bit (column n p) k ≡ 0) ↔ (p k ≡ false)
bit_null n p k l = ((λ e. (byte_zero (p k)).0 (sym (bit_column n p k l) ∙ e)), λ e. bit_column n p k l ∙ (byte_zero (p k)).1 e)

byte_test : (b : Bool) → eqb (bool_byte b) 1 ≡ b
byte_test true = refl
byte_test false = refl

pub in_column_lem : (n : ℕ) (p : ℕ → Bool) (k : ℕ) → k < n → in_column (column n p) k ≡ p k
unfolding in_column
in_column_lem n p k l = ap (λ (b : ℕ). eqb b 1) (bit_column n p k l) ∙ byte_test (p k)

byte_eq : (b : ℕ) (c : Bool) → b ≡ bool_byte c → eqb b 1 ≡ c
byte_eq b c e = ap (λ (n : ℕ). eqb n 1) e ∙ byte_test c

-- a bit is the number of its test
byte_low : (b : ℕ) → b ≤ 1 → b ≡ bool_byte (eqb b 1)
byte_low zero l = refl
byte_low (suc zero) l = refl
byte_low (suc (suc b)) l = absurd (omega arith)

pub bit_byte : (c k : ℕ) → bit c k ≡ bool_byte (in_column c k)
unfolding in_column
bit_byte c k = byte_low (bit c k) (bit_le c k)

-- a column with one fact more, whatever its width
pub in_with : (c f k : ℕ) → in_column (with_fact c f) k ≡ eqb f k || in_column c k
unfolding in_column
in_with c f k =
    byte_eq (bit (with_fact c f) k) (eqb f k || eqb (bit c k) 1)
    (bit_or_lem c (2 ^ f) k ∙ omega (arith, bit_pow f k, byte_or (eqb f k) (eqb (bit c k) 1), bit_byte c k))

-- that fact is in it, and so are those that were in it before
pub in_own : (c f : ℕ) → in_column (with_fact c f) f ≡ true
in_own c f = in_with c f f ∙ ap (λ (b : Bool). b || in_column c f) (eq-eqb f f refl)

pub in_more : (c f k : ℕ) → in_column c k ≡ true → in_column (with_fact c f) k ≡ true
in_more c f k held = in_with c f k ∙ ap (λ (b : Bool). eqb f k || b) held ∙ or_true (eqb f k)
  where
    or_true : (b : Bool) → b || true ≡ true
    or_true true = refl
    or_true false = refl

-- a fact of one of two columns without a fact in common is not in the other
pub disjoint_in : (a b k : ℕ) → disjoint a b ≡ true → in_column a k ≡ true → in_column b k ≡ false
unfolding in_column
disjoint_in a b k none held =
    let both = bit_and_lem a b k in
    let zero_bit : bit (bit_and a b) k ≡ 0 = ap (λ (n : ℕ). bit n k) (eqb-true (bit_and a b) 0 none) ∙ bit_none k in
    ne_eqb (bit b k) 1 (λ one. omega (arith, eqb-true (bit a k) 1 held))

-- no fact is in the column 0
pub in_none : (k : ℕ) → in_column 0 k ≡ false
unfolding in_column
in_none k = ap (λ (b : ℕ). eqb b 1) (bit_none k)

-- no fact from the width on is in a column
pub in_high : (w a k : ℕ) → a < 2 ^ w → w ≤ k → in_column a k ≡ false
unfolding in_column
in_high w a k l u = ap (λ (b : ℕ). eqb b 1) (bit_high w a k l u)

pub column_high : (n : ℕ) (p : ℕ → Bool) (k : ℕ) → n ≤ k → bit (column n p) k ≡ 0
column_high n p k l = bit_high n (column n p) k (column_lt n p) l

-- counts of tests that agree are equal
pub count_same : (n : ℕ) (p q : ℕ → Bool) → ((k : ℕ) → k < n → p k ≡ q k) → count_below n p ≡ count_below n q
count_same n p q same = sym (ones_column n p) ∙ ap ones (column_same n p q same) ∙ ones_column n q

pub count_none : (n : ℕ) → count_below n (λ (k : ℕ). false) ≡ 0
unfolding count_below
count_none zero = refl
count_none (suc n) = omega (arith, count_none n)
