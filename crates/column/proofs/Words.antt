-- Columns in words, over the number of words: a column of words and back, the words of a test's column block by block, counts, and the column of a
-- block with one fact more.
-- Assumes nothing.
use Prim.Native.Nat.{ℕ, zero, suc, ◌+◌, ◌-◌, ◌*◌, ◌/◌, ◌%◌, ◌^◌, ◌≤◌, ◌<◌, min}
use native.Mathlib.Nat.{zero-add, suc-add, le_of_suc-le-suc, mod-lt, zero-lt-suc}
use native.Mathlib.Decide.{ℕ_discrete, dec_lt}
use native.Mathlib.Omega.{arith}
use mathlib.Core.Path.{◌≡◌, refl, sym, ap, ap₂, subst, ◌∙◌}
use mathlib.Core.Bool.{Bool, true, false, cond, ◌||◌}
use mathlib.Core.List.{List, [], ◌∷◌}
use lib.ListN.{length, get_or, set, length-set}
use lib.Seq.{ext_get_or, get_or-set_same, get_or-set_other}
use lib.Bits.{or_lt, shifted_half, shifted_even}
use lib.Dec.{eqb}
use lib.Pow.{high, low, shr-shr, shr_lt, field, mod-mod-pow, pow_mono, pow-lt}
use borrow.Author.Tests.{eqb-true, eqb-false, eq-eqb, ne_eqb}
use mir.Val.{bool_byte}
use Rattle.column.specs.Column.{bit, column, with_fact}
use Rattle.column.specs.Sets.{in_column, count_below}
use Rattle.column.specs.Words.{words, number, block, facts_in, with_fact_in}
use Rattle.column.proofs.Bits.{bit_none, column_lt, column_same, column_is}
use Rattle.column.proofs.Operations.{count_same, in_with, in_column_lem, bit_byte}

-- ---- a column in two pieces

-- the facts below a + b are those below a and, from a on, those of the test that begins there
pub column_append : (a b : ℕ) (p : ℕ → Bool) → column (a + b) p ≡ column b (λ (k : ℕ). p (a + k)) * 2 ^ a + column a p
unfolding column
column_append zero b p =
    ap (λ (n : ℕ). column n p) (zero-add b) ∙ column_same b p (λ (k : ℕ). p (0 + k)) (λ k l. ap p (sym (zero-add k))) ∙ omega arith
column_append (suc a) b p =
    let rest = column b (λ (k : ℕ). p (suc (a + k))) in
    let later = column_same b (λ (k : ℕ). p (suc (a + k))) (λ (k : ℕ). p (suc a + k)) (λ k l. ap p (sym (suc-add a k))) in
    ap (λ (n : ℕ). column n p) (suc-add a b)
    ∙ omega (arith, column_append a b (λ (k : ℕ). p (suc k)), shifted_half rest a, shifted_even rest a)
    ∙ ap (λ (n : ℕ). n * 2 ^ suc a + (bool_byte (p 0) + 2 * column a (λ (k : ℕ). p (suc k)))) later

pub count_append : (a b : ℕ) (p : ℕ → Bool) → count_below (a + b) p ≡ count_below a p + count_below b (λ (k : ℕ). p (a + k))
unfolding count_below
count_append zero b p = ap (λ (n : ℕ). count_below n p) (zero-add b) ∙ count_same b p (λ (k : ℕ). p (0 + k)) (λ k l. ap p (sym (zero-add k))) ∙ omega arith
count_append (suc a) b p =
    let later = count_same b (λ (k : ℕ). p (suc (a + k))) (λ (k : ℕ). p (suc a + k)) (λ k l. ap p (sym (suc-add a k))) in
    ap (λ (n : ℕ). count_below n p) (suc-add a b) ∙ omega (arith, count_append a b (λ (k : ℕ). p (suc k)), later)

-- ---- one word

-- the first word of a column, and what is left of it
module _ (m : ℕ) (p : ℕ → Bool) where
  -- as many facts as a word has, or fewer
  low_facts : m ≤ 64 → (column m p % 2 ^ 64 ≡ column (min 64 m) p) × (column m p / 2 ^ 64 ≡ column (m - 64) (λ (k : ℕ). p (64 + k)))
  unfolding column
  low_facts l =
      let few : min 64 m ≡ m = omega arith in
      let none : m - 64 ≡ 0 = omega arith in
      let lt : column m p < 2 ^ 64 = omega (arith, column_lt m p, pow_mono {i = m} {j = 64} l) in (
        omega arith ∙ ap (λ (n : ℕ). column n p) (sym few),
        omega arith ∙ ap (λ (n : ℕ). column n (λ (k : ℕ). p (64 + k))) (sym none),
      )

  -- more than a word has
  more_facts : 64 < m → (column m p % 2 ^ 64 ≡ column (min 64 m) p) × (column m p / 2 ^ 64 ≡ column (m - 64) (λ (k : ℕ). p (64 + k)))
  more_facts l =
      let all : m ≡ 64 + (m - 64) = omega arith in
      let many : min 64 m ≡ 64 = omega arith in
      let pieces = ap (λ (n : ℕ). column n p) all ∙ column_append 64 (m - 64) p in (
        ap (λ (n : ℕ). n % 2 ^ 64) pieces ∙ low (column (m - 64) (λ (k : ℕ). p (64 + k))) 64 (column_lt 64 p) ∙ ap (λ (n : ℕ). column n p) (sym many),
        ap (λ (n : ℕ). n / 2 ^ 64) pieces ∙ high (column (m - 64) (λ (k : ℕ). p (64 + k))) 64 (column_lt 64 p),
      )

  split_word : (column m p % 2 ^ 64 ≡ column (min 64 m) p) × (column m p / 2 ^ 64 ≡ column (m - 64) (λ (k : ℕ). p (64 + k)))
  split_word = elim (dec_lt 64 m) [
    | yes l ↦ more_facts l
    | no l ↦ low_facts (omega arith)
  ]

-- ---- the words of a column

pub words_length : (n x : ℕ) → length (words n x) ≡ n
unfolding words
words_length zero x = refl
words_length (suc n) x = ap suc (words_length n (x / 2 ^ 64))

-- word k of the column of a test is the column of the test on block k
pub word_block : (n m k : ℕ) (p : ℕ → Bool) → k < n → get_or (words n (column m p)) k 0 ≡ column (facts_in m k) (block k p)
unfolding words
word_block zero m k p l = absurd (omega arith)
word_block (suc n) m zero p l =
    let count : min 64 m ≡ facts_in m 0 = omega arith in
    (split_word m p).0 ∙ ap (λ (j : ℕ). column j p) count ∙ column_same (facts_in m 0) p (block 0 p) (λ b u. ap p (omega arith))
word_block (suc n) m (suc k) p l =
    let rest : ℕ → Bool = λ b. p (64 + b) in
    let count : facts_in (m - 64) k ≡ facts_in m (suc k) = omega arith in
    ap (λ (x : ℕ). get_or (words n x) k 0) (split_word m p).1 ∙ word_block n (m - 64) k rest (le_of_suc-le-suc l)
    ∙ ap (λ (j : ℕ). column j (block k rest)) count ∙ column_same (facts_in m (suc k)) (block k rest) (block (suc k) p) (λ b u. ap p (omega arith))

-- the facts of another block do not change
before_block : (m k i : ℕ) → i < k → facts_in (min m (64 * k)) i ≡ facts_in m i
before_block m k i l = omega arith

after_block : (m k i : ℕ) → k ≤ i → facts_in (min m (64 * k)) i ≡ 0
after_block m k i l = omega arith

other_block : (m k i : ℕ) → (i ≡ k → ⊥) → facts_in (min m (64 * k)) i ≡ facts_in (min m (64 * suc k)) i
other_block m k i other = elim (dec_lt i k) [
  | yes l ↦ before_block m k i l ∙ sym (before_block m (suc k) i (omega arith))
  | no l ↦ after_block m k i (omega arith) ∙ sym (after_block m (suc k) i (omega (arith, other)))
]

-- the facts of the blocks below k, with those of block k: word k of each is written
pub set_block : (n m k : ℕ) (p : ℕ → Bool) → k < n
    → set (words n (column (min m (64 * k)) p)) k (column (facts_in m k) (block k p)) ≡ words n (column (min m (64 * suc k)) p)
set_block n m k p l =
    ext_get_or 0 (set old k new) after (length-set old k new ∙ words_length n (column (min m (64 * k)) p) ∙ sym (words_length n (column (min m (64 * suc k)) p)))
    (λ i u. at i (omega (arith, length-set old k new, words_length n (column (min m (64 * k)) p))))
  where
    new : ℕ
    new = column (facts_in m k) (block k p)

    old : List ℕ
    old = words n (column (min m (64 * k)) p)

    after : List ℕ
    after = words n (column (min m (64 * suc k)) p)

    at : (i : ℕ) → i < n → get_or (set old k new) i 0 ≡ get_or after i 0
    at i u = elim (ℕ_discrete i k) [
      | yes e ↦ let count = sym (before_block m (suc k) k (omega arith)) in
          ap (λ (j : ℕ). get_or (set old k new) j 0) e ∙ get_or-set_same old k new 0 (omega (arith, words_length n (column (min m (64 * k)) p)))
          ∙ ap (λ (j : ℕ). column j (block k p)) count ∙ sym (word_block n (min m (64 * suc k)) k p l) ∙ ap (λ (j : ℕ). get_or after j 0) (sym e)
      | no other ↦ let count = other_block m k i other in
          get_or-set_other old k i new 0 other ∙ word_block n (min m (64 * k)) i p u
          ∙ ap (λ (j : ℕ). column j (block i p)) count ∙ sym (word_block n (min m (64 * suc k)) i p u)
    ]

-- and their count
pub count_block : (m k : ℕ) (p : ℕ → Bool) → count_below (min m (64 * suc k)) p ≡ count_below (min m (64 * k)) p + count_below (facts_in m k) (block k p)
unfolding count_below
count_block m k p = elim (dec_lt (64 * k) m) [
  | yes l ↦ let all : min m (64 * suc k) ≡ 64 * k + facts_in m k = omega arith in
      let some : 64 * k ≡ min m (64 * k) = omega arith in
      ap (λ (n : ℕ). count_below n p) all ∙ count_append (64 * k) (facts_in m k) p ∙ ap (λ (n : ℕ). count_below n p + count_below (facts_in m k) (block k p)) some
  | no l ↦ let all : min m (64 * suc k) ≡ min m (64 * k) = omega arith in
      let none : facts_in m k ≡ 0 = omega arith in
      ap (λ (n : ℕ). count_below n p) all
      ∙ omega arith
      ∙ ap (λ (n : ℕ). count_below (min m (64 * k)) p + count_below n (block k p)) (sym none)
]

-- ---- the column that words are

-- no word has a bit from 64 on
unfoldable pub Narrow : List ℕ → Type 0
Narrow [] = Unit {0}
Narrow (w ∷ ws) = (w < 2 ^ 64) × Narrow ws

pub words_narrow : (n x : ℕ) → Narrow (words n x)
unfolding words Narrow
words_narrow zero x = tt
words_narrow (suc n) x = (mod-lt x (zero-lt-suc _), words_narrow n (x / 2 ^ 64))

pub number_words : (n x : ℕ) → x < 2 ^ (64 * n) → number (words n x) ≡ x
unfolding words number
number_words zero x l = omega arith
number_words (suc n) x l =
    let places : 64 * suc n ≡ 64 * n + 64 = omega arith in
    let rest = number_words n (x / 2 ^ 64) (shr_lt (64 * n) 64 (subst (λ (j : ℕ). x < 2 ^ j) places l)) in
    omega arith

pub words_number : (ws : List ℕ) → Narrow ws → words (length ws) (number ws) ≡ ws
unfolding words number Narrow
words_number [] low = refl
words_number (w ∷ ws) low =
    let first : (w + 2 ^ 64 * number ws) % 2 ^ 64 ≡ w = omega (arith, low.0) in
    let rest : (w + 2 ^ 64 * number ws) / 2 ^ 64 ≡ number ws = omega (arith, low.0) in
    ap₂ ◌∷◌ first (ap (words (length ws)) rest ∙ words_number ws low.1)

-- bit b of word k is bit 64 k + b of the column
bit_later : (x a k : ℕ) → bit (x / 2 ^ a) k ≡ bit x (a + k)
unfolding bit
bit_later x a k = ap (λ (n : ℕ). n % 2) (shr-shr x a k)

bit_below : (x a k : ℕ) → k < a → bit (x % 2 ^ a) k ≡ bit x k
unfolding bit
bit_below x a k l =
    let all : a ≡ (a - suc k + 1) + k = omega arith in
    ap (λ (n : ℕ). x % 2 ^ n / 2 ^ k % 2) all ∙ ap (λ (n : ℕ). n % 2) (field x (a - suc k + 1) k) ∙ mod-mod-pow (x / 2 ^ k) (a - suc k) 1

pub number_bit : (ws : List ℕ) → Narrow ws → (k b : ℕ) → b < 64 → bit (number ws) (64 * k + b) ≡ bit (get_or ws k 0) b
unfolding number Narrow
number_bit [] low k b l = bit_none (64 * k + b) ∙ sym (bit_none b)
number_bit (w ∷ ws) low zero b l =
    let first : (w + 2 ^ 64 * number ws) % 2 ^ 64 ≡ w = omega (arith, low.0) in
    let at : 64 * 0 + b ≡ b = omega arith in
    ap (bit (w + 2 ^ 64 * number ws)) at ∙ sym (bit_below (w + 2 ^ 64 * number ws) 64 b l) ∙ ap (λ (n : ℕ). bit n b) first
number_bit (w ∷ ws) low (suc k) b l =
    let rest : (w + 2 ^ 64 * number ws) / 2 ^ 64 ≡ number ws = omega (arith, low.0) in
    let at : 64 * suc k + b ≡ 64 + (64 * k + b) = omega arith in
    ap (bit (w + 2 ^ 64 * number ws)) at ∙ sym (bit_later (w + 2 ^ 64 * number ws) 64 (64 * k + b)) ∙ ap (λ (n : ℕ). bit n (64 * k + b)) rest
    ∙ number_bit ws low.1 k b l

pub number_in : (ws : List ℕ) → Narrow ws → (k b : ℕ) → b < 64 → in_column (number ws) (64 * k + b) ≡ in_column (get_or ws k 0) b
unfolding in_column
number_in ws low k b l = ap (λ (n : ℕ). eqb n 1) (number_bit ws low k b l)

-- ---- the column of a block with one fact more

same_test : (x y u v : ℕ) → (x ≡ y → u ≡ v) → (u ≡ v → x ≡ y) → eqb x y ≡ eqb u v
same_test x y u v to from = elim (ℕ_discrete x y) [
  | yes e ↦ eq-eqb x y e ∙ sym (eq-eqb u v (to e))
  | no e ↦ ne_eqb x y e ∙ sym (ne_eqb u v (λ q. e (from q)))
]

pub with_in : (k c f b : ℕ) → b < 64 → in_column (with_fact_in k c f) b ≡ eqb f (64 * k + b) || in_column c b
with_in k c f b l = go (eqb (f / 64) k) refl
  where
    go : (t : Bool) → eqb (f / 64) k ≡ t → in_column (cond t (with_fact c (f % 64)) c) b ≡ eqb f (64 * k + b) || in_column c b
    go true is = in_with c (f % 64) b ∙ ap (λ (t : Bool). t || in_column c b) (same_test (f % 64) b f (64 * k + b) (λ e. omega (arith, eqb-true (f / 64) k is)) (λ e. omega (arith, eqb-true (f / 64) k is)))
    go false is = sym (ap (λ (t : Bool). t || in_column c b) (ne_eqb f (64 * k + b) (λ e. eqb-false (f / 64) k is (omega arith))))

pub with_lt : (k c f : ℕ) → c < 2 ^ 64 → with_fact_in k c f < 2 ^ 64
with_lt k c f l = go (eqb (f / 64) k)
  where
    go : (t : Bool) → cond t (with_fact c (f % 64)) c < 2 ^ 64
    go true = or_lt 64 c (2 ^ (f % 64)) l (pow-lt (mod-lt f (zero-lt-suc 63)))
    go false = l

pub column_with_in : (k f : ℕ) (p : ℕ → Bool) → with_fact_in k (column 64 (block k p)) f ≡ column 64 (block k (λ (g : ℕ). eqb f g || p g))
column_with_in k f p =
    column_is 64 (with_fact_in k (column 64 (block k p)) f) (block k (λ (g : ℕ). eqb f g || p g)) (with_lt k (column 64 (block k p)) f (column_lt 64 (block k p)))
    (λ b l. bit_byte (with_fact_in k (column 64 (block k p)) f) b ∙ ap bool_byte (with_in k (column 64 (block k p)) f b l ∙ ap (λ (t : Bool). eqb f (64 * k + b) || t) (in_column_lem 64 (block k p) b l)))
