-- Numerals: one digit, one digit more, how many there are, and a number in two pieces.
-- Assumes nothing.
use Prim.Native.Nat.{ℕ, zero, suc, ◌+◌, ◌*◌, ◌/◌, ◌%◌, ◌^◌, ◌≤◌, ◌<◌}
use native.Mathlib.Nat.{one-mul, mul_assoc, mul-pos, le-mul_of_pos_right, pow-zero, pow-suc, pow-succ', one-le-pow, div-lt_self, div-le_self, div-lt_iff_lt-mul}
use native.Mathlib.Nat.{add-mul-div_left, add-mul-mod_self_left, mod-eq_of_lt}
use native.Mathlib.Decide.{le_ind, dec_lt}
use native.Mathlib.Omega.{arith}
use mathlib.Core.Path.{◌≡◌, refl, sym, ap, ap₂, ◌∙◌, subst}
use mathlib.Core.Logic.{◌⊎◌, inl, inr, ⊎_elim}
use mathlib.Core.Bool.{Bool, cond}
use mathlib.Core.List.{List, [], ◌∷◌, ◌++◌, append-nil, append_assoc}
use lib.ListN.{length, length-append}
use lib.Dec.{ltb}
use borrow.Author.Tests.{lt-ltb, le-ltb}
use Rattle.text.specs.declared.area.Text.{Text}
use Rattle.text.specs.Text.{Put}
use Rattle.text.proofs.Text.{put_more}
use Rattle.text.specs.Number.{digit, numeral_in, numeral, digits_in}

below_or_not : (n b : ℕ) → (n < b) ⊎ (b ≤ n)
below_or_not n b = elim (dec_lt n b) [ yes p ↦ inl p | no p ↦ inr (omega arith) ]

module _ (b : ℕ) (two : 2 ≤ b) where
  quotient_less : (n k : ℕ) → n ≤ suc k → n / b ≤ k
  quotient_less zero k l = omega (arith, div-le_self 0 b)
  quotient_less (suc n) k l = let less = div-lt_self {n = suc n} {k = b} (omega arith) two in omega arith

  -- one more digit to look at changes nothing where there are enough
  more : (k n : ℕ) → n ≤ k → numeral_in b (suc k) n ≡ numeral_in b k n
  unfolding numeral_in
  more zero n l = ap (λ (t : Bool). cond t (digit n ∷ []) (digit (n / b) ∷ digit (n % b) ∷ [])) (lt-ltb n b (omega arith))
  more (suc k) n l =
      ap (λ (front : List ℕ). cond (ltb n b) (digit n ∷ []) (front ++ (digit (n % b) ∷ []))) (more k (n / b) (quotient_less n k l))

  enough : (k n : ℕ) → n ≤ k → numeral_in b k n ≡ numeral b n
  unfolding numeral
  enough k n l = le_ind (λ (m : ℕ). numeral_in b m n ≡ numeral_in b n n) refl (λ m u e. more m n u ∙ e) k l

  -- a number below the base is one digit
  pub numeral_digit : (n : ℕ) → n < b → numeral b n ≡ digit n ∷ []
  unfolding numeral numeral_in
  numeral_digit zero l = refl
  numeral_digit (suc n) l =
      ap (λ (t : Bool). cond t (digit (suc n) ∷ []) (numeral_in b n (suc n / b) ++ (digit (suc n % b) ∷ []))) (lt-ltb (suc n) b l)

  -- any other has the digits of the quotient first
  pub numeral_more : (n : ℕ) → b ≤ n → numeral b n ≡ numeral b (n / b) ++ (digit (n % b) ∷ [])
  unfolding numeral numeral_in
  numeral_more zero l = absurd (omega arith)
  numeral_more (suc n) l =
      ap (λ (t : Bool). cond t (digit (suc n) ∷ []) (numeral_in b n (suc n / b) ++ (digit (suc n % b) ∷ []))) (le-ltb (suc n) b l)
      ∙ ap (λ (front : List ℕ). front ++ (digit (suc n % b) ∷ [])) (enough n (suc n / b) (quotient_less (suc n) n (omega arith)))

  pub length_more : (n : ℕ) → b ≤ n → length (numeral b n) ≡ length (numeral b (n / b)) + 1
  length_more n l = ap length (numeral_more n l) ∙ length-append (numeral b (n / b)) (digit (n % b) ∷ [])

  pub numeral_some : (n : ℕ) → 0 < length (numeral b n)
  numeral_some n =
      ⊎_elim (λ l. omega (arith, ap length (numeral_digit n l))) (λ l. omega (arith, length_more n l)) (below_or_not n b)

  -- a number below the k-th power of the base has at most k digits
  pub numeral_length : (k n : ℕ) → n < b ^ suc k → length (numeral b n) ≤ suc k
  numeral_length zero n l = omega (arith, ap length (numeral_digit n (subst (λ (p : ℕ). n < p) (pow-suc b 0 ∙ ap (λ (q : ℕ). q * b) (pow-zero b) ∙ one-mul b) l)))
  numeral_length (suc k) n l =
      let less : n / b < b ^ suc k = (div-lt_iff_lt-mul {k = b} (omega arith)).1 (subst (λ (p : ℕ). n < p) (pow-suc b (suc k)) l) in
      let front = numeral_length k (n / b) less in
      ⊎_elim (λ s. omega (arith, ap length (numeral_digit n s))) (λ s. omega (arith, length_more n s)) (below_or_not n b)

  -- a number in two pieces: the numeral of the higher one, if it is not 0, and then the digits of the lower one
  pub numeral_digits : (k w y : ℕ) → w < b ^ k → 0 < y → numeral b (w + b ^ k * y) ≡ numeral b y ++ digits_in b k w
  unfolding digits_in
  numeral_digits zero w y l some =
      let none : w ≡ 0 = omega (arith, subst (λ (p : ℕ). w < p) (pow-zero b) l) in
      let all : w + b ^ 0 * y ≡ y = ap₂ (λ (v p : ℕ). v + p * y) none (pow-zero b) ∙ omega arith in
      ap (numeral b) all ∙ sym (append-nil (numeral b y))
  numeral_digits (suc k) w y l some =
      let high = b ^ k * y in
      let whole : w + b ^ suc k * y ≡ w + b * high = ap (λ (p : ℕ). w + p) (ap (λ (p : ℕ). p * y) (pow-succ' b k) ∙ mul_assoc b (b ^ k) y) in
      let large : b ≤ b * high = le-mul_of_pos_right b (mul-pos (one-le-pow k b (omega arith)) some) in
      let less : w / b < b ^ k = (div-lt_iff_lt-mul {k = b} (omega arith)).1 (subst (λ (p : ℕ). w < p) (pow-suc b k) l) in
      ap (numeral b) whole ∙ numeral_more (w + b * high) (omega arith)
      ∙ ap₂ (λ (q r : ℕ). numeral b q ++ (digit r ∷ [])) (add-mul-div_left w high (omega arith)) (add-mul-mod_self_left w b high)
      ∙ ap (λ (front : List ℕ). front ++ (digit (w % b) ∷ [])) (numeral_digits k (w / b) y less some)
      ∙ append_assoc (numeral b y) (digits_in b k (w / b)) (digit (w % b) ∷ [])

pub length_digits : (b k n : ℕ) → length (digits_in b k n) ≡ k
unfolding digits_in
length_digits b zero n = refl
length_digits b (suc k) n = omega (arith, length-append (digits_in b k (n / b)) (digit (n % b) ∷ []), length_digits b k (n / b))

-- ---- digits put in front, the last first

module _ (b : ℕ) (before : Text) (rest : ℕ) (middle : Text) (q : ℕ) (after : Text) where
  -- the digits before the last one, put in front of it, make one digit more
  pub put_digit_more : (k j : ℕ) → k ≡ suc j → Put before (digit (rest % b) ∷ []) middle → q ≡ rest / b → Put middle (digits_in b j q) after
      → Put before (digits_in b k rest) after
  unfolding digits_in
  put_digit_more k j e p r more =
      subst (λ n. Put before (digits_in b n rest) after) (sym e)
      (put_more before _ middle _ after p (subst (λ n. Put middle (digits_in b j n) after) r more))

  pub put_numeral_more : 2 ≤ b → b ≤ rest → Put before (digit (rest % b) ∷ []) middle → q ≡ rest / b → Put middle (numeral b q) after
      → Put before (numeral b rest) after
  put_numeral_more low l p r more =
      subst (λ t. Put before t after) (sym (numeral_more b low rest l))
      (put_more before _ middle _ after p (subst (λ n. Put middle (numeral b n) after) r more))

-- a number below the base is its own last digit
pub put_numeral_last : (b : ℕ) (before : Text) (rest : ℕ) (after : Text) → 2 ≤ b → rest < b → Put before (digit (rest % b) ∷ []) after
    → Put before (numeral b rest) after
put_numeral_last b before rest after low l p =
    subst (λ t. Put before t after) (ap (λ d. digit d ∷ []) (mod-eq_of_lt l) ∙ sym (numeral_digit b low rest l)) p

pub less_left : (b rest q : ℕ) → 2 ≤ b → b ≤ rest → q ≡ rest / b → q < rest
less_left b rest q low l e = let less = div-lt_self {n = rest} {k = b} (omega arith) low in omega arith
