-- Laws of lists in rising order: the numbers that pass a test, and that a rising list is fixed by its members.
-- It has: of `passing` its length (`passing_length`, `passing_short`), its members (`passing_in`), its order (`passing_rising`) and that equal tests
-- have equal lists (`passing_same`); `rising_same`.
-- Assumes nothing.
use Prim.Native.Nat.{ℕ, zero, suc, ◌≤◌, ◌<◌}
use native.Mathlib.Nat.{eq-or-lt_of_le, le_of_suc-le-suc}
use native.Mathlib.Omega.{arith}
use mathlib.Core.Path.{◌≡◌, refl, sym, ◌∙◌, ap, ap₂}
use mathlib.Core.Logic.{◌↔◌, ⊎_elim}
use mathlib.Core.Bool.{Bool, true, false, cond, false≢true}
use mathlib.Core.List.Memᴰ
use mathlib.Core.List.{List, [], ◌∷◌, ◌++◌, Memᴰ}
use mathlib.Core.List.{append-nil}
use lib.ListN.{length, length-append}
use Rattle.general.specs.Scan.{passing}
use Rattle.general.specs.Numbers.{Rising}
use Rattle.general.proofs.Scan.{one, count_passing, count_all}

-- ---- the numbers that pass a test

-- n alone where the test says so
last_in : (b : Bool) (n c : ℕ) → Memᴰ c (cond b (n ∷ []) []) ↔ ((c ≡ n) × (b ≡ true))
last_in true n c = ((λ m. (Memᴰ.eq_of_singleton m, refl)), λ (e, t). Memᴰ.head e)
last_in false n c = ((λ m. absurd (Memᴰ.not-nil m)), λ (e, t). absurd (false≢true t))

last_length : (b : Bool) (n : ℕ) → length (cond b (n ∷ []) []) ≡ one b
last_length true n = refl
last_length false n = refl

pub passing_length : (p : ℕ → Bool) (n : ℕ) → length (passing p n) ≡ count_passing p n
unfolding passing count_passing
passing_length p zero = refl
passing_length p (suc n) = omega (arith, length-append (passing p n) (cond (p n) (n ∷ []) []), last_length (p n) n, passing_length p n)

pub passing_short : (p : ℕ → Bool) (n : ℕ) → length (passing p n) ≤ n
passing_short p n = omega (arith, passing_length p n, count_all p n)

-- the numbers below n that pass, and no others
pub passing_in : (p : ℕ → Bool) (n c : ℕ) → Memᴰ c (passing p n) ↔ ((c < n) × (p c ≡ true))
unfolding passing
passing_in p zero c = ((λ m. absurd (Memᴰ.not-nil m)), λ (l, t). absurd (omega arith))
passing_in p (suc n) c = (
  (λ m. ⊎_elim (λ k. let (l, t) = (passing_in p n c).0 k in (omega arith, t))
      (λ k. let (e, t) = (last_in (p n) n c).0 k in (omega arith, ap p e ∙ t)) (Memᴰ.append_cases (passing p n) m)),
  λ (l, t). ⊎_elim (λ e. Memᴰ.append_right (passing p n) ((last_in (p n) n c).1 (e, sym (ap p e) ∙ t)))
      (λ k. Memᴰ.append_left (cond (p n) (n ∷ []) []) ((passing_in p n c).1 (k, t))) (eq-or-lt_of_le (le_of_suc-le-suc l)),
)

-- a rising list with a number behind that is above its members
rising_append : (xs : List ℕ) (n : ℕ) → Rising xs → ((c : ℕ) → Memᴰ c xs → c < n) → Rising (xs ++ n ∷ [])
rising_append [] n r above = tt
rising_append (x ∷ []) n r above = (above x (Memᴰ.head refl), tt)
rising_append (x ∷ y ∷ xs) n r above = (r.0, rising_append (y ∷ xs) n r.1 (λ c m. above c (Memᴰ.tail m)))

pub passing_rising : (p : ℕ → Bool) (n : ℕ) → Rising (passing p n)
unfolding passing
passing_rising p zero = tt
passing_rising p (suc n) = go (p n) (passing_rising p n)
  where
    go : (b : Bool) → Rising (passing p n) → Rising (passing p n ++ cond b (n ∷ []) [])
    go true r = rising_append (passing p n) n r (λ c m. ((passing_in p n c).0 m).0)
    go false r = rw (append-nil (passing p n)) r

-- tests that agree below n have the same numbers
pub passing_same : (p q : ℕ → Bool) (n : ℕ) → ((c : ℕ) → c < n → p c ≡ q c) → passing p n ≡ passing q n
unfolding passing
passing_same p q zero same = refl
passing_same p q (suc n) same =
    ap₂ (λ (xs : List ℕ) (b : Bool). xs ++ cond b (n ∷ []) []) (passing_same p q n (λ c l. same c (omega arith))) (same n (omega arith))

-- ---- a rising list is fixed by its members

rising_tail : (x : ℕ) (xs : List ℕ) → Rising (x ∷ xs) → Rising xs
rising_tail x [] r = tt
rising_tail x (y ∷ xs) r = r.1

-- the first is below the others
rising_first : (x : ℕ) (xs : List ℕ) (c : ℕ) → Rising (x ∷ xs) → Memᴰ c xs → x < c
rising_first x [] c r m = absurd (Memᴰ.not-nil m)
rising_first x (y ∷ xs) c r m =
    ⊎_elim (λ e. omega (arith, r.0)) (λ k. omega (arith, r.0, rising_first y xs c r.1 k)) (Memᴰ.cases_cons m)

-- each member of one is a member of the other
abbrev Within : List ℕ → List ℕ → Type 0
Within xs ys = (c : ℕ) → Memᴰ c xs → Memᴰ c ys

-- the first of a list is not below the first of one that has it
first_le : (x y : ℕ) (xs ys : List ℕ) → Rising (y ∷ ys) → Within (x ∷ xs) (y ∷ ys) → y ≤ x
first_le x y xs ys r within =
    ⊎_elim (λ e. omega arith) (λ m. omega (arith, rising_first y ys x r m)) (Memᴰ.cases_cons (within x (Memᴰ.head refl)))

within_tail : (x y : ℕ) (xs ys : List ℕ) → x ≡ y → Rising (x ∷ xs) → Within (x ∷ xs) (y ∷ ys) → Within xs ys
within_tail x y xs ys same r within c m =
    ⊎_elim (λ e. absurd (omega (arith, rising_first x xs c r m))) (λ k. k) (Memᴰ.cases_cons (within c (Memᴰ.tail m)))

within_both : (xs ys : List ℕ) → Rising xs → Rising ys → Within xs ys → Within ys xs → xs ≡ ys
within_both [] [] r s there back = refl
within_both [] (y ∷ ys) r s there back = absurd (Memᴰ.not-nil (back y (Memᴰ.head refl)))
within_both (x ∷ xs) [] r s there back = absurd (Memᴰ.not-nil (there x (Memᴰ.head refl)))
within_both (x ∷ xs) (y ∷ ys) r s there back =
    let same : x ≡ y = omega (arith, first_le x y xs ys s there, first_le y x ys xs r back) in
    ap₂ (λ (z : ℕ) (zs : List ℕ). z ∷ zs) same
    (within_both xs ys (rising_tail x xs r) (rising_tail y ys s) (within_tail x y xs ys same r there) (within_tail y x ys xs (sym same) s back))

-- two rising lists with the same members are equal
pub rising_same : (xs ys : List ℕ) → Rising xs → Rising ys → ((c : ℕ) → Memᴰ c xs ↔ Memᴰ c ys) → xs ≡ ys
rising_same xs ys r s same = within_both xs ys r s (λ c. (same c).0) (λ c. (same c).1)
