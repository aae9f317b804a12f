-- Laws of the scans: of every element, of the least and the greatest value, of the first and the last index, of lists by their indices;
-- and a count, by which numbers without a gap are bounded.
-- It has: `every`, `least_below`, `greatest`, `first_index`, `last_index`, `list_below` and `total`, some laws each; `count_all`, `count_none`, `count_one` and
-- `count_more`;
-- `gapless_bound`. Laws of Booleans are in Bools, of tests over a list in Tests.
use Prim.Native.Nat.{ℕ, zero, suc, ◌+◌, ◌*◌, ◌≤◌, ◌<◌, min}
use mathlib.Core.Path.{◌≡◌, refl, sym, ◌∙◌, ap}
use mathlib.Core.Logic.{◌⊎◌, inl, inr, ⊎_elim}
use mathlib.Core.Bool.{Bool, true, false, cond, ◌&&◌, false≢true, and_assoc}
use mathlib.Core.List.Memᴰ
use mathlib.Core.List.{List, [], ◌∷◌, ◌++◌, Memᴰ}
use native.Mathlib.Omega.{arith}
use native.Mathlib.Nat.{eq-or-lt_of_le, le_of_suc-le-suc, suc-mul}
use lib.ListN.{length, get_or, set}
use lib.Dec.{leb}
use borrow.Author.Tests.{leb-true, le-leb, lt-leb, leb-false}
use Rattle.general.proofs.Bools.{passes_or_not}
use Rattle.general.specs.Scan.{every, least_below, greatest, first_index, last_index, list_below}
use Rattle.general.specs.Numbers.{total}

pub every_append : {A : Type 0} (p : A → Bool) (xs ys : List A) → every p (xs ++ ys) ≡ (every p xs && every p ys)
unfolding every
every_append p [] ys = refl
every_append p (x ∷ xs) ys = ap (λ b. p x && b) (every_append p xs ys) ∙ sym (and_assoc (p x) (every p xs) (every p ys))

-- the least value is at most each, and is one of them
pub least_start : (v : ℕ → ℕ) (r n : ℕ) → least_below v r n ≤ r
unfolding least_below
least_start v r zero = omega arith
least_start v r (suc n) = let h = least_start v r n in omega arith

pub least_le : (v : ℕ → ℕ) (r n i : ℕ) → i < n → least_below v r n ≤ v i
unfolding least_below
least_le v r zero i lt = absurd (omega arith)
least_le v r (suc n) i lt = go (least_le v r n i) (eq-or-lt_of_le (le_of_suc-le-suc lt))
  where
    go : (i < n → least_below v r n ≤ v i) → (i ≡ n) ⊎ (i < n) → min (least_below v r n) (v n) ≤ v i
    go rest (inl e) = rw e (omega arith)
    go rest (inr lt') = let h = rest lt' in omega arith

pub least_cases : (v : ℕ → ℕ) (r n : ℕ) → (least_below v r n ≡ r) ⊎ ((i : ℕ) × (i < n) × (least_below v r n ≡ v i))
unfolding least_below
least_cases v r zero = inl refl
least_cases v r (suc n) = go (passes_or_not (leb (least_below v r n) (v n))) (least_cases v r n)
  where
    go : (leb (least_below v r n) (v n) ≡ true) ⊎ (leb (least_below v r n) (v n) ≡ false)
        → (least_below v r n ≡ r) ⊎ ((i : ℕ) × (i < n) × (least_below v r n ≡ v i))
        → (min (least_below v r n) (v n) ≡ r) ⊎ ((i : ℕ) × (i < suc n) × (min (least_below v r n) (v n) ≡ v i))
    go (inl e) (inl h) = let le = leb-true (least_below v r n) (v n) e in inl (omega arith)
    go (inl e) (inr (i, lt, h)) = let le = leb-true (least_below v r n) (v n) e in inr (i, omega arith, omega arith)
    go (inr e) h = let le = leb-false (least_below v r n) (v n) e in inr (n, omega arith, omega arith)

-- the greatest value is that of an element, where it is not 0
pub greatest_reached : {A : Type 0} (v : A → ℕ) (xs : List A) (k : ℕ) → greatest v xs ≡ suc k → (x : A) × (v x ≡ suc k)
unfolding greatest
greatest_reached v [] k e = absurd (omega arith)
greatest_reached {A} v (x ∷ xs) k e = go (passes_or_not (leb (v x) (greatest v xs))) (greatest_reached v xs k)
  where
    go : (leb (v x) (greatest v xs) ≡ true) ⊎ (leb (v x) (greatest v xs) ≡ false) → (greatest v xs ≡ suc k → (y : A) × (v y ≡ suc k))
        → (y : A) × (v y ≡ suc k)
    go (inl l) rest = let le = leb-true (v x) (greatest v xs) l in rest (omega arith)
    go (inr l) rest = let lt = leb-false (v x) (greatest v xs) l in (x, omega arith)

pub first_le : (p : ℕ → Bool) (n : ℕ) → first_index p n ≤ n
unfolding first_index
first_le p zero = omega arith
first_le p (suc n) = go (p 0) (first_le (λ j. p (suc j)) n)
  where
    go : (b : Bool) → first_index (λ j. p (suc j)) n ≤ n → cond b 0 (suc (first_index (λ j. p (suc j)) n)) ≤ suc n
    go true le = omega arith
    go false le = omega arith

-- where an index passes, the first one does, and is no higher
pub first_found : (p : ℕ → Bool) (n i : ℕ) → i < n → p i ≡ true → (first_index p n ≤ i) × (p (first_index p n) ≡ true)
unfolding first_index
first_found p zero i lt h = absurd (omega arith)
first_found p (suc n) i lt h = go (p 0) refl i lt h (first_found (λ j. p (suc j)) n)
  where
    go : (b : Bool) → p 0 ≡ b → (j : ℕ) → j < suc n → p j ≡ true
        → ((j : ℕ) → j < n → p (suc j) ≡ true
        → (first_index (λ j. p (suc j)) n ≤ j) × (p (suc (first_index (λ j. p (suc j)) n)) ≡ true))
        → (cond b 0 (suc (first_index (λ j. p (suc j)) n)) ≤ j) × (p (cond b 0 (suc (first_index (λ j. p (suc j)) n))) ≡ true)
    go true e j l g rest = (omega arith, e)
    go false e zero l g rest = absurd (false≢true (sym e ∙ g))
    go false e (suc j) l g rest = let r = rest j (omega arith) g in let le = r.0 in (omega arith, r.1)

-- an index below n that is found passes
pub first_passes : (p : ℕ → Bool) (n : ℕ) → first_index p n < n → p (first_index p n) ≡ true
unfolding first_index
first_passes p zero lt = absurd (omega arith)
first_passes p (suc n) lt = go (p 0) refl lt (first_passes (λ j. p (suc j)) n)
  where
    go : (b : Bool) → p 0 ≡ b → cond b 0 (suc (first_index (λ j. p (suc j)) n)) < suc n
        → (first_index (λ j. p (suc j)) n < n → p (suc (first_index (λ j. p (suc j)) n)) ≡ true)
        → p (cond b 0 (suc (first_index (λ j. p (suc j)) n))) ≡ true
    go true e l rest = e
    go false e l rest = rest (omega arith)

-- tests that agree below n have the same first index
pub first_same : (p q : ℕ → Bool) (n : ℕ) → ((i : ℕ) → i < n → p i ≡ q i) → first_index p n ≡ first_index q n
unfolding first_index
first_same p q zero same = refl
first_same p q (suc n) same =
    rw (same 0 (omega arith), first_same (λ j. p (suc j)) (λ j. q (suc j)) n (λ i lt. same (suc i) (omega arith)))

-- where an index passes, the last one does, and is no lower
pub last_found : (p : ℕ → Bool) (d n i : ℕ) → i < n → p i ≡ true
    → (i ≤ last_index p d n) × (last_index p d n < n) × (p (last_index p d n) ≡ true)
unfolding last_index
last_found p d zero i lt h = absurd (omega arith)
last_found p d (suc n) i lt h = go (p n) refl (last_found p d n i) (eq-or-lt_of_le (le_of_suc-le-suc lt))
  where
    go : (b : Bool) → p n ≡ b → (i < n → p i ≡ true → (i ≤ last_index p d n) × (last_index p d n < n) × (p (last_index p d n) ≡ true))
        → (i ≡ n) ⊎ (i < n)
        → (i ≤ cond b n (last_index p d n)) × (cond b n (last_index p d n) < suc n) × (p (cond b n (last_index p d n)) ≡ true)
    go true e rest below = (omega (arith, lt), omega arith, e)
    go false e rest (inl same) = absurd (false≢true (sym e ∙ rw same at h))
    go false e rest (inr l) = let r = rest l h in (r.0, omega (arith, r.1), r.2)

-- a list by its indices
pub length_list_below : (v : ℕ → ℕ) (n : ℕ) → length (list_below v n) ≡ n
unfolding list_below
length_list_below v zero = refl
length_list_below v (suc n) = ap suc (length_list_below (λ i. v (suc i)) n)

pub get_d_list_below : (v : ℕ → ℕ) (n i d : ℕ) → i < n → get_or (list_below v n) i d ≡ v i
unfolding list_below
get_d_list_below v zero i d lt = absurd (omega arith)
get_d_list_below v (suc n) zero d lt = refl
get_d_list_below v (suc n) (suc i) d lt = get_d_list_below (λ i. v (suc i)) n i d (omega arith)

-- its members are the values
pub value_in : (v : ℕ → ℕ) (n i : ℕ) → i < n → Memᴰ (v i) (list_below v n)
unfolding list_below
value_in v zero i lt = absurd (omega arith)
value_in v (suc n) zero lt = Memᴰ.head refl
value_in v (suc n) (suc i) lt = Memᴰ.tail (value_in (λ j. v (suc j)) n i (omega arith))

pub value_of : (v : ℕ → ℕ) (n c : ℕ) → Memᴰ c (list_below v n) → (i : ℕ) × (i < n) × (c ≡ v i)
unfolding list_below
value_of v zero c m = absurd (Memᴰ.not-nil m)
value_of v (suc n) c m =
    ⊎_elim (λ e. (0, omega arith, e)) (λ k. let (i, l, e) = value_of (λ j. v (suc j)) n c k in (suc i, omega arith, e))
    (Memᴰ.cases_cons m)

pub total_constant : (k n : ℕ) → total (list_below (λ i. k) n) ≡ n * k
unfolding list_below total
total_constant k zero = omega arith
total_constant k (suc n) = rw (total_constant k n, suc-mul n k) (omega arith)

-- an index of the list needs no value for the others
pub get_d_inside : (T : List ℕ) (i d e : ℕ) → i < length T → get_or T i d ≡ get_or T i e
get_d_inside [] i d e lt = absurd (omega arith)
get_d_inside (x ∷ T) zero d e lt = refl
get_d_inside (x ∷ T) (suc i) d e lt = get_d_inside T i d e (le_of_suc-le-suc lt)

-- where each value is at most the list's, so is the sum; and where the sum is not less, no value is
pub total_lower : (v : ℕ → ℕ) (d : ℕ) (T : List ℕ) → ((i : ℕ) → i < length T → v i ≤ get_or T i d) → total (list_below v (length T)) ≤ total T
unfolding list_below total
total_lower v d [] le = omega arith
total_lower v d (x ∷ T) le =
    let h = total_lower (λ i. v (suc i)) d T (λ i lt. le (suc i) (omega arith)) in
    let h0 = le 0 (omega arith) in
    omega arith

pub total_same : (v : ℕ → ℕ) (d : ℕ) (T : List ℕ) → ((i : ℕ) → i < length T → v i ≤ get_or T i d) → total T ≤ total (list_below v (length T))
    → (i : ℕ) → i < length T → v i ≡ get_or T i d
unfolding list_below total
total_same v d [] le same i lt = absurd (omega arith)
total_same v d (x ∷ T) le same i lt =
    let rest_le : (j : ℕ) → j < length T → v (suc j) ≤ get_or T j d = λ j l. le (suc j) (omega arith) in
    let low = total_lower (λ j. v (suc j)) d T rest_le in
    let first_le = le 0 (omega arith) in
    go i lt (total_same (λ j. v (suc j)) d T rest_le (omega arith)) (omega arith)
  where
    go : (i : ℕ) → i < suc (length T) → ((j : ℕ) → j < length T → v (suc j) ≡ get_or T j d) → v 0 ≡ x → v i ≡ get_or (x ∷ T) i d
    go zero l rest here = here
    go (suc j) l rest here = rest j (omega arith)

-- the sum with another number at an index
pub total_set : (T : List ℕ) (c v d : ℕ) → c < length T → total (set T c v) + get_or T c d ≡ total T + v
unfolding total
total_set [] c v d lt = absurd (omega arith)
total_set (x ∷ T) zero v d lt = omega arith
total_set (x ∷ T) (suc c) v d lt = let h = total_set T c v d (omega arith) in omega arith

-- a count of the indices below n that pass
abbrev pub one : Bool → ℕ
one true = 1
one false = 0

unfoldable pub count_passing : (ℕ → Bool) → ℕ → ℕ
count_passing p zero = 0
count_passing p (suc n) = one (p n) + count_passing p n

one_le : (a b : Bool) → (a ≡ true → b ≡ true) → one a ≤ one b
one_le true b h = rw (h refl) (omega arith)
one_le false b h = omega arith

pub count_all : (p : ℕ → Bool) (n : ℕ) → count_passing p n ≤ n
unfolding count_passing
count_all p zero = omega arith
count_all p (suc n) = let h = count_all p n in let h1 = one_le (p n) true (λ e. refl) in omega arith

count_le : (p q : ℕ → Bool) → ((i : ℕ) → p i ≡ true → q i ≡ true) → (n : ℕ) → count_passing p n ≤ count_passing q n
unfolding count_passing
count_le p q more zero = omega arith
count_le p q more (suc n) = let h = count_le p q more n in let h1 = one_le (p n) (q n) (more n) in omega arith

pub count_none : (p : ℕ → Bool) → ((i : ℕ) → p i ≡ false) → (n : ℕ) → count_passing p n ≡ 0
unfolding count_passing
count_none p none zero = refl
count_none p none (suc n) = omega (arith, ap one (none n), count_none p none n)

-- with one index more that passes, one more is counted
pub count_one : (p q : ℕ → Bool) (d : ℕ) → p d ≡ false → q d ≡ true → ((i : ℕ) → (i ≡ d → ⊥) → q i ≡ p i) → (n : ℕ) → d < n
    → count_passing q n ≡ count_passing p n + 1
unfolding count_passing
count_one p q d no_p is_q same zero lt = absurd (omega arith)
count_one p q d no_p is_q same (suc n) lt =
    ⊎_elim
    (λ (e : d ≡ n). omega (arith, ap one (rw e at no_p), ap one (rw e at is_q), early n (omega arith)))
    (λ l. omega (arith, ap one (same n (λ e. omega arith)), count_one p q d no_p is_q same n l))
    (eq-or-lt_of_le (le_of_suc-le-suc lt))
  where
    early : (m : ℕ) → m ≤ d → count_passing q m ≡ count_passing p m
    early zero l = refl
    early (suc m) l = omega (arith, ap one (same m (λ e. omega arith)), early m (omega arith))

pub count_more : (p q : ℕ → Bool) → ((i : ℕ) → p i ≡ true → q i ≡ true) → (n d : ℕ) → d < n → p d ≡ false → q d ≡ true
    → count_passing p n < count_passing q n
unfolding count_passing
count_more p q more zero d lt no_p is_q = absurd (omega arith)
count_more p q more (suc n) d lt no_p is_q =
    let h1 = one_le (p n) (q n) (more n) in
    ⊎_elim
    (λ (e : d ≡ n). let z : one (p n) ≡ 0 = ap one (rw e at no_p) in let o : one (q n) ≡ 1 = ap one (rw e at is_q) in
    let h = count_le p q more n in omega arith)
    (λ l. let h = count_more p q more n d l no_p is_q in omega arith)
    (eq-or-lt_of_le (le_of_suc-le-suc lt))

-- Numbers below `none` without a gap: below each that is above 1 stands the next lower one. They are at most as many as the indices.
pub record Gapless (T : ℕ → ℕ) (none n : ℕ) : Type 0 where
  pub index : (c : ℕ) → T c < none → c < n
  pub next : (c k : ℕ) → T c < none → T c ≡ suc (suc k) → (d : ℕ) × (T d ≡ suc k)

module _ (T : ℕ → ℕ) (none n : ℕ) (gapless : Gapless T none n) where
  down : (k c : ℕ) → T c ≡ k → k < none → (j : ℕ) → suc j ≤ k → (d : ℕ) × (T d ≡ suc j)
  down zero c e lt j le = absurd (omega arith)
  down (suc zero) c e lt j le = (c, omega arith)
  down (suc (suc k)) c e lt j le =
      let r = gapless.next c k (omega arith) e in
      ⊎_elim (λ (h : suc j ≡ suc (suc k)). (c, omega arith)) (λ h. down (suc k) r.0 r.1 (omega arith) j (omega arith)) (eq-or-lt_of_le le)

  up : (c : ℕ) → T c < none → (j : ℕ) → j ≤ T c → j ≤ count_passing (λ d. leb (T d) j) n
  up c lt zero le = omega arith
  up c lt (suc j) le =
      let h = up c lt j (omega arith) in
      let w = down (T c) c refl lt j le in
      let d = w.0 in
      let e = w.1 in
      let more =
      count_more (λ d. leb (T d) j) (λ d. leb (T d) (suc j)) (λ i t. let l = leb-true (T i) j t in le-leb (T i) (suc j) (omega arith)) n d
      (gapless.index d (omega arith)) (lt-leb (T d) j (omega arith)) (le-leb (T d) (suc j) (omega arith)) in
      omega arith

  pub gapless_bound : (c : ℕ) → T c < none → T c ≤ n
  gapless_bound c lt =
      let h = up c lt (T c) (omega arith) in
      let m = count_all (λ d. leb (T d) (T c)) n in
      omega arith
