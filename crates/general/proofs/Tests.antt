-- Laws of a test over a list: what `some` and `All` say.
use Prim.Native.Nat.{ℕ, zero, suc, ◌<◌}
use mathlib.Core.Path.{◌≡◌, refl, sym, subst}
use mathlib.Core.Logic.{⊎_elim}
use mathlib.Core.Bool.{Bool, true, ◌||◌, false≢true}
use mathlib.Core.List.Memᴰ
use mathlib.Core.List.{List, [], ◌∷◌, Memᴰ}
use native.Mathlib.Omega.{arith}
use lib.ListN.{length, get_or}
use Rattle.general.specs.Tests.{some, All}
use Rattle.general.proofs.Bools.{or_cases, or_left, or_right, both_ways}

module _ {ℓ} {A : Type ℓ} (p : A → Bool) where
  -- the element that passes
  pub some_found : (xs : List A) → some p xs ≡ true → (x : A) × Memᴰ x xs × (p x ≡ true)
  unfolding some
  some_found [] e = absurd (false≢true e)
  some_found (x ∷ xs) e =
      ⊎_elim (λ h. (x, Memᴰ.head refl, h)) (λ h. let r = some_found xs h in (r.0, Memᴰ.tail r.1, r.2)) (or_cases (p x) (some p xs) e)

  pub some_intro : {x : A} {xs : List A} → Memᴰ x xs → p x ≡ true → some p xs ≡ true
  unfolding some
  some_intro {x} (Memᴰ.head {x = y} {xs = ys} e) h = or_left (p y) (some p ys) (subst (λ z. p z ≡ true) e h)
  some_intro {x} (Memᴰ.tail {x = y} {xs = ys} m) h = or_right (p y) (some p ys) (some_intro m h)

  -- the same by the element's place
  pub some_place : (xs : List A) (d : A) → some p xs ≡ true → (i : ℕ) × (i < length xs) × (p (get_or xs i d) ≡ true)
  unfolding some
  some_place [] d e = absurd (false≢true e)
  some_place (x ∷ xs) d e =
      ⊎_elim (λ h. (zero, omega arith, h))
      (λ h. let r = some_place xs d h in let lt = r.1 in (suc r.0, omega arith, r.2)) (or_cases (p x) (some p xs) e)

  pub some_at : (xs : List A) (d : A) (i : ℕ) → i < length xs → p (get_or xs i d) ≡ true → some p xs ≡ true
  unfolding some
  some_at [] d i lt h = absurd (omega arith)
  some_at (x ∷ xs) d zero lt h = or_left (p x) (some p xs) h
  some_at (x ∷ xs) d (suc i) lt h = or_right (p x) (some p xs) (some_at xs d i (omega arith) h)

-- what holds of each element, and of the default, holds at every index
pub all_default : {A : Type 0} (P : A → Type 0) (d : A) → P d → (xs : List A) → All P xs → (i : ℕ) → P (get_or xs i d)
all_default P d none [] each i = none
all_default P d none (x ∷ xs) each zero = each.0
all_default P d none (x ∷ xs) each (suc i) = all_default P d none xs each.1 i

-- and of each member
pub all_in_lem : {A : Type 0} (P : A → Type 0) (xs : List A) → All P xs → (x : A) → Memᴰ x xs → P x
all_in_lem P [] each x m = absurd (Memᴰ.not-nil m)
all_in_lem P (y ∷ xs) each x m = ⊎_elim (λ e. subst P (sym e) each.0) (all_in_lem P xs each.1 x) (Memᴰ.cases_cons m)

-- one of two tests passes somewhere
pub some_or {ℓ} : {A : Type ℓ} (p q : A → Bool) (xs : List A) → some (λ x. p x || q x) xs ≡ (some p xs || some q xs)
some_or p q xs =
    both_ways (some (λ x. p x || q x) xs) (some p xs || some q xs)
    (λ e.
    let f = some_found (λ x. p x || q x) xs e in
    ⊎_elim (λ h. or_left (some p xs) (some q xs) (some_intro p f.1 h)) (λ h. or_right (some p xs) (some q xs) (some_intro q f.1 h))
    (or_cases (p f.0) (q f.0) f.2))
    (λ e.
    ⊎_elim
    (λ h. let f = some_found p xs h in some_intro (λ x. p x || q x) f.1 (or_left (p f.0) (q f.0) f.2))
    (λ h. let f = some_found q xs h in some_intro (λ x. p x || q x) f.1 (or_right (p f.0) (q f.0) f.2))
    (or_cases (some p xs) (some q xs) e))
