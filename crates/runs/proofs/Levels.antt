-- Stabilisation: over finitely many keys, and for any test that takes the table, the levels end in a table that is closed, and
-- whatever one more look preserves holds of all that is found.
use Prim.Native.Nat.{ℕ, zero, suc, ◌≤◌, ◌<◌}
use mathlib.Core.Path.{◌≡◌, refl, sym, ◌∙◌, ap, subst}
use mathlib.Core.Logic.{◌⊎◌, inl, inr, ⊎_elim}
use mathlib.Core.Bool.{Bool, true, false, cond, false≢true}
use mathlib.Core.List.Memᴰ
use mathlib.Core.List.{List, [], ◌∷◌, Memᴰ}
use native.Mathlib.Omega.{arith}
use lib.ListN.{length}
use lib.Dec.{ltb}
use borrow.Author.Tests.{ltb-true, ltb-false}
use Rattle.runs.specs.Levels.{Cell, cell, blank, missing, found, added, levels, least}
use Rattle.general.proofs.Bools.{or_cases, passes_or_not}

-- a property of every cell
abbrev Each : {K : Type 0} → (K → Bool → Type 0) → List (Cell K) → Type 0
Each P [] = Unit {0}
Each P (cell k b ∷ t) = P k b × Each P t

-- the keys of a table
abbrev keys : {K : Type 0} → List (Cell K) → List K
keys [] = []
keys (cell k b ∷ t) = k ∷ keys t

keys_added : {K : Type 0} (test : K → Bool) (t : List (Cell K)) → keys (added test t) ≡ keys t
unfolding added
keys_added test [] = refl
keys_added test (cell k b ∷ t) = ap (λ ks. k ∷ ks) (keys_added test t)

keys_blank : {K : Type 0} (ks : List K) → keys (blank ks) ≡ ks
unfolding blank
keys_blank [] = refl
keys_blank (k ∷ ks) = ap (λ l. k ∷ l) (keys_blank ks)

missing_blank : {K : Type 0} (ks : List K) → missing (blank ks) ≡ length ks
unfolding blank missing
missing_blank [] = refl
missing_blank (k ∷ ks) = ap suc (missing_blank ks)

added_fewer : {K : Type 0} (test : K → Bool) (t : List (Cell K)) → missing (added test t) ≤ missing t
unfolding added missing
added_fewer test [] = omega arith
added_fewer test (cell k true ∷ t) = added_fewer test t
added_fewer test (cell k false ∷ t) = go (test k) (added_fewer test t)
  where
    go : (b : Bool) → missing (added test t) ≤ missing t → missing (cell k b ∷ added test t) ≤ suc (missing t)
    go true h = omega arith
    go false h = omega arith

-- all that passes the test is found
abbrev Full : {K : Type 0} → (K → Bool) → List (Cell K) → Type 0
Full test t = Each (λ k b. test k ≡ true → b ≡ true) t

-- what is found has a property
abbrev EachFound : {K : Type 0} → (K → Type 0) → List (Cell K) → Type 0
EachFound P t = Each (λ k b. b ≡ true → P k) t

-- either something is added or there was nothing to add
added_or_full : {K : Type 0} (test : K → Bool) (t : List (Cell K)) → (missing (added test t) < missing t) ⊎ Full test t
unfolding added missing
added_or_full test [] = inr tt
added_or_full test (cell k true ∷ t) = ⊎_elim inl (λ full. inr ((λ e. refl), full)) (added_or_full test t)
added_or_full {K} test (cell k false ∷ t) = go (test k) refl (added_fewer test t) (added_or_full test t)
  where
    go : (b : Bool) → test k ≡ b → missing (added test t) ≤ missing t → (missing (added test t) < missing t) ⊎ Full test t
        → (missing (cell k b ∷ added test t) < suc (missing t)) ⊎ ((test k ≡ true → false ≡ true) × Full test t)
    go true e le rest = inl (omega arith)
    go false e le (inl lt) = inl (omega arith)
    go false e le (inr full) = inr ((λ h. sym e ∙ h), full)

module _ {K : Type 0} (same : K → K → Bool) (same_refl : (k : K) → same k k ≡ true) (same_eq : (j k : K) → same j k ≡ true → j ≡ k) where
  -- what holds of each cell that is found holds of each key that is
  found_each : (P : K → Type 0) (t : List (Cell K)) → EachFound P t → (k : K) → found same t k ≡ true → P k
  unfolding found
  found_each P [] each k e = absurd (false≢true e)
  found_each P (cell j b ∷ t) each k e = go (same j k) refl e (found_each P t each.1 k)
    where
      go : (s : Bool) → same j k ≡ s → cond s b (found same t k) ≡ true → (found same t k ≡ true → P k) → P k
      go true s e' rest = subst P (same_eq j k s) (each.0 e')
      go false s e' rest = rest e'

  -- only a key of the table is found
  found_key : (t : List (Cell K)) (k : K) → found same t k ≡ true → Memᴰ k (keys t)
  unfolding found
  found_key [] k e = absurd (false≢true e)
  found_key (cell j b ∷ t) k e = go (same j k) refl e (found_key t k)
    where
      go : (s : Bool) → same j k ≡ s → cond s b (found same t k) ≡ true → (found same t k ≡ true → Memᴰ k (keys t))
          → Memᴰ k (j ∷ keys t)
      go true s e' rest = Memᴰ.head (sym (same_eq j k s))
      go false s e' rest = Memᴰ.tail (rest e')

  -- a key that passes the test is found in a table that is full
  found_full : (test : K → Bool) (t : List (Cell K)) → Full test t → (k : K) → Memᴰ k (keys t) → test k ≡ true → found same t k ≡ true
  unfolding found
  found_full test [] full k m e = absurd (Memᴰ.not-nil m)
  found_full test (cell j b ∷ t) full k m e = go (same j k) refl (Memᴰ.cases_cons m) (λ m'. found_full test t full.1 k m' e)
    where
      go : (s : Bool) → same j k ≡ s → (k ≡ j) ⊎ Memᴰ k (keys t) → (Memᴰ k (keys t) → found same t k ≡ true)
          → cond s b (found same t k) ≡ true
      go true s at rest = full.0 (subst (λ i. test i ≡ true) (sym (same_eq j k s)) e)
      go false s (inl at) rest = absurd (false≢true (sym s ∙ subst (λ i. same j i ≡ true) (sym at) (same_refl j)))
      go false s (inr m') rest = rest m'

  module _ (look : (K → Bool) → K → Bool) where
    -- the next level
    abbrev next : List (Cell K) → List (Cell K)
    next t = added (look (found same t)) t

    -- a level that adds something is followed by the levels after it, and one that adds nothing is the last
    levels_step : (n : ℕ) (t : List (Cell K))
        → ((levels same look (suc n) t ≡ levels same look n (next t)) × (missing (next t) < missing t))
        ⊎ ((levels same look (suc n) t ≡ t) × (missing t ≤ missing (next t)))
    unfolding levels
    levels_step n t =
        ⊎_elim
        (λ (e : ltb (missing (next t)) (missing t) ≡ true). inl (rw (e, levels), ltb-true (missing (next t)) (missing t) e))
        (λ (e : ltb (missing (next t)) (missing t) ≡ false). inr (rw (e, levels), ltb-false (missing (next t)) (missing t) e))
        (passes_or_not (ltb (missing (next t)) (missing t)))

    -- the keys stay, and so the least table has none but them
    levels_keys : (n : ℕ) (t : List (Cell K)) → keys (levels same look n t) ≡ keys t
    levels_keys zero t = unfold levels in refl
    levels_keys (suc n) t =
        ⊎_elim (λ (e, fewer). ap keys e ∙ (levels_keys n (next t) ∙ keys_added (look (found same t)) t))
        (λ (e, same_missing). ap keys e) (levels_step n t)

    pub least_key : (ks : List K) (k : K) → least same look ks k ≡ true → Memᴰ k ks
    unfolding least
    least_key ks k e =
        rw (levels_keys (length ks) (blank ks) ∙ keys_blank ks) at (found_key (levels same look (length ks) (blank ks)) k e)

    -- one more look adds nothing at these keys
    Closed : List K → List (Cell K) → Type 0
    Closed ks t = (k : K) → Memᴰ k ks → look (found same t) k ≡ true → found same t k ≡ true

    closed_last : (t : List (Cell K)) → missing t ≤ missing (next t) → Closed (keys t) t
    unfolding Closed
    closed_last t le k m e =
        ⊎_elim (λ lt. absurd (omega arith)) (λ full. found_full (look (found same t)) t full k m e) (added_or_full (look (found same t)) t)

    -- the table that the levels end in is closed
    levels_closed : (n : ℕ) (t : List (Cell K)) → missing t ≤ n → Closed (keys t) (levels same look n t)
    levels_closed zero t le = unfold levels in closed_last t (omega arith)
    levels_closed (suc n) t le =
        ⊎_elim (λ (e, fewer). rw e (rw (keys_added (look (found same t)) t) at (levels_closed n (next t) (omega arith))))
        (λ (e, same_missing). rw e (closed_last t same_missing)) (levels_step n t)

    pub least_closed : (ks : List K) (k : K) → Memᴰ k ks → look (least same look ks) k ≡ true → least same look ks k ≡ true
    unfolding least Closed
    least_closed ks k m e = (rw (keys_blank ks) at (levels_closed (length ks) (blank ks) (omega (arith, missing_blank ks)))) k m e

    -- what one more look preserves holds of each key found
    module _ (P : K → Type 0) (keeps : (T : K → Bool) → ((k : K) → T k ≡ true → P k) → (k : K) → look T k ≡ true → P k) where
      added_each : (test : K → Bool) → ((k : K) → test k ≡ true → P k) → (t : List (Cell K)) → EachFound P t → EachFound P (added test t)
      unfolding added
      added_each test h [] each = tt
      added_each test h (cell k b ∷ t) each = ((λ e. ⊎_elim each.0 (h k) (or_cases b (test k) e)), added_each test h t each.1)

      levels_each : (n : ℕ) (t : List (Cell K)) → EachFound P t → EachFound P (levels same look n t)
      levels_each zero t each = unfold levels in each
      levels_each (suc n) t each =
          ⊎_elim
          (λ (e, fewer). rw e (levels_each n (next t) (added_each (look (found same t)) (keeps (found same t) (found_each P t each)) t each)))
          (λ (e, same_missing). rw e each) (levels_step n t)

      blank_each : (ks : List K) → EachFound P (blank ks)
      unfolding blank
      blank_each [] = tt
      blank_each (k ∷ ks) = ((λ e. absurd (false≢true e)), blank_each ks)

      pub least_sound : (ks : List K) (k : K) → least same look ks k ≡ true → P k
      unfolding least
      least_sound ks k e = found_each P (levels same look (length ks) (blank ks)) (levels_each (length ks) (blank ks) (blank_each ks)) k e
