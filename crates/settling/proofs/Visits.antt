-- Visits in place until nothing changes: what holds at the head of each loop over visits, for any table.
-- Assumes nothing.
use Prim.Native.Nat.{ℕ, ◌+◌, ◌≤◌, ◌<◌}
use native.Mathlib.Omega.{arith}
use native.Mathlib.Decide.{ℕ_discrete, dec_lt}
use mathlib.Core.Path.{◌≡◌, refl, sym, ap, ◌∙◌, subst}
use mathlib.Core.Bool.{Bool, true, false}
use mathlib.Core.List.{List}
use lib.ListN.{length}
use mir.Val.{bool_byte}
use Rattle.settling.specs.Settling.{Visit, Reached, here, next, Pass, Lowers}
use Rattle.settling.specs.Turns.{place_of}

-- visits that agree lead to the same tables
pub reached_same : (visit visit' : List ℕ → ℕ → List ℕ) (n : ℕ) → ((t : List ℕ) (c : ℕ) → c < n → visit t c ≡ visit' t c) → {t s : List ℕ} → Reached visit n t s
    → Reached visit' n t s
reached_same visit visit' n same here = here
reached_same visit visit' n same {t} (next {table = s} c l r) =
    subst (Reached visit' n t) (sym (same s c l)) (next c l (reached_same visit visit' n same r))

-- visits after visits
pub reached_then : {visit : List ℕ → ℕ → List ℕ} {n : ℕ} {t s u : List ℕ} → Reached visit n t s → Reached visit n s u → Reached visit n t u
reached_then first here = first
reached_then first (next c l r) = next c l (reached_then first r)

-- the place that comes at a turn, and the turn at which a place comes
pub place_back : (forward : Bool) (len i : ℕ) → i < len → (place_of forward len i < len) × (place_of forward len (place_of forward len i) ≡ i)
place_back true len i l = (l, refl)
place_back false len i l = (omega arith, omega arith)

module _ {visit : List ℕ → ℕ → List ℕ} {weight : List ℕ → ℕ} {n : ℕ} where
  -- one more visit
  pub reached_visit : {t : List ℕ} (s : List ℕ) (c : ℕ) (u : List ℕ) (b : Bool) → c < n → Reached visit n t s → Visit visit weight s c u b → Reached visit n t u
  reached_visit {t} s c u b l r v = subst (Reached visit n t) (sym v.done) (next c l r)

module _ {visit : List ℕ → ℕ → List ℕ} {weight : List ℕ → ℕ} {n room : ℕ} (laws : Lowers visit weight n room) where
  pub reached_length : {t s : List ℕ} → Reached visit n t s → length s ≡ length t
  reached_length here = refl
  reached_length (next {table = s} c l r) = laws.keeps s c ∙ reached_length r

  pub reached_least : {t s : List ℕ} → room ≤ length t → Reached visit n t s → weight s ≤ weight t
  reached_least long here = omega arith
  reached_least long (next {table = s} c l r) =
      omega (arith, laws.lowers s c l (omega (arith, reached_length r)), reached_least long r)

-- ---- a pass

module _ (visit : List ℕ → ℕ → List ℕ) (weight : List ℕ → ℕ) where
  -- what holds at the head of its loop, after i visits, first to last or last to first: where none of them changed the table, it is as before,
  -- and none of them would change it
  pub record Passing (n : ℕ) (forward : Bool) (t₀ t : List ℕ) (count i : ℕ) : Type 0 where
    pub reached : Reached visit n t₀ t
    pub few : count ≤ i
    pub falls : 0 < count → weight t < weight t₀
    pub still : count ≡ 0 → (t ≡ t₀) × ((j : ℕ) → j < i → visit t₀ (place_of forward n j) ≡ t₀)

  pub passing_start : (n : ℕ) (forward : Bool) (t : List ℕ) → Passing n forward t t 0 0
  passing_start n forward t =
      record { reached = here; few = omega arith; falls = λ some. absurd (omega arith); still = λ none. (refl, λ j l. absurd (omega arith)) }

module _ {visit : List ℕ → ℕ → List ℕ} {weight : List ℕ → ℕ} {n : ℕ} {forward : Bool} {t₀ t : List ℕ} {count i : ℕ}
    (here : Passing visit weight n forward t₀ t count i) where
  not_more : weight t ≤ weight t₀
  not_more = elim (dec_lt 0 count) [ yes some ↦ omega (arith, here.falls some) | no none ↦ omega (arith, ap weight (here.still (omega arith)).0) ]

  pub passing_turn : i < n → (t' : List ℕ) (new : Bool) → Visit visit weight t (place_of forward n i) t' new
      → Passing visit weight n forward t₀ t' (count + bool_byte new) (i + 1)
  passing_turn l t' true v =
      record {
        reached = reached_visit t (place_of forward n i) t' true (place_back forward n i l).0 here.reached v;
        few = omega (arith, here.few);
        falls = λ some. omega (arith, v.falls refl, not_more);
        still = λ none. absurd (omega arith);
      }
  passing_turn l t' false v =
      let stays = v.stays refl in
      record {
        reached = reached_visit t (place_of forward n i) t' false (place_back forward n i l).0 here.reached v;
        few = omega (arith, here.few);
        falls = λ some. omega (arith, ap weight stays, here.falls (omega arith));
        still = λ none.
            let (same, before) = here.still (omega arith) in (
              stays ∙ same,
              λ j k. elim (ℕ_discrete j i) [
                | yes now ↦ subst (λ (s : List ℕ). visit s (place_of forward n j) ≡ s) same (subst (λ (m : ℕ). visit t (place_of forward n m) ≡ t) (sym now) (sym v.done ∙ stays))
                | no other ↦ before j (omega arith)
              ],
            );
      }

  pub passing_end : (turns : ℕ) → turns ≤ i → i ≤ turns → Pass visit weight n turns t₀ t count
  passing_end turns over within =
      record {
        reached = here.reached;
        few = omega (arith, here.few);
        falls = here.falls;
        settled = λ all none c l.
            let (same, before) = here.still none in
            let (within, back) = place_back forward n c l in
            subst (λ (s : List ℕ). visit s c ≡ s) (sym same)
            (subst (λ (d : ℕ). visit t₀ d ≡ t₀) back (before (place_of forward n c) (omega arith)));
      }
