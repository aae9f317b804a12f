-- Visits of stale numbers only, for any table: a visit leaves fresh what does not call the number visited.
-- Assumes nothing.
use Prim.Native.Nat.{ℕ, ◌≤◌, ◌<◌}
use native.Mathlib.Omega.{arith}
use native.Mathlib.Decide.{ℕ_discrete}
use mathlib.Core.Path.{◌≡◌, refl, sym, ◌∙◌, subst}
use mathlib.Core.Bool.{Bool, true, false, false≢true}
use mathlib.Core.List.{List}
use lib.ListN.{length}
use Rattle.callers.specs.Callers.{in_set, every_sequence}
use Rattle.callers.proofs.CallerSets.{all_in_lem}
use Rattle.settling.specs.Settling.{Visit, Fresh, Local}

module _ {visit : List ℕ → ℕ → List ℕ} {weight : List ℕ → ℕ} {n room : ℕ} {calls : ℕ → ℕ → Bool} (local : Local visit calls n room) where
  -- after a visit of number c the others that are not stale were so before, and where it changed something none of them calls c
  pub fresh_turn : (t : List ℕ) (c : ℕ) (t' : List ℕ) (b : Bool) (stale stale' : ℕ → Bool) → room ≤ length t → c < n → Fresh visit n stale t → Visit visit weight t c t' b
      → ((d : ℕ) → d < n → stale' d ≡ false → ((d ≡ c → ⊥) → stale d ≡ false) × (b ≡ true → calls d c ≡ false)) → Fresh visit n stale' t'
  fresh_turn t c t' true stale stale' room low fresh v after d l e =
      let apart = (after d l e).1 refl in
      rw v.done
      (elim (ℕ_discrete d c) [
        | yes same ↦ subst (λ (k : ℕ). visit (visit t c) k ≡ visit t c) (sym same) (local.again t c low room (subst (λ (k : ℕ). calls k c ≡ false) same apart))
        | no other ↦ local.stays t c d low l room apart (fresh d l ((after d l e).0 other))
      ])
  fresh_turn t c t' false stale stale' room low fresh v after d l e =
      let same = v.stays refl in
      rw same
      (elim (ℕ_discrete d c) [
        | yes here ↦ subst (λ (k : ℕ). visit t k ≡ t) (sym here) (sym v.done ∙ same)
        | no other ↦ fresh d l ((after d l e).0 other)
      ])

-- at first every sequence is stale
pub fresh_start : (visit : List ℕ → ℕ → List ℕ) (n : ℕ) (t : List ℕ) → n ≤ 256
    → Fresh visit n (in_set every_sequence) t
fresh_start visit n t few c l e = absurd (false≢true (sym e ∙ all_in_lem c (omega arith)))
