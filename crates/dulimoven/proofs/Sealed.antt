-- A sealed image is never answered 2, an accepted image stays as it is, and to seal twice is to seal once: of the check of every engine that meets
-- demand 1 and every seal call that meets its own (`engines_seal`), and so of these (`sealed_met`).
-- Assumes nothing.
use Prim.Native.Nat.{ℕ, ◌/◌, ◌^◌, ◌≤◌}
use native.Mathlib.Omega.{arith}
use native.Mathlib.Decide.{dec_lt}
use mathlib.Core.Path.{◌≡◌, refl, sym, ap, subst, ◌∙◌}
use mathlib.Core.Logic.{◌≢◌, ◌⊎◌, inl, inr, ⊎_elim, by_cases}
use mathlib.Core.List.{List}
use lib.ListN.{length}
use Rattle.image.specs.Answer.{checked_answer}
use Rattle.image.specs.Word.{most_words}
use Rattle.image.specs.declared.answer.Head.{Head}
use Rattle.image.specs.declared.answer.Refusal.TheVariants.{Length}
use Rattle.rules.specs.Checked.{checked}
use Rattle.rules.proofs.Checked.{refused_short, refused_long}
use Rattle.library.proofs.Accepted.{checks, faultless}
use Rattle.seal.specs.Answer.{with_sum}
use Rattle.seal.proofs.Right.{NotTwo, length_sealed, sealed_right, right_stays, right_unrefused}
use Rattle.dulimoven.specs.Returned.{Returned, returned, turned_down}
use Rattle.dulimoven.specs.SealCall.{too_short, too_long, refused}
use Rattle.dulimoven.specs.Demands.{Engine, Demand1}
use Rattle.dulimoven.specs.Sealed.{Sealer, SealDemand, Seals}
use Rattle.dulimoven.specs.Engine.{engine, sealer}
use Rattle.dulimoven.proofs.SealCall.{seal_only, seal_writes, sealer_met}
use Rattle.dulimoven.proofs.Demands.{total}
use Rattle.std.specs.Prelude.{Ok, Err}
use Rattle.image.specs.Answer.{Checked}

-- an answer that is not 2, as a number
not_two : (image : List ℕ) → NotTwo (checked image) → checked_answer (checked image) / 2 ^ 32 ≢ 2
not_two image other = go (checked image) refl other
  where
    go : (k : Checked) → checked image ≡ k → NotTwo k → checked_answer k / 2 ^ 32 ≢ 2
    go (Err r) e not = not
    go (Ok h) e not =
        let good = faultless image h e in λ two. omega (arith, good.facts_high, good.steps_high, good.sequences_high)

module _ (image : List ℕ) where
  -- an image that is refused 1 by both calls, or one that is sealed
  sized : ((sealer image ≡ turned_down Length image) × (checked image ≡ Err Length)) ⊎ ((2 ≤ length image) × (length image ≤ most_words))
  sized =
      by_cases (dec_lt (length image) 2)
      (λ l. inl (sym (seal_only image _ (refused Length (too_short l) refl)), sym (refused_short image l)))
      (λ low. by_cases (dec_lt most_words (length image))
      (λ l. inl (sym (seal_only image _ (refused Length (too_long l) refl)), sym (refused_long image l)))
      (λ high. inr (omega arith, omega arith)))

  seal_right : checked_answer (checked (sealer image).area) / 2 ^ 32 ≢ 2
  seal_right =
      ⊎_elim
      (λ (same, one). subst (λ (ws : List ℕ). checked_answer (checked ws) / 2 ^ 32 ≢ 2) (sym (ap (λ (r : Returned). r.area) same))
      (λ two. omega (arith, ap (λ (k : Checked). checked_answer k / 2 ^ 32) one)))
      (λ (low, high). subst (λ (ws : List ℕ). checked_answer (checked ws) / 2 ^ 32 ≢ 2) (sym (ap (λ (r : Returned). r.area) (seal_writes image low high)))
      (not_two (with_sum image) (right_unrefused (with_sum image) (sealed_right image))))
      sized

  seal_twice : sealer (sealer image).area ≡ sealer image
  seal_twice =
      ⊎_elim (λ (same, one). ap (λ (r : Returned). sealer r.area) same)
      (λ (low, high). let size = length_sealed image (omega arith) in
      ap (λ (r : Returned). sealer r.area) (seal_writes image low high)
      ∙ seal_writes (with_sum image) (omega arith) (omega arith)
      ∙ ap (returned 0) (right_stays (with_sum image) (omega arith) (sealed_right image))
      ∙ sym (seal_writes image low high))
      sized

seal_keeps : (image : List ℕ) (h : Head) → checked image ≡ Ok h → sealer image ≡ returned 0 image
seal_keeps image h e =
    let c = checks image h e in
    let low = c.low in
    seal_writes image low c.high ∙ ap (returned 0) (right_stays image (omega arith) c.sum)

pub engines_seal : (e : Engine) → Demand1 e → (seal : Sealer) → SealDemand seal → Seals e.check seal
engines_seal e demand seal asked =
    let same : (image : List ℕ) → seal image ≡ sealer image = λ image. seal_only image (seal image) (asked.sealed image) in
    record {
      right = λ image two.
          seal_right image
          (ap (λ (r : Returned). checked_answer (checked r.area) / 2 ^ 32) (sym (same image))
          ∙ ap (λ (n : ℕ). n / 2 ^ 32) (sym (demand.check (seal image).area)) ∙ two);
      kept = λ image h accepted. same image ∙ seal_keeps image h accepted;
      twice = λ image.
          same (seal image).area ∙ ap (λ (r : Returned). sealer r.area) (same image) ∙ seal_twice image ∙ sym (same image);
    }

pub sealed_met : Seals engine.check sealer
sealed_met = engines_seal engine total sealer sealer_met
