-- What the seal call gives back is one of the cases of specs/SealCall, and the cases give no other number and no other image. What a
-- caller can tell by the number follows from the cases.
-- Assumes nothing.
use Prim.Native.Nat.{ℕ, ◌≤◌}
use native.Mathlib.Omega.{arith}
use native.Mathlib.Decide.{dec_lt}
use mathlib.Core.Path.{◌≡◌, refl, sym, ap, ◌∙◌}
use mathlib.Core.Logic.{◌↔◌, by_cases}
use mathlib.Core.List.{List, [], ◌∷◌, ◌++◌}
use lib.ListN.{length}
use Rattle.image.specs.Word.{most_words}
use Rattle.image.specs.declared.answer.Refusal.{Refusal}
use Rattle.image.specs.declared.answer.Refusal.TheVariants.{Length}
use Rattle.rules.specs.Checked.{all_but_last, last_word}
use Rattle.seal.specs.Answer.{Sealing, seal_answer, sum_word, with_sum, image_after}
use Rattle.seal.proofs.Called.{sealing_short, sealing_long, sealing_sealed}
use Rattle.seal.proofs.Right.{earlier_snoc, image_split, sum_word_is}
use Rattle.dulimoven.specs.Returned.{Returned, returned, turned_down}
use Rattle.dulimoven.specs.SealCall.{SealRefused, too_short, too_long, SealReturn, refused, sealed}
use Rattle.dulimoven.specs.Demands.{Refuses}
use Rattle.dulimoven.specs.Engine.{sealer}
use Rattle.dulimoven.specs.Sealed.{SealDemand}
use Rattle.dulimoven.proofs.Refusals.{refusal_high}

module _ (image : List ℕ) where
  -- what the call gives back for what it comes to
  abbrev given : Sealing → Returned
  given s = returned (seal_answer s) (image_after s image)

  pub seal_writes : 2 ≤ length image → length image ≤ most_words → sealer image ≡ returned 0 (with_sum image)
  seal_writes low high = ap given (sealing_sealed image low high)

  pub seal_return : SealReturn image (sealer image)
  seal_return =
      by_cases (dec_lt (length image) 2) (λ l. refused Length (too_short (omega arith)) (ap given (sealing_short image l)))
      (λ low. by_cases (dec_lt most_words (length image)) (λ l. refused Length (too_long (omega arith)) (ap given (sealing_long image l)))
      (λ high. sealed (omega arith) (omega arith) (all_but_last image) (last_word image) (sum_word (all_but_last image)) (image_split image (omega arith))
      (record { of_kind = omega arith; by_rule = omega arith }) (seal_writes (omega arith) (omega arith))))

  pub seal_only : (r : Returned) → SealReturn image r → r ≡ sealer image
  seal_only r (refused why k is) = is ∙ go why k
    where
      go : (why : Refusal) → SealRefused image why → turned_down why image ≡ sealer image
      go why (too_short l) = ap given (sym (sealing_short image (omega arith)))
      go why (too_long l) = ap given (sym (sealing_long image (omega arith)))
  seal_only r (sealed low high earlier last word same right is) =
      let before : all_but_last image ≡ earlier = ap all_but_last same ∙ earlier_snoc earlier last in
      is ∙ ap (λ (w : ℕ). returned 0 (earlier ++ (w ∷ []))) (sum_word_is earlier word right.of_kind right.by_rule)
      ∙ ap (λ (ws : List ℕ). returned 0 (ws ++ (sum_word ws ∷ []))) (sym before)
      ∙ sym (seal_writes low high)

  pub seal_told : (r : Returned) → SealReturn image r → Refuses r.number ↔ ((why : Refusal) × SealRefused image why)
  seal_told r k = (there k, λ (why, is). back why is)
    where
      there : SealReturn image r → Refuses r.number → (why : Refusal) × SealRefused image why
      there (refused why is same) high = (why, is)
      there (sealed low long earlier last word split right same) high = absurd (omega (arith, ap (λ (x : Returned). x.number) same))

      back : (why : Refusal) → SealRefused image why → Refuses r.number
      back why is =
          let same : r ≡ turned_down why image = seal_only r k ∙ sym (seal_only (turned_down why image) (refused why is refl)) in
          omega (arith, ap (λ (x : Returned). x.number) same, refusal_high why)

  pub seal_kept : (r : Returned) → SealReturn image r → Refuses r.number → r.area ≡ image
  seal_kept r (refused why is same) high = ap (λ (x : Returned). x.area) same
  seal_kept r (sealed low long earlier last word split right same) high = absurd (omega (arith, ap (λ (x : Returned). x.number) same))

pub sealer_met : SealDemand sealer
sealer_met =
    record {
      sealed = seal_return;
      kept = λ image. seal_kept image (sealer image) (seal_return image);
      told = λ image. seal_told image (sealer image) (seal_return image);
    }
