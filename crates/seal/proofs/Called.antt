-- The seal call's answer, case by case: 1, or the sum word is written, for which 0 stands.
-- Assumes nothing.
use Prim.Native.Nat.{ℕ, ◌≤◌, ◌<◌}
use native.Mathlib.Omega.{arith}
use mathlib.Core.Path.{◌≡◌, ap}
use mathlib.Core.Bool.{Bool, cond, ◌&&◌}
use mathlib.Core.List.{List}
use lib.ListN.{length}
use lib.Dec.{leb}
use borrow.Author.Tests.{le-leb, lt-leb}
use Rattle.image.specs.Word.{most_words}
use Rattle.image.specs.declared.answer.Refusal.TheVariants.{Length}
use Rattle.seal.specs.Answer.{Sealing, sealing, seal_answer}
use Rattle.std.specs.Prelude.{Ok, Err}

module _ (image : List ℕ) where
  -- by whether the image has 2 words or more, and 8,192 or less
  abbrev sealing_if : Bool → Bool → Sealing
  sealing_if low high = cond (low && high) (Ok tt) (Err Length)

  pub sealing_short : length image < 2 → sealing image ≡ Err Length
  sealing_short l = ap (λ (b : Bool). sealing_if b (leb (length image) most_words)) (lt-leb 2 (length image) l)

  pub sealing_long : most_words < length image → sealing image ≡ Err Length
  sealing_long l = (λ i. sealing_if (le-leb 2 (length image) (omega arith) i) (lt-leb (length image) most_words l i))

  pub sealing_sealed : 2 ≤ length image → length image ≤ most_words → sealing image ≡ Ok tt
  sealing_sealed low high = (λ i. sealing_if (le-leb 2 (length image) low i) (le-leb (length image) most_words high i))

  pub answer_sealed : 2 ≤ length image → length image ≤ most_words → seal_answer (sealing image) ≡ 0
  answer_sealed low high = ap seal_answer (sealing_sealed low high)
