-- The seal call's answer for every image, the words of the image after it, and the number that the C side gets.
use Rattle.std.specs.Prelude.{ℕ, ◌+◌, ◌*◌, ◌^◌, ◌≡◌, cond, ◌&&◌, List, [], ◌∷◌, ◌++◌, length, leb, Result, Ok, Err}
use Rattle.image.specs.Word.{most_words, ordered_sum}
use Rattle.image.specs.Answer.{answer_number}
use Rattle.image.specs.declared.answer.Refusal.{Refusal}
use Rattle.image.specs.declared.answer.Refusal.TheVariants.{Length}
use Rattle.rules.specs.Checked.{all_but_last}

-- what the seal call comes to: the sum word is written, or the image is refused
abbrev pub Sealing : Type 0
Sealing = Result (Unit {0}) Refusal

-- 1: "The image has fewer than 2 or more than 8,192 words"; nothing else is asked of it
abbrev pub sealing : List ℕ → Sealing
sealing image = cond (leb 2 (length image) && leb (length image) most_words) (Ok tt) (Err Length)

-- 0 where the sum word is written, "N × 2^32 + P for refusal N at position P" otherwise
abbrev pub seal_answer : Sealing → ℕ
seal_answer = answer_number (λ written. 0)

-- "Kind 15 is the sum word": the kind above the payload that the rule gives over the words before it
abbrev pub sum_word : List ℕ → ℕ
sum_word earlier = 15 * 2 ^ 28 + ordered_sum earlier

-- the words before the last as they were, and after them their sum word
abbrev pub with_sum : List ℕ → List ℕ
with_sum image = all_but_last image ++ (sum_word (all_but_last image) ∷ [])

-- a refusal: "Nothing lent is changed."
abbrev pub image_after : Sealing → List ℕ → List ℕ
image_after (Ok written) image = with_sum image
image_after (Err r) image = image

-- what the seal call does: its answer, and the words of the image after it
pub record SealCalled (before : List ℕ) (found : Sealing) (after : List ℕ) : Type 0 where
  pub answer : found ≡ sealing before
  pub image : after ≡ image_after (sealing before) before
