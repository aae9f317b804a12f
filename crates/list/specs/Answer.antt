-- The list call's answer for every F, C, card area and list, the list's card after it, and the number that the C side gets (document 02,
-- request 5).
use Rattle.std.specs.Prelude.{ℕ, ◌*◌, ◌≡◌, cond, List, length, leb, ltb, Result, Ok, Err}
use Rattle.general.specs.Tests.{some}
use Rattle.image.specs.Answer.{answer_number}
use Rattle.image.specs.declared.answer.Refusal.{Refusal}
use Rattle.image.specs.declared.answer.Refusal.TheVariants.{CardArea, ListLength, Member}
use Rattle.cards.specs.Layout.{card_words}
use Rattle.cards.specs.Composed.{most_list, list_card}

-- the card is written, or the first refusal that applies
abbrev pub Listed : Type 0
Listed = Result (Unit {0}) Refusal

-- "of the earlier ones only 8" ("8 asks 49 × C", request 8); "14 for a list of more than 256, after 8; then 15 for a member not below C"
abbrev pub listed : ℕ → List ℕ → List ℕ → Listed
listed sequences cards ms =
    cond (ltb (length cards) (card_words * sequences)) (Err CardArea)
    (cond (ltb most_list (length ms)) (Err ListLength) (cond (some (λ (m : ℕ). leb sequences m) ms) (Err Member) (Ok tt)))

-- 0 where the card is the answer, "N × 2^32 + P for refusal N at position P" otherwise
abbrev pub listed_answer : Listed → ℕ
listed_answer = answer_number (λ u. 0)

-- "one card for it as the call's answer"; a refusal changes nothing
abbrev pub card_after : Listed → ℕ → List ℕ → List ℕ → List ℕ → List ℕ
card_after (Ok u) facts cards ms before = list_card facts cards ms
card_after (Err r) facts cards ms before = before

-- what the list call does: its answer, and the words of the card after it
pub record ListCalled (facts sequences : ℕ) (cards ms before : List ℕ) (found : Listed) (after : List ℕ) : Type 0 where
  pub answer : found ≡ listed sequences cards ms
  pub card : after ≡ card_after (listed sequences cards ms) facts cards ms before
