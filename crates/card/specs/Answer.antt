-- The card call's answer for every image and every card area, the area after it, and the number that the C side gets (document 01,
-- "Turned down, in checking order", "The card" and "Chains").
use Rattle.std.specs.Prelude.{ℕ, ◌*◌, ◌≡◌, cond, List, ◌++◌, length, drop, ltb, Result, Ok, Err}
use Rattle.image.specs.declared.answer.Refusal.{Refusal}
use Rattle.rules.specs.Checked.{checked}
use Rattle.library.specs.Library.{library_of}
use Rattle.image.specs.declared.answer.Refusal.TheVariants.{CardArea}
use Rattle.cards.specs.Layout.{card_words}
use Rattle.cards.specs.Card.{cards}
use Rattle.image.specs.Answer.{Checked, answer_number}

-- 8: "The card area has fewer than 7 × C words of 64 bits."; "8 asks 49 × C" (document 02, request 8). It comes after 1 to 7;
-- "Otherwise .. the cards [answer] C"
abbrev pub cards_given : Checked → ℕ → Result ℕ Refusal
cards_given (Err r) room = Err r
cards_given (Ok h) room =
    cond (ltb room (card_words * h.sequences)) (Err CardArea) (Ok h.sequences)

-- what the card call answers
abbrev pub cards_of : List ℕ → List ℕ → Result ℕ Refusal
cards_of image area = cards_given (checked image) (length area)

-- "Nothing lent is changed." "Each sequence's words are written into its own part of the card area; words past 7 × C stay.": 49 × C by
-- request 8
abbrev pub area_with : Result ℕ Refusal → List ℕ → List ℕ → List ℕ
area_with (Err r) image area = area
area_with (Ok n) image area = cards (library_of image) ++ drop (card_words * n) area

-- the card area after the call
abbrev pub card_area : List ℕ → List ℕ → List ℕ
card_area image area = area_with (cards_of image area) image area

-- "It gets one 64-bit number: N × 2^32 + P for refusal N at position P, otherwise .. C from the cards"
abbrev pub cards_answer : Result ℕ Refusal → ℕ
cards_answer = answer_number (λ n. n)

-- what the card call does: its answer, and the area after it
pub record CardsCalled (image before : List ℕ) (found : Result ℕ Refusal) (after : List ℕ) : Type 0 where
  pub answer : found ≡ cards_of image before
  pub area : after ≡ card_area image before
