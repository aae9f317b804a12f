-- What the list call gives back, case by case (document 02, request 5). One case always applies, and it fixes the number and every word of the
-- card (`list_return` and `list_only`, proofs/ListCall).
use Rattle.std.specs.Prelude.{ℕ, ◌*◌, ◌≤◌, ◌<◌, ◌≡◌, length}
use mathlib.Core.List.{List, Memᴰ}
use Rattle.general.specs.Tests.{All}
use Rattle.image.specs.declared.answer.Refusal.{Refusal}
use Rattle.image.specs.declared.answer.Refusal.TheVariants.{CardArea, ListLength, Member}
use Rattle.cards.specs.Layout.{card_words}
use Rattle.cards.specs.Composed.{most_list, list_card}
use Rattle.dulimoven.specs.Returned.{Returned, returned, turned_down}

-- the first refusal that applies: "of the earlier ones only 8; 14 for a list of more than 256, after 8; then 15 for a member not below C"
pub data ListRefused (sequences room : ℕ) (list : List ℕ) : Refusal → Type 0 where
  -- "8 asks 49 × C" (document 02, request 8)
  by_area : room < card_words * sequences → ListRefused sequences room list CardArea
  by_length : card_words * sequences ≤ room → most_list < length list → ListRefused sequences room list ListLength
  by_member : card_words * sequences ≤ room → length list ≤ most_list → (m : ℕ) → Memᴰ m list → sequences ≤ m
      → ListRefused sequences room list Member

-- what the list call gives back, where F and C are `facts` and `sequences`, and `before` are the words of the card before it
pub data ListReturn (facts sequences : ℕ) (cards list before : List ℕ) (r : Returned) : Type 0 where
  refused : (why : Refusal) → ListRefused sequences (length cards) list why → r ≡ turned_down why before
      → ListReturn facts sequences cards list before r
  -- "one card for it as the call's answer, worked out from F and the cards alone"
  composed : card_words * sequences ≤ length cards → length list ≤ most_list → All (λ (m : ℕ). m < sequences) list
      → r ≡ returned 0 (list_card facts cards list) → ListReturn facts sequences cards list before r
