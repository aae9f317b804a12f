-- What the card call gives back, case by case (document 01, "Turned down, in checking order", "The card"). One case always applies, and it
-- fixes the number and every word of the area (`cards_return` and `cards_only`, proofs/CardCall).
use Rattle.std.specs.Prelude.{ℕ, ◌*◌, ◌≤◌, ◌<◌, ◌≡◌, List, ◌++◌, length, drop, Ok, Err}
use Rattle.rules.specs.Checked.{checked}
use Rattle.library.specs.Library.{library_of}
use Rattle.image.specs.declared.answer.Head.{Head}
use Rattle.image.specs.declared.answer.Refusal.{Refusal}
use Rattle.image.specs.declared.answer.Refusal.TheVariants.{CardArea}
use Rattle.cards.specs.Layout.{card_words}
use Rattle.cards.specs.Area.{AllCards}
use Rattle.dulimoven.specs.Returned.{Returned, returned, turned_down}

-- the first refusal that applies: "The check meets 1 to 7, the cards 1 to 8"
pub data CardsRefused (image : List ℕ) (room : ℕ) : Refusal → Type 0 where
  by_image : {why : Refusal} → checked image ≡ Err why → CardsRefused image room why
  -- 8: "The card area has fewer than 7 × C words of 64 bits."; "8 asks 49 × C" (document 02, request 8)
  by_area : (h : Head) → checked image ≡ Ok h → room < card_words * h.sequences → CardsRefused image room CardArea

-- what the card call gives back
pub data CardsReturn (image area : List ℕ) (r : Returned) : Type 0 where
  refused : (why : Refusal) → CardsRefused image (length area) why → r ≡ turned_down why area → CardsReturn image area r
  -- "Otherwise .. the cards [answer] C": `words` are the cards of all sequences; "words past 7 × C stay", 49 × C by request 8
  filled : (h : Head) → checked image ≡ Ok h → card_words * h.sequences ≤ length area → (words : List ℕ)
      → AllCards (library_of image) words → r ≡ returned h.sequences (words ++ drop (card_words * h.sequences) area) → CardsReturn image area r
