-- What the engine's card call gives back is one of the cases of specs/CardCall, and the cases give no other number and no other area. What a
-- caller can tell by the number follows from the cases.
-- Assumes nothing.
use Prim.Native.Nat.{ℕ, ◌*◌, ◌≤◌}
use native.Mathlib.Omega.{arith}
use mathlib.Core.Path.{◌≡◌, refl, sym, ap, ◌∙◌}
use mathlib.Core.Logic.{◌↔◌}
use mathlib.Core.Bool.{Bool, true, false, cond}
use mathlib.Core.List.{List, ◌++◌}
use lib.ListN.{length, drop}
use lib.Dec.{ltb}
use borrow.Author.Tests.{lt-ltb, le-ltb, ltb-true, ltb-false}
use Rattle.std.specs.Prelude.{Result, Ok, Err}
use Rattle.rules.specs.Checked.{checked}
use Rattle.library.specs.Library.{library_of}
use Rattle.image.specs.declared.answer.Head.{Head}
use Rattle.image.specs.declared.answer.Refusal.{Refusal}
use Rattle.image.specs.declared.answer.Refusal.TheVariants.{CardArea}
use Rattle.library.proofs.Accepted.{faultless, counted}
use Rattle.card.specs.Answer.{cards_given, area_with, cards_answer}
use Rattle.cards.specs.Layout.{column_width, card_words}
use Rattle.cards.specs.Card.{cards}
use Rattle.cards.proofs.Area.{all_cards, cards_unique}
use Rattle.dulimoven.specs.Returned.{Returned, returned, turned_down}
use Rattle.dulimoven.specs.CardCall.{CardsRefused, by_image, by_area, CardsReturn, refused, filled}
use Rattle.dulimoven.specs.Demands.{Refuses}
use Rattle.dulimoven.specs.Engine.{engine}
use Rattle.dulimoven.proofs.Refusals.{refusal_high}
use Rattle.std.specs.Prelude.{Ok, Err}
use Rattle.image.specs.Answer.{Checked}

-- an accepted library has no more facts than a column has room for
pub few_facts : (image : List ℕ) (h : Head) → checked image ≡ Ok h → (library_of image).facts ≤ column_width
few_facts image h e = omega (arith, (counted image h e).facts, (faultless image h e).facts_high)

module _ (image area : List ℕ) where
  -- what the card call gives back after a check
  abbrev cards_by : Checked → Returned
  cards_by k = returned (cards_answer (cards_given k (length area))) (area_with (cards_given k (length area)) image area)

  abbrev cards_if : Head → Bool → Returned
  cards_if h short =
      let given : Result ℕ Refusal = cond short (Err CardArea) (Ok h.sequences) in
      returned (cards_answer given) (area_with given image area)

  pub cards_return : CardsReturn image area (engine.cards image area)
  cards_return = go (checked image) refl
    where
      room : (h : Head) → checked image ≡ Ok h → (b : Bool) → ltb (length area) (card_words * h.sequences) ≡ b → CardsReturn image area (cards_if h b)
      room h e true t = refused CardArea (by_area h e (ltb-true (length area) (card_words * h.sequences) t)) refl
      room h e false t =
          filled h e (ltb-false (length area) (card_words * h.sequences) t) (cards (library_of image))
          (all_cards (library_of image) (few_facts image h e)) refl

      go : (k : Checked) → checked image ≡ k → CardsReturn image area (cards_by k)
      go (Err why) e = refused why (by_image e) refl
      go (Ok h) e = room h e (ltb (length area) (card_words * h.sequences)) refl

  pub cards_only : (r : Returned) → CardsReturn image area r → r ≡ engine.cards image area
  cards_only r (refused why k is) = is ∙ go why k
    where
      go : (why : Refusal) → CardsRefused image (length area) why → turned_down why area ≡ engine.cards image area
      go why (by_image e) = ap cards_by (sym e)
      go why (by_area h e short) =
          ap (cards_if h) (sym (lt-ltb (length area) (card_words * h.sequences) short)) ∙ ap cards_by (sym e)
  cards_only r (filled h e room words all is) =
      is
      ∙ ap (λ (ws : List ℕ). returned h.sequences (ws ++ drop (card_words * h.sequences) area))
      (cards_unique (library_of image) words (cards (library_of image)) all (all_cards (library_of image) (few_facts image h e)))
      ∙ ap (cards_if h) (sym (le-ltb (length area) (card_words * h.sequences) room))
      ∙ ap cards_by (sym e)

  -- what is no refusal has a number of at most 256
  pub cards_told : (r : Returned) → CardsReturn image area r → Refuses r.number ↔ ((why : Refusal) × CardsRefused image (length area) why)
  cards_told r k = (there k, λ (why, is). back why is)
    where
      there : CardsReturn image area r → Refuses r.number → (why : Refusal) × CardsRefused image (length area) why
      there (refused why is same) high = (why, is)
      there (filled h e room words all same) high =
          absurd (omega (arith, ap (λ (x : Returned). x.number) same, (faultless image h e).sequences_high))

      back : (why : Refusal) → CardsRefused image (length area) why → Refuses r.number
      back why is =
          let same : r ≡ turned_down why area = cards_only r k ∙ sym (cards_only (turned_down why area) (refused why is refl)) in
          omega (arith, ap (λ (x : Returned). x.number) same, refusal_high why)

  pub cards_kept : (r : Returned) → CardsReturn image area r → Refuses r.number → r.area ≡ area
  cards_kept r (refused why is same) high = ap (λ (x : Returned). x.area) same
  cards_kept r (filled h e room words all same) high =
      absurd (omega (arith, ap (λ (x : Returned). x.number) same, (faultless image h e).sequences_high))
