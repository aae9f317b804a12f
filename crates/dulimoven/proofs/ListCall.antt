-- What the engine's list call gives back is one of the cases of specs/ListCall, and the cases give no other number and no other card. What a
-- caller can tell by the number follows from the cases.
-- Assumes nothing.
use Prim.Native.Nat.{ℕ, ◌*◌, ◌≤◌, ◌<◌}
use native.Mathlib.Omega.{arith}
use mathlib.Core.Path.{◌≡◌, refl, sym, ap, ap₂, ◌∙◌}
use mathlib.Core.Logic.{◌↔◌}
use mathlib.Core.Bool.{Bool, true, false, cond, ◌||◌}
use mathlib.Core.List.{List, [], ◌∷◌}
use lib.ListN.{length}
use lib.Dec.{leb, ltb}
use borrow.Author.Tests.{lt-ltb, le-ltb, ltb-true, ltb-false, le-leb, lt-leb, leb-true, leb-false}
use Rattle.std.proofs.Common.{Ok, Err}
use Rattle.general.specs.Tests.{some, All}
use Rattle.general.proofs.Bools.{nor_left, nor_right}
use Rattle.general.proofs.Tests.{some_found, some_intro}
use Rattle.image.specs.declared.answer.Refusal.{Refusal}
use Rattle.image.specs.declared.answer.Refusal.TheVariants.{CardArea, ListLength, Member}
use Rattle.cards.specs.Layout.{card_words}
use Rattle.cards.specs.Composed.{most_list}
use Rattle.list.specs.Answer.{Listed, listed_answer, card_after}
use Rattle.dulimoven.specs.Returned.{Returned, returned, turned_down}
use Rattle.dulimoven.specs.ListCall.{ListRefused, by_area, by_length, by_member, ListReturn, refused, composed}
use Rattle.dulimoven.specs.Demands.{Refuses}
use Rattle.dulimoven.specs.Engine.{engine}
use Rattle.dulimoven.proofs.Refusals.{refusal_high}

-- no member is past n exactly where each is below n
none_past : (n : ℕ) (ms : List ℕ) → some (λ (m : ℕ). leb n m) ms ≡ false → All (λ (m : ℕ). m < n) ms
unfolding some
none_past n [] e = tt
none_past n (m ∷ ms) e =
    let later = some (λ (d : ℕ). leb n d) ms in
    (leb-false n m (nor_left (leb n m) later e), none_past n ms (nor_right (leb n m) later e))

past_none : (n : ℕ) (ms : List ℕ) → All (λ (m : ℕ). m < n) ms → some (λ (m : ℕ). leb n m) ms ≡ false
unfolding some
past_none n [] below = refl
past_none n (m ∷ ms) below = ap₂ ◌||◌ (lt-leb n m below.0) (past_none n ms below.1)

module _ (facts sequences : ℕ) (cards list card : List ℕ) where
  -- whether the area is short, the list long, a member past C
  abbrev short : Bool
  short = ltb (length cards) (card_words * sequences)

  abbrev long : Bool
  long = ltb most_list (length list)

  abbrev past : Bool
  past = some (λ (m : ℕ). leb sequences m) list

  -- what the list call gives back by these
  abbrev list_by : Bool → Bool → Bool → Returned
  list_by a b c =
      let found : Listed =
      cond a (Err CardArea) (cond b (Err ListLength) (cond c (Err Member) (Ok tt))) in
      returned (listed_answer found) (card_after found facts cards list card)

  pub list_return : ListReturn facts sequences cards list card (engine.list facts sequences cards list card)
  list_return = go short refl long refl past refl
    where
      go : (a : Bool) → short ≡ a → (b : Bool) → long ≡ b → (c : Bool) → past ≡ c → ListReturn facts sequences cards list card (list_by a b c)
      go true s b l c p = refused CardArea (by_area (ltb-true (length cards) (card_words * sequences) s)) refl
      go false s true l c p =
          refused ListLength (by_length (ltb-false (length cards) (card_words * sequences) s) (ltb-true most_list (length list) l)) refl
      go false s false l true p =
          let (m, among, high) = some_found (λ (d : ℕ). leb sequences d) list p in
          refused Member
          (by_member (ltb-false (length cards) (card_words * sequences) s) (ltb-false most_list (length list) l) m among (leb-true sequences m high)) refl
      go false s false l false p =
          composed (ltb-false (length cards) (card_words * sequences) s) (ltb-false most_list (length list) l) (none_past sequences list p) refl

  -- what is given back where the area is not short, and where the list is not long
  room_by : card_words * sequences ≤ length cards → list_by false long past ≡ engine.list facts sequences cards list card
  room_by room = ap (λ (a : Bool). list_by a long past) (sym (le-ltb (length cards) (card_words * sequences) room))

  few_by : card_words * sequences ≤ length cards → length list ≤ most_list → list_by false false past ≡ engine.list facts sequences cards list card
  few_by room few = ap (λ (b : Bool). list_by false b past) (sym (le-ltb most_list (length list) few)) ∙ room_by room

  pub list_only : (r : Returned) → ListReturn facts sequences cards list card r → r ≡ engine.list facts sequences cards list card
  list_only r (refused why k is) = is ∙ go why k
    where
      go : (why : Refusal) → ListRefused sequences (length cards) list why → turned_down why card ≡ engine.list facts sequences cards list card
      go why (by_area less) = ap (λ (a : Bool). list_by a long past) (sym (lt-ltb (length cards) (card_words * sequences) less))
      go why (by_length room more) = ap (λ (b : Bool). list_by false b past) (sym (lt-ltb most_list (length list) more)) ∙ room_by room
      go why (by_member room few m among high) =
          ap (list_by false false) (sym (some_intro (λ (d : ℕ). leb sequences d) among (le-leb sequences m high))) ∙ few_by room few
  list_only r (composed room few below is) = is ∙ ap (list_by false false) (sym (past_none sequences list below)) ∙ few_by room few

  pub list_told : (r : Returned) → ListReturn facts sequences cards list card r
      → Refuses r.number ↔ ((why : Refusal) × ListRefused sequences (length cards) list why)
  list_told r k = (there k, λ (why, is). back why is)
    where
      there : ListReturn facts sequences cards list card r → Refuses r.number → (why : Refusal) × ListRefused sequences (length cards) list why
      there (refused why is same) high = (why, is)
      there (composed room few below same) high = absurd (omega (arith, ap (λ (x : Returned). x.number) same))

      back : (why : Refusal) → ListRefused sequences (length cards) list why → Refuses r.number
      back why is =
          let same : r ≡ turned_down why card = list_only r k ∙ sym (list_only (turned_down why card) (refused why is refl)) in
          omega (arith, ap (λ (x : Returned). x.number) same, refusal_high why)

  pub list_kept : (r : Returned) → ListReturn facts sequences cards list card r → Refuses r.number → r.area ≡ card
  list_kept r (refused why is same) high = ap (λ (x : Returned). x.area) same
  list_kept r (composed room few below same) high = absurd (omega (arith, ap (λ (x : Returned). x.number) same))
