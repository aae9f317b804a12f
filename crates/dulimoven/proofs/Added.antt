-- The engine's list call over the cards that its card call wrote gives the card of an added sequence (`lists_met`), and what follows for every
-- engine of which that and demand 2 hold: `list_numbers_lem`, `list_fixed`, `list_runs`, `list_image`, `list_single` and `list_empty`.
-- Assumes nothing.
use Prim.Native.Nat.{ℕ, ◌*◌, ◌≤◌, ◌<◌}
use native.Mathlib.Omega.{arith}
use mathlib.Core.Path.{◌≡◌, refl, sym, ap, subst, ◌∙◌}
use mathlib.Core.List.{List, [], ◌∷◌, ◌++◌, map}
use lib.ListN.{length, get_or, drop, length-append}
use Rattle.library.specs.Library.{Library, library_of, call}
use Rattle.library.proofs.Accepted.{counted}
use Rattle.runs.specs.Added.{with_list, added_to, Whole}
use Rattle.runs.proofs.Added.{whole_counted}
use Rattle.cards.specs.Layout.{card_numbers, column_width, card_words, laid}
use Rattle.cards.specs.Area.{part_number}
use Rattle.cards.specs.Card.{card, cards, card_number}
use Rattle.cards.specs.Meaning.{Runs}
use Rattle.cards.specs.Composed.{list_card, empty_list_numbers}
use Rattle.cards.proofs.Meaning.{card_right, runs_right, card_same, runs_same}
use Rattle.cards.proofs.Unique.{card_unique}
use Rattle.cards.proofs.Laid.{AllNarrow}
use Rattle.cards.proofs.Area.{length_part, card_narrow, card_alone, words_by_numbers}
use Rattle.cards.proofs.Added.{list_added, card_one, card_none}
use Rattle.dulimoven.specs.Returned.{Returned, returned}
use Rattle.dulimoven.specs.ListCall.{composed}
use Rattle.dulimoven.specs.Demands.{Engine, count, Ready, Demand2}
use Rattle.dulimoven.specs.Added.{Listed, list_over, Lists}
use Rattle.dulimoven.specs.Engine.{engine}
use Rattle.dulimoven.proofs.CardCall.{few_facts}
use Rattle.dulimoven.proofs.ListCall.{list_only}
use Rattle.dulimoven.proofs.Demands.{filled_area, length_stays}

-- ---- an accepted image's library

module _ (image area : List ℕ) (ready : Ready image area) where
  few : (library_of image).facts ≤ column_width
  few = few_facts image ready.head ready.accepted

  whole : Whole (library_of image)
  whole = whole_counted (library_of image) ready.head (counted image ready.head ready.accepted)

-- ---- the engine

module _ (image area list before : List ℕ) (asked : Listed image area list) where
  abbrev L : Library
  L = library_of image

  -- the area that the card call filled is the library's cards, and what stands after them
  abbrev rest : List ℕ
  rest = drop (card_words * count L) area

  list_composed : list_over engine image area list before ≡ returned 0 (list_card L.facts (cards L ++ rest) list)
  list_composed =
      let room = asked.ready.room in
      sym
      (list_only L.facts (count L) (engine.cards image area).area list before _
      (composed (omega (arith, length_stays image area asked.ready)) asked.short asked.below refl))
      ∙ ap (λ (words : List ℕ). returned 0 (list_card L.facts words list)) (filled_area image area asked.ready)

  list_card_lem : list_over engine image area list before ≡ returned 0 (laid (card (with_list L list) (added_to L)))
  list_card_lem =
      list_composed
      ∙ ap (returned 0) (list_added L list rest (whole image area asked.ready) asked.below (few image area asked.ready))

pub lists_met : Lists engine
lists_met =
    record {
      number = λ image area list before asked. ap (λ (r : Returned). r.number) (list_card_lem image area list before asked);
      long = λ image area list before asked.
          ap (λ (r : Returned). length r.area) (list_card_lem image area list before asked)
          ∙ length_part (with_list (library_of image) list) (added_to (library_of image));
      narrow = λ image area list before asked.
          subst (λ (r : Returned). AllNarrow r.area) (sym (list_card_lem image area list before asked))
          (card_narrow (with_list (library_of image) list) (few image area asked.ready) (added_to (library_of image)));
      card = λ image area list before asked.
          card_same (with_list (library_of image) list) (added_to (library_of image)) _
          (λ k u. ap (λ (r : Returned). part_number r.area 0 k) (list_card_lem image area list before asked)
          ∙ card_alone (with_list (library_of image) list) (few image area asked.ready) (added_to (library_of image)) k u)
          (card_right (with_list (library_of image) list) (few image area asked.ready) (added_to (library_of image)));
    }

-- ---- every engine that meets it and demand 2

module _ (e : Engine) (demand : Demand2 e) (lists : Lists e) where
  -- a number of a card that the card call wrote
  card_number_lem : (image area : List ℕ) (ready : Ready image area) (c k : ℕ) → c < count (library_of image) → k < card_numbers
      → part_number (e.cards image area).area c k ≡ card_number (library_of image) c k
  card_number_lem image area ready c k l u =
      card_unique (library_of image) c (part_number (e.cards image area).area c) (card_number (library_of image) c) (demand.card image area ready c l)
      (card_right (library_of image) (few image area ready) c) k u

  module _ (image area list before : List ℕ) (asked : Listed image area list) where
    -- the numbers of the list's card are fixed
    pub list_numbers_lem : (k : ℕ) → k < card_numbers
        → part_number (list_over e image area list before).area 0 k ≡ card_number (with_list (library_of image) list) (added_to (library_of image)) k
    list_numbers_lem k u =
        card_unique (with_list (library_of image) list) (added_to (library_of image)) (part_number (list_over e image area list before).area 0)
        (card_number (with_list (library_of image) list) (added_to (library_of image))) (lists.card image area list before asked)
        (card_right (with_list (library_of image) list) (few image area asked.ready) (added_to (library_of image))) k u

    -- and so are its words
    pub list_fixed : (list_over e image area list before).area ≡ laid (card (with_list (library_of image) list) (added_to (library_of image)))
    list_fixed =
        let K = with_list (library_of image) list in
        let C = added_to (library_of image) in
        let low = few image area asked.ready in
        words_by_numbers 1 (list_over e image area list before).area (laid (card K C)) (lists.long image area list before asked) (length_part K C)
        (lists.narrow image area list before asked) (card_narrow K low C)
        (λ c k l u. let first : c ≡ 0 = omega arith in
        ap (λ (d : ℕ). part_number (list_over e image area list before).area d k) first ∙ list_numbers_lem k u ∙ sym (card_alone K low C k u)
        ∙ ap (λ (d : ℕ). part_number (laid (card K C)) d k) (sym first))

    -- they say of the runs of the list what demand 3 has a card say
    pub list_runs : Runs (with_list (library_of image) list) (added_to (library_of image)) (part_number (list_over e image area list before).area 0)
    list_runs =
        runs_same (with_list (library_of image) list) (added_to (library_of image)) _ list_numbers_lem
        (runs_right (with_list (library_of image) list) (added_to (library_of image)))

    -- and are the added sequence's card in every image whose library has it
    pub list_image : (image' area' : List ℕ) → Ready image' area' → library_of image' ≡ with_list (library_of image) list → (k : ℕ) → k < card_numbers
        → part_number (list_over e image area list before).area 0 k ≡ part_number (e.cards image' area').area (added_to (library_of image)) k
    list_image image' area' ready same k u =
        let C = added_to (library_of image) in
        let last : C < count (library_of image') =
        omega (arith, ap (λ (K : Library). length K.sequences) same, length-append (library_of image).sequences ((map call list ∷ []) ∷ [])) in
        list_numbers_lem k u ∙ ap (λ (K : Library). card_number K C k) (sym same) ∙ sym (card_number_lem image' area' ready C k last u)

  -- the list of one member has that member's card
  pub list_single : (image area before : List ℕ) (m : ℕ) (asked : Listed image area (m ∷ [])) (k : ℕ) → k < card_numbers
      → part_number (list_over e image area (m ∷ []) before).area 0 k ≡ part_number (e.cards image area).area m k
  list_single image area before m asked k u =
      let low = asked.below.0 in
      list_numbers_lem image area (m ∷ []) before asked k u
      ∙ ap (λ (numbers : List ℕ). get_or numbers k 0) (card_one (library_of image) m (whole image area asked.ready) low)
      ∙ sym (card_number_lem image area asked.ready m k low u)

  -- "The empty list has just the empty run."
  pub list_empty : (image area before : List ℕ) → Ready image area → (list_over e image area [] before).area ≡ laid (empty_list_numbers (library_of image).facts)
  list_empty image area before ready =
      let asked : Listed image area [] = record { ready = ready; short = omega arith; below = tt } in
      list_fixed image area [] before asked ∙ ap laid (card_none (library_of image) (whole image area ready) (few image area ready))
