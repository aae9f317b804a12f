-- The engine that the contracts describe meets the three demands, and what demand 1 says of a call no other number and no other area does.
-- It has: demand 1 and `only_engine`; demand 2 (`columns`); demand 3 (`runs`); and all three (`demands_met`).
-- Assumes nothing.
use Prim.Native.Nat.{ℕ, ◌+◌, ◌*◌, ◌-◌, ◌^◌, ◌≤◌, ◌<◌}
use native.Mathlib.Omega.{arith}
use mathlib.Core.Path.{◌≡◌, refl, sym, ap, ap₂, subst, ◌∙◌}
use mathlib.Core.Logic.{◌↔◌, inl, inr, ⊎_elim}
use mathlib.Core.List.{List, ◌++◌}
use lib.ListN.{length, get_or, drop, length-append, length-drop, get_or-append}
use lib.Seq.{get_or-append-add, get_or-drop}
use Rattle.image.specs.Answer.{checked_answer}
use Rattle.rules.specs.Checked.{checked}
use Rattle.library.specs.Library.{Library, library_of, Item}
use Rattle.image.specs.declared.answer.Head.{Head}
use Rattle.image.specs.declared.answer.Refusal.{Refusal}
use Rattle.library.proofs.Accepted.{faultless, counted}
use Rattle.library.proofs.Rows.{all_at}
use Rattle.runs.specs.Run.{Run}
use Rattle.runs.specs.Execution.{Fact}
use Rattle.runs.specs.Touch.{Mark, present, absent, question_of, HasOutcome, last_set, last_cleared, last_untouched, first_set, first_untouched}
use Rattle.runs.proofs.Outcome.{present≢untouched, absent≢untouched}
use Rattle.runs.proofs.Columns.{breaks_rule}
use Rattle.cards.specs.Area.{part_number}
use Rattle.cards.specs.Layout.{card_numbers, column_width, card_words}
use Rattle.cards.specs.Card.{cards, card_number}
use Rattle.cards.specs.Meaning.{Always, needed, set, cleared, Breaks, Card, Runs}
use Rattle.cards.proofs.Area.{length_cards, card_numbers_lem, all_cards}
use Rattle.cards.proofs.Meaning.{card_right, runs_right, card_same, runs_same}
use Rattle.chains.specs.Link.{Chain}
use Rattle.chains.specs.Call.{Reply}
use Rattle.chains.proofs.Call.{call_shows}
use Rattle.chains.proofs.Fits.{accepted_fits}
use Rattle.dulimoven.specs.Returned.{Returned}
use Rattle.dulimoven.specs.CardCall.{filled}
use Rattle.dulimoven.specs.ChainCall.{Links}
use Rattle.dulimoven.specs.Demands.{Engine, Refuses, Demand1, count, Ready, Demand2, Asks, Proves, Demand3, Demands}
use Rattle.dulimoven.specs.Engine.{engine, replied}
use Rattle.dulimoven.proofs.Refusals.{refusal_high}
use Rattle.dulimoven.proofs.CardCall.{few_facts, cards_return, cards_only, cards_told, cards_kept}
use Rattle.dulimoven.proofs.ChainCall.{chain_return, chain_only, chain_told, chain_kept, none_kept}
use Rattle.dulimoven.proofs.ListCall.{list_return, list_only, list_told, list_kept}
use Rattle.dulimoven.proofs.EndlessCall.{endless_return, endless_only, endless_told, endless_kept}
use Rattle.std.specs.Prelude.{Ok, Err}
use Rattle.image.specs.Answer.{Checked}

-- ---- demand 1

check_told : (image : List ℕ) → Refuses (checked_answer (checked image)) ↔ ((r : Refusal) × (checked image ≡ Err r))
check_told image = go (checked image) refl
  where
    go : (k : Checked) → checked image ≡ k → Refuses (checked_answer k) ↔ ((r : Refusal) × (k ≡ Err r))
    go (Err r) e = ((λ high. (r, refl)), λ told. refusal_high r)
    go (Ok h) e =
        let good = faultless image h e in (
          (λ high. absurd (omega (arith, good.facts_high, good.steps_high, good.sequences_high))),
          λ (r, told). let no : ◌≡◌ {A = ℕ} 0 1 = cc in absurd (omega arith),
        )

pub total : Demand1 engine
total =
    record {
      check = λ image. refl;
      head = λ image h e. ap checked_answer e ∙ (faultless image h e).payload;
      cards = cards_return;
      chain = chain_return;
      list = list_return;
      endless = endless_return;
      cards_kept = λ image area. cards_kept image area (engine.cards image area) (cards_return image area);
      chain_kept = λ image c q f area. chain_kept image c q f area (engine.chain image c q f area) (chain_return image c q f area);
      list_kept = λ facts sequences cards list card.
          list_kept facts sequences cards list card (engine.list facts sequences cards list card) (list_return facts sequences cards list card);
      endless_kept = λ image c area. endless_kept image c area (engine.endless image c area) (endless_return image c area);
      none_kept = λ image c q f area. none_kept image c q f area (engine.chain image c q f area) (chain_return image c q f area);
      check_told = check_told;
      cards_told = λ image area. cards_told image area (engine.cards image area) (cards_return image area);
      chain_told = λ image c q f area. chain_told image c q f area (engine.chain image c q f area) (chain_return image c q f area);
      list_told = λ facts sequences cards list card.
          list_told facts sequences cards list card (engine.list facts sequences cards list card) (list_return facts sequences cards list card);
      endless_told = λ image c area. endless_told image c area (engine.endless image c area) (endless_return image c area);
    }

-- demand 1 fixes every number and every word: an engine that meets it gives back what this one does
pub record Same (e : Engine) : Type 0 where
  pub check : (image : List ℕ) → e.check image ≡ engine.check image
  pub cards : (image area : List ℕ) → e.cards image area ≡ engine.cards image area
  pub chain : (image : List ℕ) (c q f : ℕ) (area : List ℕ) → e.chain image c q f area ≡ engine.chain image c q f area
  pub list : (facts sequences : ℕ) (cards list card : List ℕ)
      → e.list facts sequences cards list card ≡ engine.list facts sequences cards list card
  pub endless : (image : List ℕ) (c : ℕ) (area : List ℕ) → e.endless image c area ≡ engine.endless image c area

pub only_engine : (e : Engine) → Demand1 e → Same e
only_engine e d =
    record {
      check = d.check;
      cards = λ image area. cards_only image area (e.cards image area) (d.cards image area);
      chain = λ image c q f area. chain_only image c q f area (e.chain image c q f area) (d.chain image c q f area);
      list = λ facts sequences cards list card.
          list_only facts sequences cards list card (e.list facts sequences cards list card) (d.list facts sequences cards list card);
      endless = λ image c area. endless_only image c area (e.endless image c area) (d.endless image c area);
    }

-- ---- demand 2

module _ (image area : List ℕ) (ready : Ready image area) where
  -- an accepted image with room in the area has its cards written
  pub filled_area : (engine.cards image area).area ≡ cards (library_of image) ++ drop (card_words * count (library_of image)) area
  filled_area =
      let h = ready.head in
      let room = ready.room in
      let size = (counted image h ready.accepted).sequences in
      ap (λ (r : Returned). r.area)
      (sym (cards_only image area _
      (filled h ready.accepted (omega arith) (cards (library_of image)) (all_cards (library_of image) (few_facts image h ready.accepted)) refl)))
      ∙ ap (λ (n : ℕ). cards (library_of image) ++ drop (card_words * n) area) (sym size)

  few : (library_of image).facts ≤ column_width
  few = few_facts image ready.head ready.accepted

  -- a sequence's own part of the area has its card's numbers
  part_is : (c : ℕ) → c < count (library_of image) → (k : ℕ) → k < card_numbers → part_number (engine.cards image area).area c k ≡ card_number (library_of image) c k
  part_is c l k u =
      ap (λ (a : List ℕ). part_number a c k) filled_area ∙ card_numbers_lem (library_of image) (drop (card_words * count (library_of image)) area) c l few k u

  narrow_there : (i : ℕ) → i < card_words * count (library_of image) → get_or (engine.cards image area).area i 0 < 2 ^ 64
  narrow_there i l =
      let all = all_cards (library_of image) few in
      let long = all.long in
      let word : get_or (engine.cards image area).area i 0 ≡ get_or (cards (library_of image)) i 0 =
      ap (λ (a : List ℕ). get_or a i 0) filled_area
      ∙ get_or-append (cards (library_of image)) (drop (card_words * count (library_of image)) area) 0 i (omega arith) in
      subst (λ (n : ℕ). n < 2 ^ 64) (sym word) (all_at (λ (w : ℕ). w < 2 ^ 64) (cards (library_of image)) all.narrow 0 i (omega arith))

  past_stays : (i : ℕ) → card_words * count (library_of image) ≤ i → get_or (engine.cards image area).area i 0 ≡ get_or area i 0
  past_stays i l =
      let n = card_words * count (library_of image) in
      let beyond : i ≡ length (cards (library_of image)) + (i - n) = omega (arith, length_cards (library_of image)) in
      let back : n + (i - n) ≡ i = omega arith in
      ap₂ (λ (a : List ℕ) (j : ℕ). get_or a j 0) filled_area beyond
      ∙ get_or-append-add (cards (library_of image)) (drop n area) (i - n) 0
      ∙ get_or-drop n area (i - n) 0
      ∙ ap (λ (j : ℕ). get_or area j 0) back

  pub length_stays : length (engine.cards image area).area ≡ length area
  length_stays =
      let n = card_words * count (library_of image) in
      let room = ready.room in
      ap length filled_area
      ∙ omega (arith, length-append (cards (library_of image)) (drop n area), length-drop n area, length_cards (library_of image))

  card_there : (c : ℕ) → c < count (library_of image) → Card (library_of image) c (part_number (engine.cards image area).area c)
  card_there c l =
      card_same (library_of image) c _ (part_is c l)
      (card_right (library_of image) few c)

  runs_there : (c : ℕ) → c < count (library_of image) → Runs (library_of image) c (part_number (engine.cards image area).area c)
  runs_there c l =
      runs_same (library_of image) c _ (part_is c l) (runs_right (library_of image) c)

pub columns : Demand2 engine
columns = record { card = card_there; narrow = narrow_there; past = past_stays; long = length_stays }

-- ---- demand 3

-- "4 and 5", "1 and 2", "0 and 2": the other touch of the rule's side, and no touch
broken_outcome : (L : Library) (a : Always) (f : ℕ) (w : List Item) → Breaks L a f w → (q : ℕ) × Asks a q × HasOutcome L (question_of q) f w
broken_outcome L needed f w breaks =
    ⊎_elim (λ o. (4, inl refl, o)) (λ o. (5, inr refl, o)) (breaks_rule L _ f w present≢untouched breaks)
broken_outcome L set f w breaks =
    ⊎_elim (λ o. (1, inl refl, o)) (λ o. (2, inr refl, o)) (breaks_rule L _ f w present≢untouched breaks)
broken_outcome L cleared f w breaks =
    ⊎_elim (λ o. (0, inl refl, o)) (λ o. (2, inr refl, o)) (breaks_rule L _ f w absent≢untouched breaks)

set_apart : (m : Mark) → m ≡ present → m ≡ absent → ⊥
set_apart m p a = let no : ◌≡◌ {A = ℕ} 0 1 = cc in omega arith

-- a run with the outcome of one of the two questions breaks the rule
outcome_breaks : (L : Library) (a : Always) (q f : ℕ) (w : List Item) → Asks a q → HasOutcome L (question_of q) f w → Breaks L a f w
outcome_breaks L needed q f w (inl e) o keeps = let other : HasOutcome L first_set f w = rw e at o in set_apart _ keeps other
outcome_breaks L needed q f w (inr e) o keeps = let other : HasOutcome L first_untouched f w = rw e at o in present≢untouched (sym keeps ∙ other)
outcome_breaks L set q f w (inl e) o keeps = let other : HasOutcome L last_cleared f w = rw e at o in set_apart _ keeps other
outcome_breaks L set q f w (inr e) o keeps = let other : HasOutcome L last_untouched f w = rw e at o in present≢untouched (sym keeps ∙ other)
outcome_breaks L cleared q f w (inl e) o keeps = let other : HasOutcome L last_set f w = rw e at o in set_apart _ other keeps
outcome_breaks L cleared q f w (inr e) o keeps = let other : HasOutcome L last_untouched f w = rw e at o in absent≢untouched (sym keeps ∙ other)

asked_low : (a : Always) (q : ℕ) → Asks a q → q ≤ 5
asked_low needed q asks = ⊎_elim (λ e. omega arith) (λ e. omega arith) asks
asked_low set q asks = ⊎_elim (λ e. omega arith) (λ e. omega arith) asks
asked_low cleared q asks = ⊎_elim (λ e. omega arith) (λ e. omega arith) asks

-- what the chain call leaves where some run has the outcome of a question about a broken rule
gets : (image : List ℕ) (h : Head) → checked image ≡ Ok h → (c : ℕ) → c < count (library_of image) → (a : Always)
    (f : Fact (library_of image)) (w : List Item) → Run (library_of image) c w → (q : ℕ) → Asks a q
    → HasOutcome (library_of image) (question_of q) f.0 w → (area : List ℕ) → 2 * count (library_of image) ≤ length area
    → (links : Chain) × Links area (engine.chain image c q f.0 area) links × Proves (library_of image) c a f.0 q links
gets image h accepted c l a f w run q asks o area room =
    let L = library_of image in
    let size = counted image h accepted in
    let same = size.sequences in
    let low = f.1 in
    let facts = size.facts in
    let (ls, told, shows) =
    call_shows image h c q f.0 (length area) accepted (omega arith) (asked_low a q asks) (omega arith) (omega arith) w run o in
    let here = shows.runs shows.run shows.stands in (
      ls,
      record {
        number = ap (λ (k : Reply). (replied k area).number) told;
        area = ap (λ (k : Reply). (replied k area).area) told;
        fits = accepted_fits image h (question_of q) f.0 ls shows.run accepted shows.stands;
      },
      record {
        few = shows.few;
        some = (shows.run, shows.stands, here.0, here.1);
        every = λ v stands. let r = shows.runs v stands in (r.0, outcome_breaks L a q f.0 v asks r.1);
      },
    )

pub runs : Demand3 engine
runs =
    record {
      shown = λ image area ready c l.
          let words = runs_there image area ready c l in
          record {
            kept = words.kept;
            changed = words.changed;
            missing = words.missing;
            outcome = λ a f w run breaks. broken_outcome (library_of image) a f.0 w breaks;
            answer = gets image ready.head ready.accepted c l;
          };
    }

-- ---- all three

pub demands_met : Demands engine
demands_met = record { total = total; columns = columns; runs = runs }
