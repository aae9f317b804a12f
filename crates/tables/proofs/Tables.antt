-- The tables of an accepted image: what their makers ask, and what the tables say where they are looked up.
-- Assumes nothing.
use Prim.Native.Nat.{ℕ, zero, suc, ◌+◌, ◌*◌, ◌≤◌, ◌<◌}
use native.Mathlib.Decide.{dec_lt}
use native.Mathlib.Numerals.{add-one}
use native.Mathlib.Omega.{arith}
use mathlib.Core.Path.{◌≡◌, refl, sym, ap, ◌∙◌, subst}
use mathlib.Core.Bool.{true}
use mathlib.Core.List.{List, [], ◌∷◌, ◌++◌}
use lib.ListN.{length, get_or, take, drop, replicate, length-replicate, get_or-append, get_or-eq_default}
use lib.Seq.{get_or-drop}
use lib.Dec.{leb}
use borrow.Author.Tests.{leb-true}
use Rattle.general.proofs.Bools.{and_parts}
use Rattle.image.specs.Word.{most_steps}
use Rattle.image.specs.declared.answer.Head.{Head}
use Rattle.rules.specs.Checked.{Accepts}
use Rattle.rules.specs.Rules.{opened}
use Rattle.library.specs.Library.{Library, Step, Sequence, alternatives_from, steps_from, sequences_from, steps_part, sequences_part, library_of}
use Rattle.library.specs.Tables.{StepsAsked, SequencesAsked, mask_of, masks, places_from}
use Rattle.library.proofs.Accepted.{faultless, parts, library_is}
use Rattle.library.proofs.Lookup.{no_facts, words_at, Placed, place_at, places_length}
use Rattle.walk.specs.Walk.{alternatives_at}
use Rattle.general.specs.Numbers.{Zeros, Complete}
use Rattle.callers.specs.Callers.{CallersAsked, CallersWritten}
use Rattle.settling.specs.Settling.{Scheduled}
use Rattle.general.proofs.Numbers.{zeros}
use Rattle.tables.specs.Tables.{small_steps, small_sequences, is_small, MasksAsked, TablesAsked, Prepared}

-- ---- the size of an image

pub small_steps_lem : (h : Head) → is_small h ≡ true → h.steps ≤ small_steps
small_steps_lem h e = leb-true h.steps small_steps (and_parts (leb h.steps small_steps) (leb h.sequences small_sequences) e).0

pub small_sequences_lem : (h : Head) → is_small h ≡ true → h.sequences ≤ small_sequences
small_sequences_lem h e = leb-true h.sequences small_sequences (and_parts (leb h.steps small_steps) (leb h.sequences small_sequences) e).1

module _ (image : List ℕ) (h : Head) (accepted : Accepts image h) where
  pub image_long : 2 ≤ length image
  image_long = (faultless image h accepted).low

  pub few_steps : h.steps ≤ most_steps
  few_steps = (faultless image h accepted).steps_high

  pub few_sequences : h.sequences ≤ 256
  few_sequences = (faultless image h accepted).sequences_high

-- areas of zeros for so many steps and sequences
pub areas_asked : (h : Head) (steps sequences : ℕ) → h.steps ≤ steps → h.sequences ≤ sequences
    → MasksAsked h (replicate (3 * steps) 0) × TablesAsked h (replicate sequences 0) (replicate (4 * sequences) 0) (replicate sequences 0)
areas_asked h steps sequences a c = (
  record { room = omega (arith, length-replicate {A = ℕ} (3 * steps) 0) },
  record {
    places_room = omega (arith, length-replicate {A = ℕ} sequences 0);
    callers_room = omega (arith, length-replicate {A = ℕ} (4 * sequences) 0);
    callers_blank = zeros (4 * sequences);
    order_room = omega (arith, length-replicate {A = ℕ} sequences 0);
  },
)

-- ---- the places

module _ (image : List ℕ) (h : Head) (accepted : Accepts image h) {part : List ℕ} (sequences : part ≡ sequences_part image) where
  opened_is : opened 6 part ≡ h.sequences
  opened_is = ap (opened 6) sequences ∙ (parts image h accepted).sequences_opened

  -- what the maker of the places asks
  pub places_asked : {ps₀ : List ℕ} → h.sequences ≤ length ps₀ → SequencesAsked h part ps₀
  places_asked {ps₀} room =
      let p = parts image h accepted in
      subst (λ (x : List ℕ). SequencesAsked h x ps₀) (sym sequences)
      (record { short = p.sequences_short; numbered = p.sequences_numbered; opened = p.sequences_opened; room = room })

  -- the library's sequences stand in the part
  pub sequences_in : (library_of image).sequences ≡ sequences_from part
  sequences_in = ap (λ (L : Library). L.sequences) (library_is image h accepted) ∙ ap sequences_from (sym sequences)

  -- the place of sequence c, whatever stands after the places
  pub place_in : (rest : List ℕ) {ps : List ℕ} → ps ≡ places_from 0 part ++ rest → (c : ℕ) → c < h.sequences → Placed part c (get_or ps c 0)
  place_in rest {ps} placed c l =
      let count = opened_is in
      let word : get_or ps c 0 ≡ get_or (places_from 0 part) c 0 =
      ap (λ (x : List ℕ). get_or x c 0) placed ∙ get_or-append (places_from 0 part) rest 0 c (omega (arith, places_length 0 part)) in
      subst (Placed part c) (sym word) (place_at part c (omega arith))

  -- and the alternatives of sequence c from the word after its opener on
  pub reads_in : (rest : List ℕ) {ps : List ℕ} → ps ≡ places_from 0 part ++ rest → (c : ℕ) → c < h.sequences
      → alternatives_at part ps c ≡ get_or (library_of image).sequences c []
  reads_in rest {ps} placed c l =
      ap (λ (n : ℕ). alternatives_from (drop n part)) (add-one (get_or ps c 0)) ∙ (place_in rest placed c l).reads
      ∙ ap (λ (S : List Sequence). get_or S c []) (sym sequences_in)

-- ---- what the makers ask, and what they have made

module _ (image : List ℕ) (h : Head) (accepted : Accepts image h) (ms₀ : List ℕ) where
  pub steps_asked : MasksAsked h ms₀ → {first : List ℕ} → first ≡ steps_part image → StepsAsked h first ms₀
  steps_asked asked e =
      let p = parts image h accepted in
      subst (λ (x : List ℕ). StepsAsked h x ms₀) (sym e)
      (record { words = p.steps; numbered = p.steps_numbered; opened = p.steps_opened; room = asked.room })

  pub masked : (k : ℕ) {first ms : List ℕ} → first ≡ steps_part image → ms ≡ masks k (steps_from first) ++ drop (3 * h.steps) ms₀
      → ms ≡ masks k (library_of image).steps ++ drop (3 * h.steps) ms₀
  masked k first made =
      made
      ∙ ap (λ (x : List Step). masks k x ++ drop (3 * h.steps) ms₀) (ap steps_from first ∙ ap (λ (L : Library). L.steps) (sym (library_is image h accepted)))

module _ (image : List ℕ) {h : Head} {ps₀ callers₀ order₀ : List ℕ} (accepted : Accepts image h) (asked : TablesAsked h ps₀ callers₀ order₀) where
  pub sequences_asked : {part : List ℕ} → part ≡ sequences_part image → SequencesAsked h part ps₀
  sequences_asked e = places_asked image h accepted e asked.places_room

  pub callers_asked : {part ps : List ℕ} → part ≡ sequences_part image → ps ≡ places_from 0 part ++ drop h.sequences ps₀ → length ps ≡ length ps₀
      → CallersAsked h.sequences part ps callers₀
  callers_asked e placed long =
      record {
        few = few_sequences image h accepted;
        placed = omega (arith, asked.places_room);
        within = λ c l. (place_in image h accepted e (drop h.sequences ps₀) placed c l).within;
        zeros = asked.callers_blank;
      }

  pub prepared : {part ps callers order : List ℕ} → part ≡ sequences_part image → ps ≡ places_from 0 part ++ drop h.sequences ps₀
      → CallersWritten h.sequences part ps callers → Complete (take h.sequences order) h.sequences → Prepared h image ps₀ ps callers order
  prepared {ps = ps} {callers = callers} part placed called complete =
      record {
        placed = placed ∙ ap (λ (x : List ℕ). places_from 0 x ++ drop h.sequences ps₀) part;
        called = subst (λ (x : List ℕ). CallersWritten h.sequences x ps callers) part called;
        complete = complete;
      }

-- ---- the tables, where they are looked up

-- a table in an area that was blank, at any index
past_blank : (xs rest : List ℕ) → Zeros rest → (k : ℕ) → get_or (xs ++ rest) k 0 ≡ get_or xs k 0
past_blank [] rest blank k = blank k
past_blank (x ∷ xs) rest blank zero = refl
past_blank (x ∷ xs) rest blank (suc k) = past_blank xs rest blank k

pub blank_drop : (n : ℕ) (area : List ℕ) → Zeros area → Zeros (drop n area)
blank_drop n area blank k = get_or-drop n area k 0 ∙ blank (n + k)

-- the masks of step a, where words past the masks are 0; past the steps, those of one that names no fact
pub step_masks : (h : Head) (k : ℕ) (ss : List Step) (ms₀ : List ℕ) {ms : List ℕ} → ms ≡ masks k ss ++ drop (3 * h.steps) ms₀ → Zeros (drop (3 * h.steps) ms₀) → (a : ℕ)
    → (get_or ms (3 * a) 0 ≡ mask_of k (get_or ss a no_facts).needs)
    × (get_or ms (3 * a + 1) 0 ≡ mask_of k (get_or ss a no_facts).sets)
    × (get_or ms (3 * a + 2) 0 ≡ mask_of k (get_or ss a no_facts).clears)
step_masks h k ss ms₀ {ms} made blank a =
    let word : (i : ℕ) → get_or ms i 0 ≡ get_or (masks k ss) i 0 =
    λ i. ap (λ (x : List ℕ). get_or x i 0) made ∙ past_blank (masks k ss) _ blank i in
    let words = words_at k ss a in
    (word (3 * a) ∙ words.0, word (3 * a + 1) ∙ words.1, word (3 * a + 2) ∙ words.2)

module _ {h : Head} {image ps₀ ps callers order : List ℕ} (accepted : Accepts image h) (made : Prepared h image ps₀ ps callers order) where
  module _ {part : List ℕ} (sequences : part ≡ sequences_part image) where
    -- the library's sequences stand in the part
    pub sequences_are : (library_of image).sequences ≡ sequences_from part
    sequences_are = sequences_in image h accepted sequences

    places_are : ps ≡ places_from 0 part ++ drop h.sequences ps₀
    places_are = made.placed ∙ ap (λ (x : List ℕ). places_from 0 x ++ drop h.sequences ps₀) (sym sequences)

    -- the place of sequence c
    pub place_is : (c : ℕ) → c < h.sequences → Placed part c (get_or ps c 0)
    place_is = place_in image h accepted sequences (drop h.sequences ps₀) places_are

    -- by a blank area no place is past the part, whatever its index
    pub place_within : Zeros ps₀ → 0 < h.sequences → (c : ℕ) → get_or ps c 0 < length part
    place_within blank some c =
        elim (dec_lt c h.sequences) [
          | yes l ↦ (place_is c l).within
          | no l ↦
              let count = opened_is image h accepted sequences in
              let word : get_or ps c 0 ≡ 0 =
              ap (λ (x : List ℕ). get_or x c 0) places_are ∙ past_blank (places_from 0 part) _ (blank_drop h.sequences ps₀ blank) c
              ∙ get_or-eq_default (places_from 0 part) 0 {n = c} (omega (arith, places_length 0 part)) in
              omega (arith, (place_is 0 some).within)
        ]

    -- the order of visits and the callers are what settling a table goes by
    pub scheduled : 4 * h.sequences ≤ length callers → Scheduled h.sequences part ps callers (take h.sequences order)
    scheduled room =
        record {
          few = few_sequences image h accepted;
          room = room;
          written = subst (λ (x : List ℕ). CallersWritten h.sequences x ps callers) (sym sequences) made.called;
          complete = made.complete;
        }
