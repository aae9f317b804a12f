-- The tables that are made of an accepted image describe its library, and the answer by settled ranks is the library's.
-- It has: what the areas ask; the tables of an accepted image (`masks_made`, `places_made`, `tables_findable`); and the answer (`found_done`).
-- What the tables say of an entry is in Describes, the call's cases in Calls.
-- Assumes nothing.
use Prim.Native.Nat.{ℕ, ◌+◌, ◌*◌, ◌≤◌, ◌<◌}
use native.Mathlib.Numerals.{add-one}
use native.Mathlib.Omega.{arith}
use mathlib.Core.Path.{◌≡◌, refl, sym, ap, ◌∙◌, subst}
use mathlib.Core.Logic.{◌≢◌, ◌↔◌}
use mathlib.Core.Bool.{Bool, true, false, cond, not}
use mathlib.Core.List.{List, ◌++◌}
use lib.ListN.{length, get_or, take, drop, replicate, length-replicate}
use lib.Seq.{get_or-take, ext_get_or, length-take-le}
use Rattle.image.specs.Word.{most_steps, most_sequences}
use Rattle.rules.specs.Checked.{Accepts}
use Rattle.library.specs.Library.{Library, Sequence, Entry, alternatives_from, sequences_part, library_of, Item}
use Rattle.library.specs.Tables.{masks}
use Rattle.walk.specs.Walk.{alternatives_at}
use Rattle.general.specs.Tests.{All}
use Rattle.library.specs.Accepted.{SequenceWord, Counted}
use Rattle.image.specs.declared.answer.Head.{Head}
use Rattle.library.proofs.Accepted.{faultless, parts, counted, sequence_entry}
use Rattle.library.proofs.Rows.{all_at}
use Rattle.general.specs.Numbers.{Zeros}
use Rattle.tables.specs.Tables.{MasksAsked, TablesAsked, Prepared}
use Rattle.tables.proofs.Tables.{few_sequences, blank_drop, step_masks, sequences_are, place_is, place_within, scheduled}
use Rattle.runs.specs.Possible.{has_run, possible_outcome}
use Rattle.runs.specs.Run.{RunOf, alternatives_of}
use Rattle.general.proofs.Numbers.{zeros}
use Rattle.runs.proofs.Outcome.{present≢untouched, absent≢untouched}
use Rattle.runs.specs.Touch.{Mark, present, absent, untouched, Question, untouched_on, last_set}
use Rattle.runs.specs.Algebra.{same_mark}
use Rattle.general.specs.Scan.{every}
use Rattle.chains.specs.Ranks.{Look, pass_look, unranked, entry_passes, has_mark, can_stay, can_run, ahead_of, behind_of, touch_look, untouched_look}
use Rattle.chains.specs.Answer.{answer, ranks_in}
use Rattle.rank.specs.Visits.{Visits, RanksSettled}
use Rattle.slot.specs.Slots.{first_step, in_ranks, item_rank, pass_in}
use Rattle.rank.specs.Tables.{look_in, Rankable, Ranked}
use Rattle.link.specs.Choice.{answer_in}
use Rattle.chain.specs.Described.{Asks, Masked, Placed, ItemsBy, Described, FindAsked, ranks_length, AreasAsked, Findable, EntriesMarked, for_untouched, for_run, is_first, mark_as, side_by, mark_by, question_by}
use Rattle.question.specs.Asked.{mark_number, fact_block}
use Rattle.question.specs.declared.asked.Asked.{Asked}
use Rattle.question.specs.declared.asked.Mark as code
use Rattle.question.specs.declared.asked.Mark.TheVariants.{Present, Absent, Untouched, Run, Other}
use Rattle.chains.proofs.Entries.{stays_run, any_run}
use Rattle.chains.proofs.Passing.{Passable, pass_reached, pass_exact}
use Rattle.chains.proofs.Ranks.{start_unranked}
use Rattle.rank.proofs.Visits.{settled_good, touch_good, settled_touch, settled_untouched}
use Rattle.rank.proofs.Settling.{settled_kept, settled_visits, settled_all}
use Rattle.chain.proofs.Describes.{items_marked, items_any, pass_is, pass_look_lem, depth_look_lem, touch_look_lem, touch_answer_lem, untouched_answer_lem}

-- ---- the areas

-- for so many steps and sequences
pub areas_asked : (h : Head) (q : Asked) → q.none ≡ h.sequences + 2 → (steps sequences : ℕ) → h.steps ≤ steps → h.sequences ≤ sequences
    → steps ≤ most_steps → sequences ≤ most_sequences → AreasAsked h q (3 * steps) (4 * sequences) sequences (first_step (sequences + 2) + steps)
areas_asked h q none steps sequences a c few_steps few_sequences =
    record { masks_room = omega arith; callers_room = omega arith; places_room = c; ranks_room = omega arith; masks_fit = omega arith; callers_fit = omega arith; places_fit = omega arith; ranks_fit = omega arith }

module _ {h : Head} {q : Asked} {masks callers places ranks : ℕ} (areas : AreasAsked h q masks callers places ranks) where
  -- the part of an area that has the words of a table
  pub ranks_long : length (take (ranks_length h q) (replicate {A = ℕ} ranks 0)) ≡ ranks_length h q
  ranks_long = length-take-le (ranks_length h q) (replicate ranks 0) (omega (arith, areas.ranks_room, length-replicate {A = ℕ} ranks 0))

  -- what the makers of the tables ask
  pub masks_asked : MasksAsked h (replicate masks 0)
  masks_asked = record { room = omega (arith, areas.masks_room, length-replicate {A = ℕ} masks 0) }

  pub tables_asked : TablesAsked h (replicate places 0) (replicate callers 0) (replicate places 0)
  tables_asked =
      record {
        places_room = omega (arith, areas.places_room, length-replicate {A = ℕ} places 0);
        callers_room = omega (arith, areas.callers_room, length-replicate {A = ℕ} callers 0);
        callers_blank = zeros callers;
        order_room = omega (arith, areas.places_room, length-replicate {A = ℕ} places 0);
      }

-- ---- the tables of an accepted image

-- the masks of the block k that was asked for
pub masks_made : (image : List ℕ) (h : Head) → Accepts image h → (k : ℕ) (ms₀ : List ℕ) {b : ℕ} {ms : List ℕ} → b ≡ k
    → ms ≡ masks b (library_of image).steps ++ drop (3 * h.steps) ms₀ → Zeros ms₀ → Masked (library_of image) k ms
masks_made image h accepted k ms₀ asked made blank =
    let of_block = made ∙ ap (λ (n : ℕ). masks n (library_of image).steps ++ drop (3 * h.steps) ms₀) asked in
    let words = step_masks h k (library_of image).steps ms₀ of_block (blank_drop (3 * h.steps) ms₀ blank) in
    record {
      narrow = omega (arith, (counted image h accepted).facts, (faultless image h accepted).facts_high);
      needs = λ a. (words a).0;
      sets = λ a. (words a).1;
      clears = λ a. (words a).2;
    }

module _ {h : Head} {image ps₀ ps callers order : List ℕ} (accepted : Accepts image h) (made : Prepared h image ps₀ ps callers order)
    {part : List ℕ} (sequences : part ≡ sequences_part image) where
  pub places_made : Placed (library_of image) part ps
  places_made c l =
      ap (λ (n : ℕ). alternatives_from (drop n part)) (add-one (get_or ps c 0))
      ∙ (place_is accepted made sequences c (omega (arith, (counted image h accepted).sequences))).reads
      ∙ ap (λ (S : List Sequence). alternatives_of S c) (sym (sequences_are accepted made sequences))

  -- the tables are what the readers ask
  module _ {q : Asked} {c : ℕ} (asked : FindAsked h q c) where
    tables_rankable : (T : List ℕ) → length T ≡ ranks_length h q → Rankable q.none T part
    tables_rankable T long =
        record {
          within = λ i l.
              let none = asked.none in
              let low = (faultless image h accepted).facts_high in
              let w = all_at (SequenceWord h) part (subst (All (SequenceWord h)) (sym sequences) (parts image h accepted).sequences) 0 i l in
              record {
                high = sequence_entry _ w;
                step = λ k. omega (arith, w.step k);
                check = λ k. (omega (arith, w.check k), omega (arith, w.check k));
                sequence = λ k. (omega (arith, w.sequence k), omega (arith, w.sequence k));
              };
        }

    pub tables_findable : {ms ahead behind links : List ℕ} → length ahead ≡ ranks_length h q → length behind ≡ ranks_length h q → length links ≡ ranks_length h q
        → Zeros ps₀ → 3 * h.steps ≤ length ms → h.sequences ≤ length ps → 4 * h.sequences ≤ length callers
        → Findable q h.sequences ms ahead behind links part ps callers (take h.sequences order)
    tables_findable {links = links} a_long b_long long blank masked placed room =
        let none = asked.none in
        record {
          items = record { fact = omega (arith, asked.fact, (faultless image h accepted).facts_high); room = omega arith; masked = omega arith };
          rankable = tables_rankable links long;
          ahead_long = a_long ∙ sym long;
          behind_long = b_long ∙ sym long;
          low = omega arith;
          ranked = omega arith;
          placed = placed;
          opened =
              record {
                within = place_within accepted made sequences blank (omega (arith, asked.sequence));
                short = omega (arith, ap length sequences, (parts image h accepted).sequences_short);
              };
          scheduled = scheduled accepted made sequences room;
        }

-- ---- the answer

untouched_or : (k : code.Mark) → Dec (k ≡ Untouched)
untouched_or Present = no (λ e. cc)
untouched_or Absent = no (λ e. cc)
untouched_or Untouched = yes refl
untouched_or Run = no (λ e. cc)
untouched_or Other = no (λ e. cc)

touch_asked : (k : code.Mark) → mark_number k ≤ 2 → k ≢ Untouched → mark_by k ≢ untouched
touch_asked Present r t = present≢untouched
touch_asked Absent r t = absent≢untouched
touch_asked Untouched r t = absurd (t refl)
touch_asked Run r t = absurd (omega arith)
touch_asked Other r t = absurd (omega arith)

module _ (image : List ℕ) (h : Head) (accepted : Accepts image h) (ms ps part : List ℕ)
    (places_are : Placed (library_of image) part ps) where
  abbrev L : Library
  L = library_of image

  -- the question that the code is asked
  mark_as_lem : (m : code.Mark) → mark_number m ≤ 2 → m ≡ mark_as (mark_by m)
  mark_as_lem Present r = refl
  mark_as_lem Absent r = refl
  mark_as_lem Untouched r = refl
  mark_as_lem Run r = absurd (omega arith)
  mark_as_lem Other r = absurd (omega arith)

  first_is : (b : Bool) → b ≡ is_first (side_by b)
  first_is false = refl
  first_is true = refl

  pub asks_by : (q : Asked) → mark_number q.mark ≤ 2 → q.fact < h.facts → q.none ≡ h.sequences + 2 → Asks L q (question_by q)
  asks_by q low fact no_rank =
      let has = counted image h accepted in
      record {
        first = first_is q.first;
        mark = mark_as_lem q.mark low;
        none = omega (arith, has.sequences);
        fact = omega (arith, has.facts);
      }

  -- a table whose items are ranked by the question p and whose sequences by q
  module _ (all : Bool) (p q : Asked) (p_none : p.none ≡ unranked L) (q_none : q.none ≡ unranked L) (ahead behind before ranks : List ℕ)
      (long : length before ≡ ranks_length h p) (ranked : Ranked all p q h.sequences ms ahead behind part ps before ranks) where
    abbrev m : ℕ
    m = unranked L

    has : Counted L h
    has = counted image h accepted

    -- the ranks of the sequences from none on
    start_none : take m ranked.start ≡ replicate m m
    start_none =
        ext_get_or m (take m ranked.start) (replicate m m)
        (length-take-le m ranked.start (omega (arith, ranked.items.long)) ∙ sym (length-replicate m m))
        (λ i l.
        let below : i < m = omega (arith, length-take-le m ranked.start (omega (arith, ranked.items.long))) in
        get_or-take m ranked.start i m below ∙ ap (get_or ranked.start i) (sym p_none) ∙ ranked.items.unranked i (omega arith) ∙ p_none
        ∙ sym (start_unranked L.sequences (λ T es. 0) m m i))

    -- the ranks of the items
    items_stay : (past : ℕ) (test : Item → Bool) (T : List ℕ) → drop m T ≡ drop m ranked.start → ItemsBy p.none past test ranked.start → ItemsBy m past test T
    items_stay past test T same items x =
        ap (λ (l : List ℕ). item_rank past l x) (same ∙ ap (λ (n : ℕ). drop n ranked.start) (sym p_none)) ∙ items x ∙ ap (cond (test x) 0) p_none

    -- by a look that the tables have, where the ranks of the items are those that are written
    module _ (look : Look) (looks : (T : List ℕ) → drop m T ≡ drop m ranked.start → look_in q ahead behind T ≡ look (in_ranks m T)) where
      reads : (d : ℕ) → d < h.sequences → alternatives_at part ps d ≡ alternatives_of L.sequences d
      reads d l = places_are d (omega (arith, has.sequences))

      made_kept : drop m ranks ≡ drop m ranked.start
      made_kept =
          settled_kept q ahead behind part ps (drop m ranked.start) L.sequences look m h.sequences (sym has.sequences) (omega (arith, has.sequences)) q_none looks
          reads refl ranked.settled

      made_visits : Visits L.sequences look m (replicate m m) (take m ranks)
      made_visits =
          subst (λ (b : List ℕ). Visits L.sequences look m b (take m ranks)) start_none
          (settled_visits q ahead behind part ps (drop m ranked.start) L.sequences look m h.sequences (sym has.sequences) (omega (arith, has.sequences)) q_none looks
          reads refl ranked.settled)

      made_settled : RanksSettled L.sequences look m (take m ranks)
      made_settled =
          settled_all q ahead behind part ps (drop m ranked.start) L.sequences look m h.sequences (sym has.sequences) (omega (arith, has.sequences)) q_none looks
          reads refl ranked.settled

    -- where it is only asked whether all entries pass: an entry has a rank exactly where it passes, a sequence where it has a run whose items do
    module _ (run_only : q.mark ≡ Run) (test : Item → Bool) (items : ItemsBy p.none 0 test ranked.start) where
      abbrev look : Look
      look = pass_look m test

      looks : (T : List ℕ) → drop m T ≡ drop m ranked.start → look_in q ahead behind T ≡ look (in_ranks m T)
      looks T same = pass_look_lem m (omega arith) q ahead behind q_none run_only test T (items_stay 0 test T same items)

      entries_pass : (run : ℕ → Bool) → ((d : ℕ) → (run d ≡ true) ↔ ((w : List Item) × RunOf L.sequences d w × (every test w ≡ true)))
          → (e : Entry) → pass_in m ranks e ≡ entry_passes test run e
      entries_pass run right =
          let good =
          settled_good L last_set 0 m (take m ranks) (omega arith) (Passable L.sequences m test) look (pass_reached L.sequences m test)
          (made_visits look looks) (made_settled look looks) in
          pass_is m (omega arith) test run ranks (items_stay 0 test ranks (made_kept look looks) items)
          (λ d. pass_exact L.sequences m test (ranks_in L (take m ranks)) good.closed (omega arith) good.reached d (run d) (right d))

  -- ---- the answer by the three tables

  module _ (q : Asked) (c : ℕ) (asked : FindAsked h q c) (masks_are : Masked L (fact_block q) ms) where
    abbrev Q : Question
    Q = question_by q

    no_rank : q.none ≡ unranked L
    no_rank = omega (arith, asked.none, (counted image h accepted).sequences)

    stays_asks : Asks L (for_untouched q) (question_by (for_untouched q))
    stays_asks = asks_by (for_untouched q) (omega arith) asked.fact asked.none

    stays_items : (r : Asked) (ahead behind before ranks : List ℕ) → length before ≡ ranks_length h q
        → (ranked : Ranked false (for_untouched q) r h.sequences ms ahead behind part ps before ranks)
        → ItemsBy q.none 0 (has_mark L (question_by (for_untouched q)) q.fact) ranked.start
    stays_items r ahead behind before ranks long ranked =
        items_marked L (for_untouched q) (question_by (for_untouched q)) ms stays_asks masks_are before ranked.start (omega (arith, (counted image h accepted).steps)) ranked.items 0 refl

    -- the entries that can stay untouched, and those that have a run
    stays_done : (links₀ stays₀ stays : List ℕ) → length stays₀ ≡ ranks_length h q → Ranked false (for_untouched q) (for_run q) h.sequences ms links₀ links₀ part ps stays₀ stays
        → (e : Entry) → pass_in (unranked L) stays e ≡ can_stay L Q q.fact e
    stays_done links₀ stays₀ stays long ranked =
        entries_pass false (for_untouched q) (for_run q) no_rank no_rank links₀ links₀ stays₀ stays long ranked refl (has_mark L (question_by (for_untouched q)) q.fact)
        (stays_items (for_run q) links₀ links₀ stays₀ stays long ranked) (λ d. possible_outcome L (untouched_on Q) d q.fact) (stays_run L Q q.fact)

    runs_done : (links₀ runs₀ runs : List ℕ) → length runs₀ ≡ ranks_length h q → Ranked true (for_untouched q) (for_run q) h.sequences ms links₀ links₀ part ps runs₀ runs
        → (e : Entry) → pass_in (unranked L) runs e ≡ can_run L Q q.fact e
    runs_done links₀ runs₀ runs long ranked =
        entries_pass true (for_untouched q) (for_run q) no_rank no_rank links₀ links₀ runs₀ runs long ranked refl (λ (a : Item). true)
        (items_any L (for_untouched q) (question_by (for_untouched q)) ms stays_asks masks_are runs₀ ranked.start (omega (arith, (counted image h accepted).steps)) ranked.items)
        (λ d. has_run L d) (any_run L)

    -- by the tables for the entries ahead of the position and those behind it
    described_by : (blank ahead₀ behind₀ ahead behind : List ℕ) → length ahead₀ ≡ ranks_length h q → length behind₀ ≡ ranks_length h q → (b : Bool) → q.first ≡ b
        → Ranked (not b) (for_untouched q) (for_run q) h.sequences ms blank blank part ps ahead₀ ahead
        → Ranked b (for_untouched q) (for_run q) h.sequences ms blank blank part ps behind₀ behind → Described L Q q.fact ahead behind
    described_by blank ahead₀ behind₀ ahead behind a_long b_long false side a_ranked b_ranked =
        record {
          by_ahead = λ e. runs_done blank ahead₀ ahead a_long a_ranked e ∙ ap (λ (x : Bool). ahead_of L Q q.fact (side_by x) e) (sym side);
          by_behind = λ e. stays_done blank behind₀ behind b_long b_ranked e ∙ ap (λ (x : Bool). behind_of L Q q.fact (side_by x) e) (sym side);
        }
    described_by blank ahead₀ behind₀ ahead behind a_long b_long true side a_ranked b_ranked =
        record {
          by_ahead = λ e. stays_done blank ahead₀ ahead a_long a_ranked e ∙ ap (λ (x : Bool). ahead_of L Q q.fact (side_by x) e) (sym side);
          by_behind = λ e. runs_done blank behind₀ behind b_long b_ranked e ∙ ap (λ (x : Bool). behind_of L Q q.fact (side_by x) e) (sym side);
        }

    -- the ranks of the sequences by the question
    module _ (ahead behind links₀ links : List ℕ) (long : length links₀ ≡ ranks_length h q)
        (ranked : Ranked false q q h.sequences ms ahead behind part ps links₀ links) where
      asks : Asks L q Q
      asks = asks_by q asked.mark asked.fact asked.none

      listed : c < length L.sequences
      listed = omega (arith, asked.sequence, (counted image h accepted).sequences)

      items_by : (past : ℕ) → past ≡ cond (same_mark untouched Q.mark) 0 q.none → ItemsBy q.none past (has_mark L Q q.fact) ranked.start
      items_by past end =
          items_marked L q Q ms asks masks_are links₀ ranked.start (omega (arith, (counted image h accepted).steps)) ranked.items past end

      -- a question that asks for no touch
      untouched_done : Q.mark ≡ untouched → answer_in q ahead behind links part ps c ≡ answer L Q c q.fact
      untouched_done marks_none =
          let test = has_mark L Q q.fact in
          let look = untouched_look L Q q.fact in
          let items = items_by 0 (ap (λ (k : Mark). cond (same_mark untouched k) 0 q.none) (sym marks_none)) in
          let looks : (T : List ℕ) → drop (unranked L) T ≡ drop (unranked L) ranked.start → look_in q ahead behind T ≡ look (in_ranks (unranked L) T) =
          λ T same. depth_look_lem L q Q asks ahead behind marks_none test T (items_stay false q q no_rank no_rank ahead behind links₀ links long ranked 0 test T same items) in
          let kept = made_kept false q q no_rank no_rank ahead behind links₀ links long ranked look looks in
          untouched_answer_lem L q Q asks ahead behind part ps places_are links marks_none
          (items_stay false q q no_rank no_rank ahead behind links₀ links long ranked 0 test links kept items) c listed
          ∙ settled_untouched L Q q.fact (unranked L) (take (unranked L) links) (omega arith) marks_none
          (made_visits false q q no_rank no_rank ahead behind links₀ links long ranked look looks)
          (made_settled false q q no_rank no_rank ahead behind links₀ links long ranked look looks) c

      -- a question that asks for a touch
      link_done : Q.mark ≢ untouched → Described L Q q.fact ahead behind → answer_in q ahead behind links part ps c ≡ answer L Q c q.fact
      link_done touch described =
          let test = has_mark L Q q.fact in
          let look = touch_look L Q q.fact in
          let items : ItemsBy q.none (unranked L) test ranked.start =
          subst (λ (n : ℕ). ItemsBy q.none n test ranked.start) no_rank (items_by q.none (past Q.mark touch)) in
          let looks : (T : List ℕ) → drop (unranked L) T ≡ drop (unranked L) ranked.start → look_in q ahead behind T ≡ look (in_ranks (unranked L) T) =
          λ T same. touch_look_lem L q Q asks ahead behind touch described T (items_stay false q q no_rank no_rank ahead behind links₀ links long ranked (unranked L) test T same items) in
          let kept = made_kept false q q no_rank no_rank ahead behind links₀ links long ranked look looks in
          let good =
          touch_good L Q q.fact (unranked L) (take (unranked L) links) (omega arith) touch
          (made_visits false q q no_rank no_rank ahead behind links₀ links long ranked look looks)
          (made_settled false q q no_rank no_rank ahead behind links₀ links long ranked look looks) in
          touch_answer_lem L q Q asks ahead behind part ps places_are links touch described
          (items_stay false q q no_rank no_rank ahead behind links₀ links long ranked (unranked L) test links kept items) good.reached good.closed c listed
          ∙ settled_touch L Q q.fact (unranked L) (take (unranked L) links) (omega arith) touch good c
        where
          past : (k : Mark) → k ≢ untouched → q.none ≡ cond (same_mark untouched k) 0 q.none
          past present t = refl
          past absent t = refl
          past untouched t = absurd (t refl)

      -- the answer by the three tables
      pub found_done : (ahead₀ behind₀ : List ℕ) → length ahead₀ ≡ ranks_length h q → length behind₀ ≡ ranks_length h q
          → EntriesMarked q h.sequences ms links₀ part ps ahead₀ behind₀ ahead behind → answer_in q ahead behind links part ps c ≡ answer L Q c q.fact
      found_done ahead₀ behind₀ a_long b_long marked =
          elim (untouched_or q.mark) [
            | yes same ↦ untouched_done (ap mark_by same)
            | no other ↦
                link_done (touch_asked q.mark asked.mark other)
                (described_by links₀ ahead₀ behind₀ ahead behind a_long b_long q.first refl (marked.ahead_marked other) (marked.behind_marked other))
          ]
