-- The tables that are made of an accepted image are what the visits ask, and a settled table is the outcome table.
-- Assumes nothing.
use Prim.Native.Nat.{ℕ, zero, suc, ◌*◌, ◌≤◌, ◌<◌}
use native.Mathlib.Decide.{dec_lt}
use native.Mathlib.Omega.{arith}
use mathlib.Core.Path.{◌≡◌, refl, sym, ap, ◌∙◌, subst}
use mathlib.Core.List.{List, [], ◌∷◌, ◌++◌}
use lib.ListN.{length, get_or, take, drop, replicate, length-replicate}
use lib.Seq.{length-take-le}
use lib.Pow.{pow_mono}
use Rattle.general.specs.Tests.{All}
use Rattle.image.specs.Word.{payload}
use Rattle.image.specs.declared.answer.Head.{Head}
use Rattle.library.specs.Library.{Library, sequences_part, library_of}
use Rattle.library.specs.Accepted.{Below, SequenceWord, Counted}
use Rattle.library.proofs.Accepted.{parts, counted, sequence_entry}
use Rattle.library.proofs.Lookup.{mask_low}
use Rattle.library.proofs.Rows.{all_at}
use Rattle.runs.specs.Domain.{no_step}
use Rattle.row.specs.Words.{row_words, step_row, row_in}
use Rattle.row.specs.declared.words.Row.{Row}
use Rattle.general.specs.Numbers.{Zeros}
use Rattle.settling.specs.Settling.{Settles, Scheduled}
use Rattle.general.proofs.Numbers.{zeros}
use Rattle.tables.proofs.Tables.{step_masks, blank_drop, sequences_are, place_is, scheduled}
use Rattle.outcome.specs.Area.{outcomes, BlockGiven, OutcomesAsked}
use Rattle.reading.specs.Walks.{StepRows}
use Rattle.outcome.specs.Visited.{RowsVisitable, visited}
use Rattle.outcome.proofs.Bridge.{Stepped}
use Rattle.outcome.proofs.Filled.{table_filled}
use Rattle.outcome.proofs.Low.{LowRow, none_low, step_low}
use Rattle.outcome.proofs.Settled.{Given, blank_row}
use Rattle.library.specs.Tables.{mask_words, masks}
use Rattle.column.specs.Words.{facts_in, all_in}
use Rattle.reading.specs.declared.read.Block.{Block}

blank_take : (n : ℕ) (area : List ℕ) → Zeros area → Zeros (take n area)
blank_take zero area blank k = refl
blank_take (suc n) [] blank k = refl
blank_take (suc n) (x ∷ xs) blank zero = blank 0
blank_take (suc n) (x ∷ xs) blank (suc k) = blank_take n xs (λ j. blank (suc j)) k

-- areas of zeros of so many words
pub areas_asked : {h : Head} {image : List ℕ} {k : ℕ} {ps callers order : List ℕ} → BlockGiven h image k ps callers order
    → (masks steps rows : ℕ) → mask_words * h.steps ≤ masks → row_words * h.steps ≤ steps → row_words * h.sequences ≤ rows
    → OutcomesAsked h image k (replicate masks 0) ps callers order (replicate steps 0) (replicate rows 0)
areas_asked given masks steps rows m s r =
    record {
      given = given;
      masks_room = omega (arith, length-replicate {A = ℕ} masks 0);
      masks_blank = zeros masks;
      rows_room = omega (arith, length-replicate {A = ℕ} steps 0);
      rows_blank = zeros steps;
      room = omega (arith, length-replicate {A = ℕ} rows 0);
      blank = zeros rows;
    }

module _ {h : Head} {image : List ℕ} {k : ℕ} {ms₀ ps callers order rs₀ table : List ℕ} (asked : OutcomesAsked h image k ms₀ ps callers order rs₀ table) where
  -- the part of the area that has the rows of the sequences
  pub table_long : length (take (row_words * h.sequences) table) ≡ row_words * h.sequences
  table_long = length-take-le (row_words * h.sequences) table asked.room

  module _ {part : List ℕ} (sequences : part ≡ sequences_part image) {ms : List ℕ}
      (masked : ms ≡ masks k (library_of image).steps ++ drop (mask_words * h.steps) ms₀) {all : ℕ} (ones : all ≡ all_in h.facts k) {rs : List ℕ}
      (rowed : StepRows all ms h.steps rs₀ rs) (wide : length rs ≡ length rs₀) where
    abbrev L : Library
    L = library_of image

    has : Counted L h
    has = counted image h asked.given.accepted

    facts_are : all ≡ all_in L.facts k
    facts_are = ones ∙ ap (λ (n : ℕ). all_in n k) (sym has.facts)

    -- the row of a step
    step_is : Stepped L k rs
    step_is a l =
        let mask = step_masks h k L.steps ms₀ masked (blank_drop (mask_words * h.steps) ms₀ asked.masks_blank) a in
        rowed.written a (omega (arith, has.steps)) ∙ (λ i. step_row (facts_are i) (mask.0 i) (mask.1 i) (mask.2 i))

    words_are : All (SequenceWord h) part
    words_are = subst (All (SequenceWord h)) (sym sequences) (parts image h asked.given.accepted).sequences

    -- the block has a fact
    all_some : 0 < all
    all_some =
        let here : 1 ≤ facts_in h.facts k = omega (arith, asked.given.some) in
        omega (arith, ones, pow_mono {i = 1} {j = facts_in h.facts k} here)

    fill_given : Given L h k rs part ps
    fill_given =
        record {
          some = omega (arith, all_some, facts_are);
          facts = has.facts;
          counted = has.steps;
          sequences = has.sequences;
          stepped = step_is;
          words = words_are;
          reads = sequences_are asked.given.accepted asked.given.prepared sequences;
          placed = place_is asked.given.accepted asked.given.prepared sequences;
        }

    -- no bit is set from F upward
    fill_low : (a : ℕ) → LowRow (facts_in L.facts k) (row_in rs a)
    fill_low a =
        elim (dec_lt a (length L.steps)) [
          | yes l ↦
              let n = L.facts in
              let b = subst (λ (m : ℕ). Below m (get_or L.steps a no_step)) (sym has.facts) (all_at (Below h.facts) L.steps has.below no_step a l) in
              subst (LowRow (facts_in n k)) (sym (step_is a l))
              (step_low (facts_in n k) _ _ _ (mask_low k n _ b.0) (mask_low k n _ b.1) (mask_low k n _ b.2))
          | no l ↦ subst (LowRow (facts_in L.facts k)) (sym (rowed.stays a (omega (arith, has.steps)) ∙ blank_row rs₀ asked.rows_blank a)) (none_low (facts_in L.facts k))
        ]

    -- what the passes ask
    pub settle_asked : RowsVisitable h.sequences rs part ps (take (row_words * h.sequences) table)
        × Scheduled h.sequences part ps callers (take h.sequences order)
    settle_asked = (
      record {
        readable = λ i l.
            let w = all_at (SequenceWord h) part words_are 0 i l in
            record {
              high = sequence_entry _ w;
              step = λ q. omega (arith, w.step q, asked.rows_room);
              run = λ q. omega (arith, ap (λ (r : Row). r.run) (rowed.written (payload (get_or part i 0)) (w.step q)), all_some);
              sequence = λ q. omega (arith, w.sequence q, table_long);
            };
        rows = omega (arith, table_long);
        placed = asked.given.places_room;
        within = λ c l. (place_is asked.given.accepted asked.given.prepared sequences c l).within;
      },
      scheduled asked.given.accepted asked.given.prepared sequences asked.given.callers_room,
    )

    pub outcomes_done : (number : ℕ) → number ≡ k → (t : List ℕ)
        → Settles (visited (record { number = number; all = all }) rs part ps) h.sequences (take (row_words * h.sequences) table) t → t ≡ outcomes L k
    outcomes_done number same t pass =
        let p = subst (λ (b : Block). Settles (visited b rs part ps) h.sequences (take (row_words * h.sequences) table) t) (λ i. record { number = same i; all = facts_are i }) pass in
        table_filled L h k rs part ps fill_given fill_low _ t table_long (blank_take (row_words * h.sequences) table asked.blank) p.reached p.settled
