-- The rows of entries and alternatives, for one fact: what is joined and united is what `Rows` says of them.
-- Assumes nothing.
use Prim.Native.Nat.{ℕ, ◌+◌, ◌*◌, ◌<◌}
use native.Mathlib.Omega.{arith}
use mathlib.Core.Path.{◌≡◌, refl, sym, ap, ap₂, ◌∙◌}
use mathlib.Core.Bool.{Bool, true, false, cond, not, ◌&&◌, ◌||◌, and-false, or-false, or_assoc, false≢true, true≢false}
use mathlib.Core.Logic.{⊎_elim}
use mathlib.Core.List.{List, [], ◌∷◌}
use lib.ListN.{length}
use lib.Dec.{eqb, ltb}
use borrow.Author.Tests.{lt-ltb}
use mir.Val.{bool_byte}
use Rattle.library.specs.Library.{has, Library, Step, Entry, step, check, item, call, Alternative}
use Rattle.general.specs.Tests.{All}
use Rattle.library.specs.Accepted.{Named}
use Rattle.library.specs.Tables.{mask_of}
use Rattle.image.specs.declared.answer.Head.{Head}
use Rattle.library.proofs.Decode.{has_none, has_one}
use Rattle.library.proofs.Lookup.{mask_bit, mask_lt}
use Rattle.general.specs.Tests.{some}
use Rattle.runs.specs.Domain.{action_of}
use Rattle.runs.specs.Rows.{column_number, entry_row, fold_row, read_row, join_row, touch_row}
use Rattle.runs.specs.Rows as rows
use Rattle.row.specs.Words.{row_words, no_row, start_row, step_row, check_row, join_rows, or_rows, row_in, is_set, bit_row}
use Rattle.reading.specs.Walks.{is_dead, entry_in, joined_from, alternative_in, united_from}
use Rattle.row.specs.declared.words.Row.{Row}
use Rattle.reading.specs.declared.read.Block.{Block}
use Rattle.column.specs.Words.{facts_in, all_in}
use Rattle.outcome.specs.Area.{block_of}
use Rattle.runs.specs.Touch.{Side, last, first, Mark, present, absent, untouched}
use Rattle.runs.proofs.Rows.{by_column, item_row_touch, join_agree, fold_dead}
use Rattle.outcome.proofs.Whole.{Whole}
use Rattle.row.proofs.Bits.{join_bits, or_bits, none_set, all_set, start_bits, step_bits, check_bits}

set_byte : (b : Bool) → eqb (bool_byte b) 1 ≡ b
set_byte true = refl
set_byte false = refl

mask_set : (k : ℕ) (facts : List ℕ) (b : ℕ) → b < 64 → is_set (mask_of k facts) b ≡ has (64 * k + b) facts
mask_set k facts b l = ap (λ (n : ℕ). eqb n 1) (mask_bit k facts b l) ∙ set_byte (has (64 * k + b) facts)

-- the row of a step, by its lists of facts
abbrev pub row_of_step : Block → Step → Row
row_of_step b s = step_row b.all (mask_of b.number s.needs) (mask_of b.number s.sets) (mask_of b.number s.clears)

-- the table has the row of each step
abbrev pub Stepped : Library → ℕ → List ℕ → Type 0
Stepped L k steps = (a : ℕ) → a < length L.steps → row_in steps a ≡ row_of_step (block_of L.facts k) (action_of L (step a))

-- a blank row has nothing
pub none_row : (f j : ℕ) → j < row_words → bit_row no_row f j ≡ false
none_row f = by_column (λ (j : ℕ). bit_row no_row f j ≡ false) (none_set f) (none_set f) side (none_set f) (none_set f)
  where
    side : (s : Side) (m : Mark) → bit_row no_row f (column_number s m) ≡ false
    side last present = none_set f
    side last absent = none_set f
    side last untouched = none_set f
    side first present = none_set f
    side first absent = none_set f
    side first untouched = none_set f

-- what a table of words says of the fact of bit b
abbrev pub table_bits : List ℕ → ℕ → ℕ → rows.Row
table_bits table b c = bit_row (row_in table c) b

module _ (L : Library) (h : Head) (k : ℕ) (steps table : List ℕ) (facts : L.facts ≡ h.facts) (counted : length L.steps ≡ h.steps) (stepped : Stepped L k steps)
    (whole : (c : ℕ) → Whole (block_of L.facts k) (row_in table c)) (facts_some : 0 < all_in L.facts k) (b : ℕ) (below : b < facts_in L.facts k) where
  abbrev blk : Block
  blk = block_of L.facts k

  -- the fact of bit b
  abbrev f : ℕ
  f = 64 * k + b

  -- a row of words and a row of the theory agree
  Agree : Row → rows.Row → Type 0
  Agree X R = (j : ℕ) → j < row_words → bit_row X b j ≡ R j

  -- a step's row
  step_row_lem : (a : ℕ) → a < length L.steps → Agree (row_in steps a) (rows.item_row L f (step a))
  unfolding Agree
  step_row_lem a l j u =
      let s = action_of L (step a) in
      let lt : b < 64 = omega arith in
      ap (λ (r : Row). bit_row r b j) (stepped a l)
      ∙ step_bits (facts_in L.facts k) (mask_of k s.needs) (mask_of k s.sets) (mask_of k s.clears) b below (omega arith) (mask_lt k s.needs) (mask_lt k s.sets)
      (mask_lt k s.clears) j u
      ∙ ap (λ (q : Bool). touch_row false q (is_set (mask_of k s.sets) b) (is_set (mask_of k s.clears) b) j) (mask_set k s.needs b lt)
      ∙ ap (λ (q : Bool). touch_row false (has f s.needs) q (is_set (mask_of k s.clears) b) j) (mask_set k s.sets b lt)
      ∙ ap (λ (q : Bool). touch_row false (has f s.needs) (has f s.sets) q j) (mask_set k s.clears b lt)
      ∙ sym (item_row_touch L f (step a) j)

  -- a check's row
  check_row_lem : (g : ℕ) → Agree (check_row k g) (rows.item_row L f (check g))
  unfolding Agree
  check_row_lem g j u =
      check_bits k g b (omega arith) j u
      ∙ sym (item_row_touch L f (check g) j ∙ (λ i. touch_row true (has_one f g i) (has_none f i) (has_none f i) j))

  -- rows that agree before an entry agree after it
  join_entry : (X : Row) (R : rows.Row) (Y : Row) (S : rows.Row) → S 0 ≡ true → Agree X R → Agree Y S → Agree (join_rows X Y) (join_row R S)
  unfolding Agree
  join_entry X R Y S runs p q j u =
      join_bits X Y b (q 0 (omega arith) ∙ runs) j u ∙ join_agree (bit_row X b) R (bit_row Y b) S p q j u

  -- an entry's row
  entry_bits : (e : Entry) → Named h e → Agree (entry_in blk steps table e) (entry_row L f (table_bits table b) e)
  unfolding Agree
  entry_bits (item (step a)) l = step_row_lem a (omega arith)
  entry_bits (item (check g)) l = check_row_lem g
  entry_bits (call d) l = λ j u. refl

  -- an entry that is dead has no run for the fact, and any other has one, since a run is found for all facts or for none
  dead_bit : (e : Entry) → is_dead table e ≡ true → entry_row L f (table_bits table b) e 0 ≡ false
  dead_bit (item x) dead = absurd (false≢true dead)
  dead_bit (call d) dead =
      ⊎_elim (λ none. ap (λ (n : ℕ). is_set n b) none ∙ none_set b)
      (λ full. absurd (false≢true (sym (ap (λ (n : ℕ). not (ltb 0 n)) full ∙ ap not (lt-ltb 0 (all_in L.facts k) facts_some)) ∙ dead))) (whole d)

  live_bit : (e : Entry) → is_dead table e ≡ false → entry_row L f (table_bits table b) e 0 ≡ true
  live_bit (item x) live = refl
  live_bit (call d) live =
      ⊎_elim (λ none. absurd (true≢false (sym (ap (λ (n : ℕ). not (ltb 0 n)) none) ∙ live)))
      (λ full. ap (λ (n : ℕ). is_set n b) full ∙ all_set (facts_in L.facts k) b below) (whole d)

  -- the entries of an alternative, of which there is a run so far
  joined_bits : (es : List Entry) → All (Named h) es → (X : Row) (R : rows.Row) → Agree X R → R 0 ≡ true
      → Agree (joined_from blk steps table X es) (λ j. fold_row L f (table_bits table b) R es 0 && fold_row L f (table_bits table b) R es j)
  unfolding joined_from fold_row Agree
  joined_bits [] a X R same runs j u = same j u ∙ sym (ap (λ (q : Bool). q && R j) runs)
  joined_bits (e ∷ es) a X R same runs j u =
      let Z = entry_in blk steps table e in
      let Q = entry_row L f (table_bits table b) e in
      go (is_dead table e) refl
      (λ live.
      joined_bits es a.1 (join_rows X Z) (join_row R Q) (join_entry X R Z Q (live_bit e live) same (entry_bits e a.0)) (ap₂ ◌&&◌ runs (live_bit e live)) j
      u)
    where
      Y : Row
      Y = entry_in blk steps table e

      S : rows.Row
      S = entry_row L f (table_bits table b) e

      go : (q : Bool) → is_dead table e ≡ q
          → (is_dead table e ≡ false → bit_row (joined_from blk steps table (join_rows X Y) es) b j
          ≡ (fold_row L f (table_bits table b) (join_row R S) es 0 && fold_row L f (table_bits table b) (join_row R S) es j))
          → bit_row (cond q no_row (joined_from blk steps table (join_rows X Y) es)) b j
          ≡ (fold_row L f (table_bits table b) (join_row R S) es 0 && fold_row L f (table_bits table b) (join_row R S) es j)
      go true dead rest =
          none_row b j u
          ∙ sym (ap (λ (q : Bool). q && fold_row L f (table_bits table b) (join_row R S) es j)
          (fold_dead L f (table_bits table b) (join_row R S) es (ap (λ (q : Bool). R 0 && q) (dead_bit e dead) ∙ and-false (R 0))))
      go false live rest = rest live

  -- an alternative
  alternative_bits : (es : Alternative) → All (Named h) es → Agree (alternative_in blk steps table es) (read_row L f (table_bits table b) es)
  unfolding Agree
  alternative_bits es a = joined_bits es a (start_row (all_in L.facts k)) rows.start_row (start_bits (facts_in L.facts k) b below) refl

  -- a sequence: what it has already, or what one of its alternatives gives
  pub united_bits : (alts : List Alternative) → All (All (Named h)) alts → (X : Row) (j : ℕ) → j < row_words
      → bit_row (united_from (block_of L.facts k) steps table X alts) b j
      ≡ (bit_row X b j || some (λ (es : List Entry). read_row L f (table_bits table b) es j) alts)
  unfolding some united_from Agree
  united_bits [] a X j u = sym (or-false (bit_row X b j))
  united_bits (es ∷ alts) a X j u =
      let A = alternative_in blk steps table es in
      let later = some (λ (es : List Entry). read_row L f (table_bits table b) es j) alts in
      united_bits alts a.1 (or_rows X A) j u
      ∙ ap (λ (q : Bool). q || later) (or_bits X A b j u ∙ ap (λ (q : Bool). bit_row X b j || q) (alternative_bits es a.0 j u))
      ∙ or_assoc (bit_row X b j) (read_row L f (table_bits table b) es j) later
