-- The outcome table as words, of a block of facts: for each sequence a 64-bit word for each column, in which bit b says of fact b of the block what
-- is possible.
use Rattle.std.specs.Prelude.{ℕ, zero, suc, ◌*◌, ◌≤◌, ◌<◌, List, [], ◌∷◌, length}
use Rattle.rules.specs.Checked.{Accepts}
use Rattle.library.specs.Library.{Library}
use Rattle.library.specs.Tables.{mask_words}
use Rattle.image.specs.declared.answer.Head.{Head}
use Rattle.column.specs.Column.{column}
use Rattle.column.specs.Words.{block, facts_in, all_in}
use Rattle.runs.specs.Possible.{column_possible}
use Rattle.general.specs.Numbers.{Zeros}
use Rattle.tables.specs.Tables.{Prepared}
use Rattle.row.specs.Words.{row_words}
use Rattle.reading.specs.declared.read.Block.{Block}

-- block k, where there are so many facts
abbrev pub block_of : ℕ → ℕ → Block
block_of facts k = record { number = k; all = all_in facts k }

-- column j of sequence c, of block k: bit b, for the block's facts below F, is set exactly where the column's outcome is possible, and no other bit is
unfoldable pub outcome_word : Library → ℕ → ℕ → ℕ → ℕ
unfolding column
outcome_word L k j c = column (facts_in L.facts k) (block k (λ (f : ℕ). column_possible L j c f))

-- the words of n sequences from sequence c on
unfoldable pub outcome_rows : Library → ℕ → ℕ → ℕ → List ℕ
unfolding outcome_word
outcome_rows L k c zero = []
outcome_rows L k c (suc n) =
    outcome_word L k 0 c ∷ outcome_word L k 1 c ∷ outcome_word L k 2 c ∷ outcome_word L k 3 c ∷ outcome_word L k 4 c ∷ outcome_word L k 5 c
    ∷ outcome_word L k 6 c ∷ outcome_word L k 7 c ∷ outcome_word L k 8 c ∷ outcome_word L k 9 c ∷ outcome_rows L k (suc c) n

-- the whole table, sequence 0 first
unfoldable pub outcomes : Library → ℕ → List ℕ
unfolding outcome_rows
outcomes L k = outcome_rows L k 0 (length L.sequences)

-- what block k is worked out from: an accepted image with facts in the block, and the places, the callers and the order that are made of it
pub record BlockGiven (h : Head) (image : List ℕ) (k : ℕ) (ps callers order : List ℕ) : Type 0 where
  pub accepted : Accepts image h
  pub some : 64 * k < h.facts
  pub places₀ : List ℕ
  pub prepared : Prepared h image places₀ ps callers order
  pub places_room : h.sequences ≤ length ps
  pub callers_room : 4 * h.sequences ≤ length callers
  pub order_room : h.sequences ≤ length order

-- what its table asks: that, and room for three masks a step, a row a step and a row a sequence. The areas for these are blank
pub record OutcomesAsked (h : Head) (image : List ℕ) (k : ℕ) (ms ps callers order rows table : List ℕ) : Type 0 where
  pub given : BlockGiven h image k ps callers order
  pub masks_room : mask_words * h.steps ≤ length ms
  pub masks_blank : Zeros ms
  pub rows_room : row_words * h.steps ≤ length rows
  pub rows_blank : Zeros rows
  pub room : row_words * h.sequences ≤ length table
  pub blank : Zeros table
