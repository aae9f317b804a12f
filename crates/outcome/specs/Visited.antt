-- The visits of the outcome table: a visit of a sequence unites its row with what its alternatives give.
use Rattle.std.specs.Prelude.{ℕ, ◌+◌, ◌-◌, ◌*◌, ◌^◌, ◌≤◌, ◌<◌, List, [], ◌∷◌, length, get_or}
use Rattle.walk.specs.Walk.{alternatives_at}
use Rattle.row.specs.Words.{row_words, no_row, or_rows, row_in, with_row}
use Rattle.reading.specs.Walks.{RowsReadable, united_from}
use Rattle.row.specs.declared.words.Row.{Row}
use Rattle.reading.specs.declared.read.Block.{Block}

-- how much the words lack to the greatest number: what falls while the table grows
unfoldable pub lacking : List ℕ → ℕ
lacking [] = 0
lacking (x ∷ xs) = 2 ^ 64 - 1 - x + lacking xs

-- what a visit of the sequences below n asks of the areas
pub record RowsVisitable (n : ℕ) (steps part places table : List ℕ) : Type 0 where
  pub readable : RowsReadable steps table part
  pub rows : row_words * n ≤ length table
  pub placed : n ≤ length places
  pub within : (c : ℕ) → c < n → get_or places c 0 < length part

module _ (b : Block) (steps part places : List ℕ) where
  -- the row of sequence c after a visit
  abbrev pub visited_row : List ℕ → ℕ → Row
  visited_row table c = or_rows (row_in table c) (united_from b steps table no_row (alternatives_at part places c))

  -- the table after a visit of sequence c
  abbrev pub visited : List ℕ → ℕ → List ℕ
  visited table c = with_row table c (visited_row table c)
