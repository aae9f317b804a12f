-- The rows of a sequence's alternatives, in the form that the loops follow: the entries of an alternative are joined from left to right, and
-- the alternatives of a sequence are united. What each gives for a fact is what `Rows` says, which `proofs/` shows.
use Rattle.std.specs.Prelude.{ℕ, ◌+◌, ◌-◌, ◌*◌, ◌≤◌, ◌<◌, ◌≡◌, Bool, cond, length, get_or, drop, replicate, ltb}
use mathlib.Core.List.{List, [], ◌∷◌, ◌++◌}
use Rattle.image.specs.Word.{kind, payload}
use Rattle.library.specs.Library.{Entry, step, check, item, call, Alternative, entries_from, alternatives_from}
use Rattle.library.specs.Accepted.{HighEntry}
use Rattle.walk.specs.Walk.{names_none, walk_end}
use Rattle.row.specs.Words.{row_words, no_row, start_row, step_row, check_row, join_rows, or_rows, row_in}
use Rattle.row.specs.declared.words.Row.{Row}
use Rattle.reading.specs.declared.read.Block.{Block}
use Rattle.walk.specs.declared.entries.Ended.{Ended}
use Rattle.library.specs.Tables.{mask_words}

-- a word of the sequences' part; an entry that is no check names a row of the steps' table, in which a run is found, or one of the table of
-- outcomes
pub record RowWithin (steps table : List ℕ) (w : ℕ) : Type 0 where
  pub high : HighEntry w
  pub step : kind w ≡ 8 → row_words * payload w + row_words ≤ length steps
  pub run : kind w ≡ 8 → 0 < (row_in steps (payload w)).run
  pub sequence : kind w ≡ 9 → row_words * payload w + row_words ≤ length table

-- each of the words is one
abbrev pub RowsReadable : List ℕ → List ℕ → List ℕ → Type 0
RowsReadable steps table part = (i : ℕ) → i < length part → RowWithin steps table (get_or part i 0)

-- "names a sequence not found to have one by then": a sequence in whose row no run is found
abbrev pub is_dead : List ℕ → Entry → Bool
is_dead table = names_none (λ d. ltb 0 (row_in table d).run)

module _ (b : Block) (steps table : List ℕ) where
  -- the row of an entry
  abbrev pub entry_in : Entry → Row
  entry_in (item (step a)) = row_in steps a
  entry_in (item (check f)) = check_row b.number f
  entry_in (call d) = row_in table d

  -- the row after the entries from here on, where that of those before is X: nothing where one of them is dead
  unfoldable pub joined_from : Row → List Entry → Row
  joined_from X [] = X
  joined_from X (e ∷ es) = cond (is_dead table e) no_row (joined_from (join_rows X (entry_in e)) es)

  -- the row of an alternative
  abbrev pub alternative_in : Alternative → Row
  alternative_in es = joined_from (start_row b.all) es

  -- X with the rows of the alternatives from here on
  unfoldable pub united_from : Row → List Alternative → Row
  unfolding joined_from
  united_from X [] = X
  united_from X (es ∷ alts) = united_from (or_rows X (alternative_in es)) alts

  -- what the reader of an alternative promises, whose entries stand from an index on: its row, and where it ended
  pub record AlternativeFolded (part : List ℕ) (at : ℕ) (r : Ended Row) : Type 0 where
    pub row : r.value ≡ alternative_in (entries_from (drop at part))
    pub ended : r.ended ≡ walk_end (is_dead table) part at

-- where the alternatives without entries that stand from an index on end: each is one word
pub record EmptiesEnd (part : List ℕ) (at r : ℕ) : Type 0 where
  pub low : at ≤ r
  pub within : r ≤ length part
  pub empties : alternatives_from (drop at part) ≡ replicate (r - at) [] ++ alternatives_from (drop r part)

-- the row of step a, by the table of masks
abbrev pub mask_row : ℕ → List ℕ → ℕ → Row
mask_row all masks a = step_row all (get_or masks (mask_words * a) 0) (get_or masks (mask_words * a + 1) 0) (get_or masks (mask_words * a + 2) 0)

-- the rows of the steps below n are written, and the others stay
pub record StepRows (all : ℕ) (masks : List ℕ) (n : ℕ) (before after : List ℕ) : Type 0 where
  pub written : (a : ℕ) → a < n → row_in after a ≡ mask_row all masks a
  pub stays : (a : ℕ) → n ≤ a → row_in after a ≡ row_in before a
