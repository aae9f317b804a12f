-- What is written for a row: its numbers, and the row's own flags in place of theirs.
-- Assumes nothing.
use Prim.Native.Nat.{ℕ}
use mathlib.Core.Path.{◌≡◌, ap, ap₂, ◌∙◌}
use mathlib.Core.List.{List}
use lib.ListN.{set}
use Rattle.row.specs.Words.{words_of}
use Rattle.row.specs.declared.words.Row.{Row}
use Rattle.writer.specs.Card.{flags_of, row_numbers}
use Rattle.list.specs.Fold.{kept_row, row_written}

pub written : (x : Row) (all : ℕ) (k : Row) (numbers : List ℕ) (f : ℕ) → k ≡ kept_row x all → numbers ≡ row_numbers (words_of k)
    → f ≡ flags_of x.run x.empty k.last.present k.last.absent → set numbers 0 f ≡ row_written x all
written x all k numbers f same numbered flagged =
    ap₂ (λ (c : List ℕ) (v : ℕ). set c 0 v) numbered flagged
    ∙ ap (λ (r : Row). set (row_numbers (words_of r)) 0 (flags_of x.run x.empty r.last.present r.last.absent)) same
