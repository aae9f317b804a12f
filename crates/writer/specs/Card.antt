-- The numbers of a block of 64 facts in the form that the code follows: the flags and the word of each column, from the words of the sequence's
-- row of the outcome table.
use Rattle.std.specs.Prelude.{ℕ, ◌+◌, ◌*◌, ◌%◌, List, [], ◌∷◌, bit_or, count_ones, slice_index}
use Rattle.column.specs.Sets.{difference}
use Rattle.runs.specs.Touch.{Mark, present, absent, untouched, Side, last, first}
use Rattle.runs.specs.Rows.{column_number, cleared_column, unmentioned_column}

-- the flags from the columns "a run exists", "an empty run exists", "last set" and "last cleared"
abbrev pub flags_of : ℕ → ℕ → ℕ → ℕ → ℕ
flags_of run empty set cleared = run % 2 + 2 * (empty % 2) + 256 * count_ones (bit_or set cleared)

-- an "always" column from the columns "a run exists" and of its two rival outcomes
abbrev pub always_of : ℕ → ℕ → ℕ → ℕ
always_of run rival none = difference 64 run (bit_or rival none)

-- the words of a row by their names
abbrev pub run_word : List ℕ → ℕ
run_word row = slice_index row 0

abbrev pub side_word : List ℕ → Side → Mark → ℕ
side_word row s m = slice_index row (column_number s m)

abbrev pub cleared_word : List ℕ → ℕ
cleared_word row = slice_index row cleared_column

abbrev pub unmentioned_word : List ℕ → ℕ
unmentioned_word row = slice_index row unmentioned_column

-- the numbers of a row
unfoldable pub row_numbers : List ℕ → List ℕ
row_numbers row =
    flags_of (run_word row) (slice_index row 1) (side_word row last present) (side_word row last absent)
    ∷ always_of (run_word row) (side_word row first absent) (side_word row first untouched) ∷ side_word row first present ∷ side_word row last present
    ∷ side_word row last absent ∷ always_of (run_word row) (side_word row last absent) (side_word row last untouched)
    ∷ always_of (run_word row) (side_word row last present) (side_word row last untouched)
    ∷ always_of (run_word row) (cleared_word row) (unmentioned_word row) ∷ side_word row first absent ∷ side_word row first untouched
    ∷ side_word row last untouched ∷ cleared_word row ∷ unmentioned_word row ∷ []
