-- Rows of the outcome table as words, all facts of a block at once: the formulas of `Rows` on whole columns. Bit b of each word is what `Rows`
-- says of fact b of the block, which `proofs/` shows.
use Rattle.std.specs.Prelude.{ℕ, ◌+◌, ◌-◌, ◌*◌, ◌^◌, Bool, ◌&&◌, List, [], ◌∷◌, get_or, set, eqb}
use Rattle.std.specs.Int.Bits.{bit_and, bit_or}
use Rattle.column.specs.Column.{bit}
use Rattle.column.specs.Sets.{difference}
use Rattle.column.specs.Words.{with_fact_in}
use Rattle.runs.specs.Possible.{column_count}
use Rattle.row.specs.declared.words.Marks.{Marks}
use Rattle.row.specs.declared.words.Row.{Row}

-- a row's words in a table
abbrev pub row_words : ℕ
row_words = column_count

-- as many facts as there are, from the lowest bit on
abbrev pub all_facts : ℕ → ℕ
all_facts facts = 2 ^ facts - 1

-- a word of which every bit is set
abbrev pub all_bits : ℕ
all_bits = 2 ^ 64 - 1

abbrev pub no_marks : Marks
no_marks = record { present = 0; absent = 0; untouched = 0 }

abbrev pub no_row : Row
no_row = record { run = 0; empty = 0; last = no_marks; first = no_marks; cleared = 0; unmentioned = 0 }

-- no entry
abbrev pub start_marks : ℕ → Marks
start_marks all = record { present = 0; absent = 0; untouched = all }

abbrev pub start_row : ℕ → Row
start_row all = record { run = all; empty = all; last = start_marks all; first = start_marks all; cleared = 0; unmentioned = all }

-- a step, by what it needs, sets and clears
abbrev pub not_word : ℕ → ℕ
not_word a = 2 ^ 64 - 1 - a

abbrev pub step_marks : ℕ → ℕ → ℕ → Marks
step_marks all one other =
    record { present = one; absent = bit_and other (not_word one); untouched = bit_and all (not_word (bit_or one other)) }

abbrev pub step_row : ℕ → ℕ → ℕ → ℕ → Row
step_row all needs sets clears =
    record {
      run = all;
      empty = 0;
      last = step_marks all sets clears;
      first = step_marks all needs sets;
      cleared = clears;
      unmentioned = bit_and all (not_word (bit_or (bit_or needs sets) clears));
    }

-- a check of fact f, for block k: "a check is no step" and "counts as a need" on the first side (document 02, request 4). It leaves all other facts
-- alone, whatever F is
abbrev pub check_row : ℕ → ℕ → Row
check_row k f =
    record {
      run = all_bits;
      empty = all_bits;
      last = start_marks all_bits;
      first = record { present = with_fact_in k 0 f; absent = 0; untouched = difference 64 all_bits (with_fact_in k 0 f) };
      cleared = 0;
      unmentioned = difference 64 all_bits (with_fact_in k 0 f);
    }

-- one list followed by another, of which a run is found: there is a run of both where there is one of the first
abbrev pub later_marks : Marks → Marks → Marks
later_marks x y =
    record {
      present = bit_or (bit_and x.present y.untouched) y.present;
      absent = bit_or (bit_and x.absent y.untouched) y.absent;
      untouched = bit_and x.untouched y.untouched;
    }

abbrev pub join_rows : Row → Row → Row
join_rows x y =
    record {
      run = x.run;
      empty = bit_and x.empty y.empty;
      last = later_marks x.last y.last;
      first = later_marks y.first x.first;
      cleared = bit_or (bit_and x.cleared y.unmentioned) y.cleared;
      unmentioned = bit_and x.unmentioned y.unmentioned;
    }

-- what either has
abbrev pub or_marks : Marks → Marks → Marks
or_marks x y =
    record {
      present = bit_or x.present y.present;
      absent = bit_or x.absent y.absent;
      untouched = bit_or x.untouched y.untouched;
    }

abbrev pub or_rows : Row → Row → Row
or_rows x y =
    record {
      run = bit_or x.run y.run;
      empty = bit_or x.empty y.empty;
      last = or_marks x.last y.last;
      first = or_marks x.first y.first;
      cleared = bit_or x.cleared y.cleared;
      unmentioned = bit_or x.unmentioned y.unmentioned;
    }

-- the marks of the facts in `all`
abbrev pub kept_marks : Marks → ℕ → Marks
kept_marks x all = record { present = bit_and x.present all; absent = bit_and x.absent all; untouched = bit_and x.untouched all }

abbrev pub same_marks : Marks → Marks → Bool
same_marks x y = eqb x.present y.present && eqb x.absent y.absent && eqb x.untouched y.untouched

abbrev pub same_rows : Row → Row → Bool
same_rows x y =
    eqb x.run y.run && eqb x.empty y.empty && same_marks x.last y.last && same_marks x.first y.first
    && eqb x.cleared y.cleared && eqb x.unmentioned y.unmentioned

-- row c of a table, in the order of the columns
abbrev pub row_in : List ℕ → ℕ → Row
row_in table c =
    record {
      run = get_or table (row_words * c) 0;
      empty = get_or table (row_words * c + 1) 0;
      last =
          record {
            present = get_or table (row_words * c + 2) 0;
            absent = get_or table (row_words * c + 3) 0;
            untouched = get_or table (row_words * c + 4) 0;
          };
      first =
          record {
            present = get_or table (row_words * c + 5) 0;
            absent = get_or table (row_words * c + 6) 0;
            untouched = get_or table (row_words * c + 7) 0;
          };
      cleared = get_or table (row_words * c + 8) 0;
      unmentioned = get_or table (row_words * c + 9) 0;
    }

-- the table with row c written
abbrev pub with_row : List ℕ → ℕ → Row → List ℕ
with_row table c r =
    set
    (set
    (set
    (set
    (set
    (set
    (set (set (set (set table (row_words * c) r.run) (row_words * c + 1) r.empty) (row_words * c + 2) r.last.present) (row_words * c + 3) r.last.absent)
    (row_words * c + 4) r.last.untouched)
    (row_words * c + 5) r.first.present)
    (row_words * c + 6) r.first.absent)
    (row_words * c + 7) r.first.untouched)
    (row_words * c + 8) r.cleared)
    (row_words * c + 9) r.unmentioned

-- the words of a row in the order of the columns
abbrev pub words_of : Row → List ℕ
words_of r =
    r.run ∷ r.empty ∷ r.last.present ∷ r.last.absent ∷ r.last.untouched ∷ r.first.present ∷ r.first.absent ∷ r.first.untouched
    ∷ r.cleared ∷ r.unmentioned ∷ []

-- whether bit f is set
abbrev pub is_set : ℕ → ℕ → Bool
is_set n f = eqb (bit n f) 1

-- what a row of words says of the fact of bit f
abbrev pub bit_row : Row → ℕ → ℕ → Bool
bit_row r f j = is_set (get_or (words_of r) j 0) f
