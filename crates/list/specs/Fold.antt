-- The composition in the form that the code follows, a block of 64 facts after the other: the members' rows folded from left to right, all facts
-- of the block at once, and the numbers of the row that comes out. That this gives the list's card is shown in `proofs/`.
use Rattle.std.specs.Prelude.{ℕ, ◌+◌, ◌*◌, ◌/◌, ◌%◌, ◌≤◌, ◌<◌, cond, List, [], ◌∷◌, eqb, length, get_or, set}
use Rattle.std.specs.Int.Bits.{bit_and}
use Rattle.column.specs.Words.{all_in}
use Rattle.cards.specs.Layout.{CardColumn, card_words, first_word, may_need, may_set, may_clear}
use Rattle.cards.specs.Layout.{may_first_set, may_first_untouched, may_last_untouched, may_end_cleared, may_end_unmentioned}
use Rattle.cards.specs.Area.{part_word}
use Rattle.row.specs.Words.{join_rows, start_row, all_bits, kept_marks, words_of}
use Rattle.row.specs.declared.words.Row.{Row}
use Rattle.writer.specs.Card.{flags_of, row_numbers}
use Rattle.writer.specs.Block.{with_block}

-- the card of every member is in the area
abbrev pub MembersIn : List ℕ → List ℕ → Type 0
MembersIn area ms = (i : ℕ) → i < length ms → card_words * get_or ms i 0 + card_words ≤ length area

-- block k of a column of member m's card
abbrev pub member_column : List ℕ → ℕ → ℕ → CardColumn → ℕ
member_column area k m column = part_word area m (first_word column + k)

-- the row of member m in block k. The lowest bits of the first two words are its flags
abbrev pub member_row : List ℕ → ℕ → ℕ → Row
member_row area k m =
    record {
      run = part_word area m 0;
      empty = part_word area m 0 / 2;
      last =
          record {
            present = member_column area k m may_set;
            absent = member_column area k m may_clear;
            untouched = member_column area k m may_last_untouched;
          };
      first =
          record {
            present = member_column area k m may_need;
            absent = member_column area k m may_first_set;
            untouched = member_column area k m may_first_untouched;
          };
      cleared = member_column area k m may_end_cleared;
      unmentioned = member_column area k m may_end_unmentioned;
    }

-- one list followed by another
abbrev pub followed_row : Row → Row → Row
followed_row x y =
    record {
      run = bit_and x.run y.run;
      empty = (join_rows x y).empty;
      last = (join_rows x y).last;
      first = (join_rows x y).first;
      cleared = (join_rows x y).cleared;
      unmentioned = (join_rows x y).unmentioned;
    }

-- the row after the members in block k, where that of what stands before them is x
unfoldable pub folded_from : List ℕ → ℕ → Row → List ℕ → Row
folded_from area k x [] = x
folded_from area k x (m ∷ ms) = folded_from area k (followed_row x (member_row area k m)) ms

-- the row of a list in block k
abbrev pub list_row : List ℕ → ℕ → List ℕ → Row
list_row area k ms = folded_from area k (start_row all_bits) ms

-- the row of the facts in `all`, for each of which a run exists
abbrev pub kept_row : Row → ℕ → Row
kept_row x all =
    record {
      run = all;
      empty = x.empty;
      last = kept_marks x.last all;
      first = kept_marks x.first all;
      cleared = bit_and x.cleared all;
      unmentioned = bit_and x.unmentioned all;
    }

-- its numbers, with the flags of the row itself
abbrev pub row_written : Row → ℕ → List ℕ
row_written x all =
    set (row_numbers (words_of (kept_row x all))) 0 (flags_of x.run x.empty (bit_and x.last.present all) (bit_and x.last.absent all))

-- a card with block k of the row x written, if there is a run
abbrev pub row_added : ℕ → ℕ → Row → List ℕ → List ℕ
row_added facts k x card = cond (eqb (x.run % 2) 0) card (with_block k (row_written x (all_in facts k)) card)
