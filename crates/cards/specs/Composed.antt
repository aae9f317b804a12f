-- The card of a list of sequences, from F and the cards of an area alone, whatever its words are (document 02, request 5, "The composition").
-- What the words mean where the area holds a library's cards is shown in `proofs/Added`; here each is what the request says it is.
use Rattle.std.specs.Prelude.{ℕ, ◌+◌, ◌*◌, ◌^◌, min, Bool, false, not, cond, ◌&&◌, ◌||◌, List, [], ◌∷◌}
use mir.Val.{bool_byte}
use Rattle.column.specs.Column.{column, all_below}
use Rattle.column.specs.Sets.{in_column, count_below}
use Rattle.general.specs.Scan.{every}
use Rattle.cards.specs.Layout.{CardColumn, always_needed, may_need, may_set, may_clear, always_set, always_cleared, always_stands}
use Rattle.cards.specs.Layout.{may_first_set, may_first_untouched, may_last_untouched, may_end_cleared, may_end_unmentioned}
use Rattle.cards.specs.Layout.{column_width, laid}
use Rattle.cards.specs.Area.{part_word, part_has}

-- "A test is a list of up to 256 sequences"
abbrev pub most_list : ℕ
most_list = 256

-- ---- the members

-- "the two flag bits" of member m
abbrev pub has_run : List ℕ → ℕ → Bool
has_run area m = in_column (part_word area m 0) 0

abbrev pub has_empty_run : List ℕ → ℕ → Bool
has_empty_run area m = in_column (part_word area m 0) 1

-- the bit of fact f in column k of member m
abbrev pub has : List ℕ → ℕ → CardColumn → ℕ → Bool
has area f k m = part_has area m k f

-- ---- the rule

-- "where one has it and every later member has .. [the other bit]"
unfoldable pub one_then_all : (ℕ → Bool) → (ℕ → Bool) → List ℕ → Bool
unfolding every
one_then_all one rest [] = false
one_then_all one rest (m ∷ ms) = one m && every rest ms || one_then_all one rest ms

-- "(earlier on the first side)": where one has it and every earlier member has the other bit
unfoldable pub all_then_one : (ℕ → Bool) → (ℕ → Bool) → List ℕ → Bool
all_then_one one rest [] = false
all_then_one one rest (m ∷ ms) = one m || rest m && all_then_one one rest ms

module _ (area ms : List ℕ) (f : ℕ) where
  -- "a flag, untouched or "no such item" bit where all members have it"
  abbrev all_have : CardColumn → Bool
  all_have k = every (has area f k) ms

  -- "another "some" bit where one has it and every later member .. has that side's untouched bit": the last side
  abbrev last_has : CardColumn → Bool
  last_has k = one_then_all (has area f k) (has area f may_last_untouched) ms

  -- "(earlier on the first side)": the first side
  abbrev first_has : CardColumn → Bool
  first_has k = all_then_one (has area f k) (has area f may_first_untouched) ms

  -- "or for the fourth new column the "no such item" bit"
  abbrev end_has : CardColumn → Bool
  end_has k = one_then_all (has area f k) (has area f may_end_unmentioned) ms

  -- the bit of fact f in column k of the list's card
  abbrev pub list_has : CardColumn → Bool
  list_has may_need = first_has may_need
  list_has may_set = last_has may_set
  list_has may_clear = last_has may_clear
  list_has may_first_set = first_has may_first_set
  list_has may_first_untouched = all_have may_first_untouched
  list_has may_last_untouched = all_have may_last_untouched
  list_has may_end_cleared = end_has may_end_cleared
  list_has may_end_unmentioned = all_have may_end_unmentioned
  -- "an "always" bit .. where no rival outcome holds"
  list_has always_needed = not (first_has may_first_set || all_have may_first_untouched)
  list_has always_set = not (last_has may_clear || all_have may_last_untouched)
  list_has always_cleared = not (last_has may_set || all_have may_last_untouched)
  list_has always_stands = not (end_has may_end_cleared || all_have may_end_unmentioned)

-- ---- the numbers

-- "drops bits from F upward (none if F passes the column's width)"
abbrev pub kept : ℕ → ℕ
kept facts = min facts column_width

-- column k of the list's card, the bits below F only
unfoldable pub list_column : ℕ → List ℕ → List ℕ → CardColumn → ℕ
unfolding column in_column every one_then_all all_then_one
list_column facts area ms k = column (kept facts) (λ (f : ℕ). list_has area ms f k)

-- "the count from its own columns": the number of facts that are in "may set" or in "may clear"
unfoldable pub list_count : ℕ → List ℕ → List ℕ → ℕ
unfolding count_below in_column every one_then_all all_then_one
list_count facts area ms = count_below (kept facts) (λ (f : ℕ). list_has area ms f may_set || list_has area ms f may_clear)

-- "a flag .. bit where all members have it"
unfoldable pub list_flags : ℕ → List ℕ → List ℕ → ℕ
unfolding list_count in_column every
list_flags facts area ms = bool_byte (every (has_run area) ms) + 2 * bool_byte (every (has_empty_run area) ms) + 2 ^ 8 * list_count facts area ms

abbrev pub blank_numbers : List ℕ
blank_numbers = 0 ∷ 0 ∷ 0 ∷ 0 ∷ 0 ∷ 0 ∷ 0 ∷ 0 ∷ 0 ∷ 0 ∷ 0 ∷ 0 ∷ 0 ∷ []

-- the numbers in their order
unfoldable pub composed_numbers : ℕ → List ℕ → List ℕ → List ℕ
unfolding list_flags list_column
composed_numbers facts area ms =
    list_flags facts area ms ∷ list_column facts area ms always_needed ∷ list_column facts area ms may_need ∷ list_column facts area ms may_set
    ∷ list_column facts area ms may_clear ∷ list_column facts area ms always_set ∷ list_column facts area ms always_cleared
    ∷ list_column facts area ms always_stands ∷ list_column facts area ms may_first_set ∷ list_column facts area ms may_first_untouched
    ∷ list_column facts area ms may_last_untouched ∷ list_column facts area ms may_end_cleared ∷ list_column facts area ms may_end_unmentioned ∷ []

-- "blank unless every member has a run"
unfoldable pub list_numbers : ℕ → List ℕ → List ℕ → List ℕ
unfolding composed_numbers in_column every
list_numbers facts area ms = cond (every (has_run area) ms) (composed_numbers facts area ms) blank_numbers

-- the list's card, in words
unfoldable pub list_card : ℕ → List ℕ → List ℕ → List ℕ
unfolding list_numbers laid
list_card facts area ms = laid (list_numbers facts area ms)

-- "The empty list has just the empty run.": every fact below F is untouched on both sides, and no item mentions it. The rule says so
-- (`list_none`, proofs/Added)
abbrev pub empty_list_numbers : ℕ → List ℕ
empty_list_numbers facts =
    3 ∷ 0 ∷ 0 ∷ 0 ∷ 0 ∷ 0 ∷ 0 ∷ 0 ∷ 0 ∷ all_below column_width facts ∷ all_below column_width facts ∷ 0 ∷ all_below column_width facts ∷ []
