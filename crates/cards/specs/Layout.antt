-- The words of a card (document 01, "The card"; document 02, requests 4, 5 and 8): the flags, and after them the columns in their order, each in
-- as many words as a column takes.
use Rattle.std.specs.Prelude.{ℕ, ◌+◌, ◌-◌, ◌*◌, List, [], ◌∷◌, ◌++◌}
use Rattle.column.specs.Words.{words}

-- the columns of a card, each with its number: the flags have number 0
pub data CardColumn : Type 0 where
  always_needed may_need may_set may_clear always_set always_cleared always_stands : CardColumn
  may_first_set may_first_untouched may_last_untouched may_end_cleared may_end_unmentioned : CardColumn

abbrev pub place : CardColumn → ℕ
place always_needed = 1
place may_need = 2
place may_set = 3
place may_clear = 4
place always_set = 5
place always_cleared = 6
place always_stands = 7
place may_first_set = 8
place may_first_untouched = 9
place may_last_untouched = 10
place may_end_cleared = 11
place may_end_unmentioned = 12

-- the flags and the twelve columns, each a word before request 8: "Seven 64-bit words a sequence"; "A card gains an eighth word" (request 4); "A
-- card is then 13 words" (request 5)
abbrev pub card_numbers : ℕ
card_numbers = 13

-- "Each column takes four words, facts 0 to 63 first" (request 8)
abbrev pub column_words : ℕ
column_words = 4

-- how many facts a column has room for
abbrev pub column_width : ℕ
column_width = 256

-- "so a card is 49 words"
abbrev pub card_words : ℕ
card_words = 49

-- where the words of a column begin in a card: after the flags and the columns before it
abbrev pub first_word : CardColumn → ℕ
first_word k = 1 + column_words * (place k - 1)

-- the words of columns, one after the other
unfoldable pub columns_laid : List ℕ → List ℕ
unfolding words
columns_laid [] = []
columns_laid (x ∷ xs) = words column_words x ++ columns_laid xs

-- the words of a card, by its numbers: the flags, and then its columns
unfoldable pub laid : List ℕ → List ℕ
unfolding columns_laid
laid [] = []
laid (flags ∷ columns) = flags ∷ columns_laid columns
