-- What the writers of the text ask, and what they put one in front of the other.
use Rattle.std.specs.Prelude.{ℕ, zero, suc, ◌+◌, ◌*◌, ◌-◌, ◌≤◌, ◌≡◌, List, [], ◌++◌, length, get_or, ltb, Result, Ok}
use Rattle.general.specs.Scan.{last_index, list_below}
use Rattle.text.specs.Number.{digits_in}
use Rattle.image.specs.declared.answer.Refusal.{Refusal}
use Rattle.cards.specs.Layout.{card_numbers, column_words, card_words}
use Rattle.cards.specs.Area.{part_number}
use Rattle.text.specs.declared.area.Text.{Text}

-- the highest word that is not 0, word 0 where there is none
unfoldable pub highest_word : List ℕ → ℕ
unfolding last_index
highest_word ws = last_index (λ (i : ℕ). ltb 0 (get_or ws i 0)) 0 (length ws)

-- how many hexadecimal digits a word has
abbrev pub word_digits : ℕ
word_digits = 16

-- all digits of each word below word n, those of the highest first
unfoldable pub digits_below : List ℕ → ℕ → List ℕ
digits_below ws zero = []
digits_below ws (suc n) = digits_in 16 word_digits (get_or ws n 0) ++ digits_below ws n

-- the numbers of sequence c's card in a card area: the flags and the columns
unfoldable pub numbers_of : List ℕ → ℕ → List ℕ
unfolding list_below
numbers_of area c = list_below (part_number area c) card_numbers

-- the most bytes of a number of n words: a space, and the digits of each
abbrev pub number_bytes : ℕ → ℕ
number_bytes n = 1 + word_digits * n

-- the most bytes of the numbers of a card
abbrev pub numbers_bytes : ℕ
numbers_bytes = number_bytes 1 + number_bytes column_words * (card_numbers - 1)

-- the most bytes of a card's line: ten digits, the numbers and the end of the line
abbrev pub line_bytes : ℕ
line_bytes = 10 + numbers_bytes + 1

-- the most bytes of a refusal's line: its two texts, two numbers of twenty digits and the end of the line
abbrev pub refusal_bytes : ℕ
refusal_bytes = 53

-- the most lines, and the most bytes of so many
abbrev pub most_lines : ℕ
most_lines = 160

abbrev pub text_bytes : ℕ
text_bytes = line_bytes * most_lines

-- what the writer of an answer asks: the words of the cards of so many sequences, and room in front of the text
pub record AnswerAsked (text : Text) (found : Result ℕ Refusal) (words : List ℕ) : Type 0 where
  pub filled : (n : ℕ) → found ≡ Ok n → (n ≤ most_lines) × (card_words * n ≤ length words)
  pub room : text_bytes ≤ text.begin
