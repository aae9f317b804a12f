-- The cards in an area: where each card stands, and the cards of a library as one list of words.
use Rattle.std.specs.Prelude.{ℕ, zero, suc, ◌+◌, ◌*◌, ◌/◌, ◌%◌, ◌^◌, ◌<◌, ◌≡◌, Bool, List, length, get_or, take, drop}
use Rattle.column.specs.Sets.{in_column}
use Rattle.column.specs.Words.{number}
use Rattle.general.specs.Tests.{All}
use Rattle.library.specs.Library.{Library}
use Rattle.cards.specs.Layout.{CardColumn, first_word, column_words, card_words}
use Rattle.cards.specs.Meaning.{Card}

-- word i of sequence c's own part of a card area
abbrev pub part_word : List ℕ → ℕ → ℕ → ℕ
part_word area c i = get_or area (card_words * c + i) 0

-- "Each column takes four words, facts 0 to 63 first" (document 02, request 8): fact f is in column k of sequence c's card
abbrev pub part_has : List ℕ → ℕ → CardColumn → ℕ → Bool
part_has area c k f = in_column (part_word area c (first_word k + f / 64)) (f % 64)

-- number k of sequence c's card in a card area: the flags, or the column that its words are
abbrev pub part_number : List ℕ → ℕ → ℕ → ℕ
part_number area c zero = part_word area c 0
part_number area c (suc k) = number (take column_words (drop (card_words * c + 1 + column_words * k) area))

-- so many "64-bit words a sequence, sequence 0 first": the words are the cards of all sequences
pub record AllCards (L : Library) (words : List ℕ) : Type 0 where
  pub long : length words ≡ card_words * length L.sequences
  pub narrow : All (λ (w : ℕ). w < 2 ^ 64) words
  pub card : (c : ℕ) → c < length L.sequences → Card L c (part_number words c)
