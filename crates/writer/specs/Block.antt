-- A block of 64 facts written into the cards of an area, in the form that the code follows: of each column the block's word, and the count of its
-- changeable facts added to that of the blocks before.
use Rattle.std.specs.Prelude.{ℕ, zero, suc, ◌+◌, ◌*◌, ◌/◌, ◌%◌, ◌^◌, List, [], ◌∷◌, ◌++◌, take, drop, slice_index, slice_set}
use Rattle.cards.specs.Layout.{column_words, card_words}
use Rattle.row.specs.Words.{row_words}
use Rattle.writer.specs.Card.{row_numbers}

-- numbers written from a word on, each as far from the one before as columns are apart
unfoldable pub columnwise : List ℕ → ℕ → List ℕ → List ℕ
columnwise part at [] = part
columnwise part at (x ∷ xs) = columnwise (slice_set part at x) (at + column_words) xs

-- the flags of a block with the count of the blocks before added: it stands from bit 8 on. No card has as many facts as would pass a word
-- (`block_written`, proofs/Blocks)
abbrev pub with_count : ℕ → ℕ → ℕ
with_count before flags = (before / 2 ^ 8 * 2 ^ 8 + flags) % 2 ^ 64

-- a card with block k written, by the block's numbers
unfoldable pub with_block : ℕ → List ℕ → List ℕ → List ℕ
unfolding columnwise
with_block k numbers part = columnwise (slice_set part 0 (with_count (slice_index part 0) (slice_index numbers 0))) (1 + k) (drop 1 numbers)

-- row c of a table, and part c of a card area
abbrev pub row_at : List ℕ → ℕ → List ℕ
row_at table c = take row_words (drop (row_words * c) table)

abbrev pub part_at : List ℕ → ℕ → List ℕ
part_at area c = take card_words (drop (card_words * c) area)

-- the cards of n sequences from sequence c on with block k written, each by its row
unfoldable pub cards_with : ℕ → List ℕ → List ℕ → ℕ → ℕ → List ℕ
unfolding with_block row_numbers
cards_with k table area c zero = []
cards_with k table area c (suc n) = with_block k (row_numbers (row_at table c)) (part_at area c) ++ cards_with k table area (suc c) n
