-- What filling the cards asks, and a block of them, in the form that the code follows.
use Rattle.std.specs.Prelude.{ℕ, ◌*◌, ◌^◌, ◌≤◌, List, ◌++◌, length, drop}
use Rattle.rules.specs.Checked.{Accepts}
use Rattle.library.specs.Library.{Library}
use Rattle.image.specs.declared.answer.Head.{Head}
use Rattle.callers.specs.Callers.{set_words}
use Rattle.library.specs.Tables.{mask_words}
use Rattle.row.specs.Words.{row_words}
use Rattle.cards.specs.Layout.{card_words}
use Rattle.outcome.specs.Area.{outcomes, BlockGiven}
use Rattle.writer.specs.Block.{cards_with}

-- what the cards ask: an accepted image, and room for them
pub record FillAsked (h : Head) (image area : List ℕ) : Type 0 where
  pub accepted : Accepts image h
  pub room : card_words * h.sequences ≤ length area

-- what a block of the cards asks: what it is worked out from, and room for the cards
pub record BlockAsked (h : Head) (image : List ℕ) (k : ℕ) (ps callers order area : List ℕ) : Type 0 where
  pub given : BlockGiven h image k ps callers order
  pub room : card_words * h.sequences ≤ length area

-- no area for a table has more words
abbrev pub most_area : ℕ
most_area = 2 ^ 16

-- areas with the room for a place of each sequence, and for the sets of their callers
pub record Room (h : Head) (p s : ℕ) : Type 0 where
  pub places : h.sequences ≤ p
  pub callers : set_words * h.sequences ≤ s
  pub places_few : p ≤ most_area
  pub callers_few : s ≤ most_area

-- areas with the room for the masks of each step, for a row of each step and for one of each sequence
pub record BlockRoom (h : Head) (m s r : ℕ) : Type 0 where
  pub masks : mask_words * h.steps ≤ m
  pub steps : row_words * h.steps ≤ s
  pub rows : row_words * h.sequences ≤ r
  pub masks_few : m ≤ most_area
  pub steps_few : s ≤ most_area
  pub rows_few : r ≤ most_area

-- the area with block k of n cards written, by the outcome table of the block
abbrev pub block_filled : Library → ℕ → ℕ → List ℕ → List ℕ
block_filled L k n area = cards_with k (outcomes L k) area 0 n ++ drop (card_words * n) area
