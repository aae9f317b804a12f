-- What every call starts from: the tables that are made of an accepted image, and the areas that are lent for them.
use Rattle.std.specs.Prelude.{ℕ, ◌*◌, ◌≤◌, ◌≡◌, Bool, ◌&&◌, List, ◌++◌, length, take, drop, leb}
use Rattle.library.specs.Library.{sequences_part}
use Rattle.library.specs.Tables.{mask_words, places_from}
use Rattle.general.specs.Numbers.{Zeros, Complete}
use Rattle.callers.specs.Callers.{CallersWritten}
use Rattle.image.specs.declared.answer.Head.{Head}

-- the steps and the sequences that small areas have room for
abbrev pub small_steps : ℕ
small_steps = 64

abbrev pub small_sequences : ℕ
small_sequences = 32

-- the head counts no more
abbrev pub is_small : Head → Bool
is_small h = leb h.steps small_steps && leb h.sequences small_sequences

-- what the masks of the steps ask beside an accepted image: room for three words a step
pub record MasksAsked (h : Head) (ms : List ℕ) : Type 0 where
  pub room : mask_words * h.steps ≤ length ms

-- what the other tables ask beside an accepted image: room for a place of each sequence, four words a sequence for its callers, and a number of each
-- sequence. The sets of callers are blank
pub record TablesAsked (h : Head) (ps callers order : List ℕ) : Type 0 where
  pub places_room : h.sequences ≤ length ps
  pub callers_room : 4 * h.sequences ≤ length callers
  pub callers_blank : Zeros callers
  pub order_room : h.sequences ≤ length order

-- what is written, from the areas before on: the places are those of the library's sequences, and words past them stay; each sequence is among
-- the callers of those that it calls, and of no other; the order names each sequence
pub record Prepared (h : Head) (image ps₀ ps callers order : List ℕ) : Type 0 where
  pub placed : ps ≡ places_from 0 (sequences_part image) ++ drop h.sequences ps₀
  pub called : CallersWritten h.sequences (sequences_part image) ps callers
  pub complete : Complete (take h.sequences order) h.sequences
