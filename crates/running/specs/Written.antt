-- Which sequences of an accepted image have a run, as a set.
use Rattle.std.specs.Prelude.{◌≡◌, ℕ, ◌≤◌, List, ◌++◌, length, drop}
use Rattle.image.specs.declared.answer.Head.{Head}
use Rattle.library.specs.Library.{library_of, sequences_part}
use Rattle.library.specs.Tables.{places_from}
use Rattle.runs.specs.Possible.{has_run}
use Rattle.callers.specs.Callers.{in_set}

-- what is asked: room for a place of each sequence of an accepted image
pub record RunningAsked (h : Head) (places : List ℕ) : Type 0 where
  pub room : h.sequences ≤ length places

-- what is written: the places of the sequences, words past them stay; and "A sequence may have no run.": the set has just those numbers whose
-- sequence has one
pub record RunningWritten (h : Head) (image places₀ places runs : List ℕ) : Type 0 where
  pub placed : places ≡ places_from 0 (sequences_part image) ++ drop h.sequences places₀
  pub exact : (c : ℕ) → in_set runs c ≡ has_run (library_of image) c
