-- Whether alternatives give a run, by a set of the sequences that are found to have one, in the form that the loops follow.
use Rattle.std.specs.Prelude.{◌≡◌, ℕ, ◌<◌, Bool, not, List, length, drop, slice_index}
use Rattle.general.specs.Scan.{every}
use Rattle.general.specs.Tests.{some}
use Rattle.image.specs.Word.{kind, payload, is_entry, most_sequences}
use Rattle.library.specs.Library.{Entry, Alternative, entries_from}
use Rattle.library.specs.Accepted.{HighEntry}
use Rattle.walk.specs.Walk.{names_none, walk_end}
use Rattle.callers.specs.Callers.{in_set}

-- "names a sequence not found to have one by then": a sequence that is not in the set
abbrev pub is_dead : List ℕ → Entry → Bool
is_dead runs = names_none (in_set runs)

-- the entries give a run where none of them is dead, by what is found of the sequences
abbrev pub gives_by : (ℕ → Bool) → Alternative → Bool
gives_by found es = every (λ e. not (names_none found e)) es

-- one of the alternatives gives a run
abbrev pub runs_by : (ℕ → Bool) → List Alternative → Bool
runs_by found alts = some (gives_by found) alts

-- a word of the sequences' part; one that names a sequence names one that has a bit
pub record RunWithin (w : ℕ) : Type 0 where
  pub high : HighEntry w
  pub sequence : kind w ≡ 9 → payload w < most_sequences

-- each of the words is one
pub record RunsReadable (part : List ℕ) : Type 0 where
  pub words : (i : ℕ) → i < length part → RunWithin (slice_index part i)

-- what a walk over the entries promises that stand from an index on: where it ended, and that they give a run where no entry stands there
pub record AlternativeWalked (runs part : List ℕ) (at r : ℕ) : Type 0 where
  pub ended : r ≡ walk_end (is_dead runs) part at
  pub gives : gives_by (in_set runs) (entries_from (drop at part)) ≡ not (is_entry (slice_index part r))
