-- The visits of the set of sequences with a run: a visit of a sequence puts it in where one of its alternatives gives a run.
use Rattle.std.specs.Prelude.{ℕ, ◌<◌, ◌≤◌, cond, not, ◌&&◌, List, length, slice_index}
use Rattle.general.specs.Scan.{passing}
use Rattle.image.specs.Word.{most_sequences}
use Rattle.walk.specs.Walk.{alternatives_at}
use Rattle.callers.specs.Callers.{in_set, with_member}
use Rattle.running.specs.Runs.{runs_by, RunsReadable}

-- how many numbers are not in the set: what falls while it grows
unfoldable pub lacking : List ℕ → ℕ
unfolding passing
lacking runs = length (passing (λ c. not (in_set runs c)) most_sequences)

-- what visits of the sequences below n go by: the words of the sequences' part, and a place in it for each
pub record RunsVisitable (n : ℕ) (part places : List ℕ) : Type 0 where
  pub readable : RunsReadable part
  pub few : n ≤ most_sequences
  pub placed : n ≤ length places
  pub within : (c : ℕ) → c < n → slice_index places c < length part

-- the set after a visit of sequence c
abbrev pub visited : List ℕ → List ℕ → List ℕ → ℕ → List ℕ
visited part places runs c =
    cond (not (in_set runs c) && runs_by (in_set runs) (alternatives_at part places c)) (with_member runs c) runs
