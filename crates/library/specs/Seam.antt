-- The seam of the two parts of an image in the form that a loop follows: which words were passed without an opener of a sequence.
use Rattle.std.specs.Prelude.{ℕ, ◌+◌, ◌≤◌, ◌≡◌, false, List, length, drop}
use Rattle.image.specs.Word.{is_kind}
use Rattle.image.specs.Fours.{AllFour}
use Rattle.library.specs.Library.{before_sequences}

-- the first i of the words were passed, and none of them opens a sequence
pub record Passed (ws : List ℕ) (i : ℕ) : Type 0 where
  pub within : i ≤ length ws
  pub before : length (before_sequences ws) ≡ i + length (before_sequences (drop i ws))

-- none of the four words from index i on opens a sequence
abbrev pub NoneOpens : List ℕ → ℕ → Type 0
NoneOpens = AllFour (λ w. is_kind 6 w ≡ false)
