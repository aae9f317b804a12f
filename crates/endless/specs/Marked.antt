-- What the endless call knows of an accepted image before it looks for a list.
use Rattle.std.specs.Prelude.{ℕ, ◌≤◌, List, length}
use Rattle.image.specs.declared.answer.Head.{Head}
use Rattle.running.specs.Written.{RunningWritten}

-- the places of an accepted image's sequences, and which of them have a run, in areas with room
pub record Marked (h : Head) (image places runs : List ℕ) : Type 0 where
  pub before : List ℕ
  pub written : RunningWritten h image before places runs
  pub room : h.sequences ≤ length places
