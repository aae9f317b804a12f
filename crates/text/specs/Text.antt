-- A text in a lent area, written from its end to its start.
use Rattle.std.specs.Prelude.{ℕ, ◌+◌, ◌≤◌, ◌≡◌, List, ◌++◌, length, drop}
use Rattle.text.specs.declared.area.Text.{Text}

-- In area₀ a text begins at `at`. In `area` it begins at `start`, with `new` in front of what there was.
pub record InFront (area₀ : List ℕ) (at : ℕ) (area : List ℕ) (start : ℕ) (new : List ℕ) : Type 0 where
  pub long : length area ≡ length area₀
  pub room : start + length new ≡ at
  pub text : drop start area ≡ new ++ drop at area₀

-- `new` is put in front of the text, in the same area
pub record Put (before : Text) (new : List ℕ) (after : Text) : Type 0 where
  pub same_reference : after.area.ghost_name ≡ before.area.ghost_name
  pub front : InFront before.area.now before.begin after.area.now after.begin new

-- the same, where the new part has no more bytes than a bound
pub record PutWithin (most : ℕ) (before : Text) (new : List ℕ) (after : Text) : Type 0 where
  pub put : Put before new after
  pub within : before.begin ≤ after.begin + most

-- what a writer of k digits asks: a base with digits, and room in front of the text
pub record DigitsAsked (before : Text) (b k : ℕ) : Type 0 where
  pub low : 2 ≤ b
  pub high : b ≤ 16
  pub room : k ≤ before.begin
