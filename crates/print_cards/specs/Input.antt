-- What reading the input promises.
use Rattle.std.specs.Prelude.{ℕ, ◌≤◌, ◌<◌, List, length, take, Result, Ok, Err}
use Rattle.std.specs.Io.KnownBytes.{Consumes, IsAtEnd}
use Rattle.std.specs.declared.option.Option.{Option}
use Rattle.print_cards.specs.declared.Failure.{Failure}

-- the bytes read are no more than there is room for
abbrev pub InputWithin : Result ℕ Failure → ℕ → Type 0
InputWithin (Ok n) room = n ≤ room
InputWithin (Err e) room = Unit {0}

-- the bytes read are what the reader had first, and all that it had where there is room left
abbrev pub InputRead : Option (List ℕ) → Option (List ℕ) → Result ℕ Failure → List ℕ → Type 0
InputRead before after (Ok n) area = Consumes before after (take n area) × (n < length area → IsAtEnd after)
InputRead before after (Err e) area = Unit {0}
