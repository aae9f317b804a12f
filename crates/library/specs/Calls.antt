-- Which sequences alternatives call, as a test.
use Rattle.std.specs.Prelude.{ℕ, Bool, false, List, eqb}
use Rattle.general.specs.Tests.{some}
use Rattle.library.specs.Library.{Entry, item, call, Alternative}

-- the entry calls sequence d
abbrev pub is_call_of : ℕ → Entry → Bool
is_call_of d (item i) = false
is_call_of d (call e) = eqb e d

-- an entry of one of the alternatives does
abbrev pub calls_of : List Alternative → ℕ → Bool
calls_of alts d = some (some (is_call_of d)) alts
