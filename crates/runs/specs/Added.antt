-- The library with one sequence more, whose one alternative names a list of sequences (document 02, request 5), and what is said of the
-- library before: that each sequence which an entry names is one of the library's.
use Rattle.std.specs.Prelude.{ℕ, ◌<◌, List, [], ◌∷◌, ◌++◌, map, length}
use Rattle.general.specs.Tests.{All}
use Rattle.library.specs.Library.{Library, Entry, item, call}

-- "an added sequence, limits aside, whose one alternative names the list". Limits aside: a library, unlike an image, may have any number of
-- sequences, and an alternative any number of entries.
abbrev pub with_list : Library → List ℕ → Library
with_list L ms = record { facts = L.facts; steps = L.steps; sequences = L.sequences ++ ((map call ms ∷ []) ∷ []) }

-- the number of the added sequence, which comes last
abbrev pub added_to : Library → ℕ
added_to L = length L.sequences

-- an entry that names a sequence names one below n
abbrev pub CallsBelow : ℕ → Entry → Type 0
CallsBelow n (item x) = Unit {0}
CallsBelow n (call c) = c < n

-- each sequence which an entry names is one of the library's: so it is with an accepted image's (`whole_counted`, proofs/Added)
abbrev pub Whole : Library → Type 0
Whole L = All (All (All (CallsBelow (length L.sequences)))) L.sequences
