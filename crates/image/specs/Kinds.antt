-- The kinds of words by their numbers, as the documents give them.
use Rattle.std.specs.Prelude.{ℕ}
use Rattle.image.specs.declared.word.Kind.{Kind}
use Rattle.image.specs.declared.word.Kind.TheVariants.{Head, Needs, Sets, Clears, Step, Sequence, Alternative, StepEntry, SequenceEntry, Choice, Position, Untouched, Check, Sum}

-- document 01, "The image", and document 02: the kinds of an image's words and of a chain's links
abbrev pub kind_number : Kind → ℕ
kind_number Head = 1
kind_number Needs = 2
kind_number Sets = 3
kind_number Clears = 4
kind_number Step = 5
kind_number Sequence = 6
kind_number Alternative = 7
kind_number StepEntry = 8
kind_number SequenceEntry = 9
kind_number Choice = 10
kind_number Position = 11
kind_number Untouched = 12
kind_number Check = 13
kind_number Sum = 15
