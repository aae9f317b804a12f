-- `library::parts::first_sequence` meets its contract: none of the words that were passed opens a sequence.
-- Assumes nothing.
use Rattle.library.specs.Seam.{Passed}
use Rattle.library.proofs.parts.first_sequence.Given as goal

abbrev pub invariant-loop-i : goal.invariant-loop-i
invariant-loop-i l = Passed l.words l.i
