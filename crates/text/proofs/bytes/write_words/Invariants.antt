-- `text::bytes::write_words` meets its contract: so many words stand in front, and those after them stay.
-- Assumes nothing.
use Rattle.std.proofs.Common.{◌≡◌}
use Rattle.std.proofs.Math.Seq.{paste}
use Rattle.text.specs.Words.{words_of}
use Rattle.text.proofs.bytes.write_words.Given as goal

abbrev pub invariant-loop-i : goal.invariant-loop-i
invariant-loop-i l = l.words ≡ paste l.initial.words 0 (words_of l.bytes) l.i
