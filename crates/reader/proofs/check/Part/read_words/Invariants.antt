-- `reader::check::Part::read_words` meets its contract.
-- Assumes nothing.
use Rattle.reader.proofs.Walk.{Reading}
use Rattle.reader.proofs.check.Part.read_words.Given as goal

abbrev pub invariant-loop-i : goal.invariant-loop-i
invariant-loop-i l = Reading l.self.at l.self.head l.self.words.now l.initial.e l.from l.e l.i
