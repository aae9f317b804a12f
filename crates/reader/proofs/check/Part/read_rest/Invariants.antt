-- `reader::check::Part::read_rest` meets its contract.
-- Assumes nothing.
use Rattle.reader.proofs.Walk.{Fours}
use Rattle.reader.proofs.check.Part.read_rest.Given as goal

abbrev pub invariant-loop-next : goal.invariant-loop-next
invariant-loop-next l = Fours l.self.head l.self.words.now l.last l.at l.before l.next
