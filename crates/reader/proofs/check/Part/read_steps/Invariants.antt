-- `reader::check::Part::read_steps` meets its contract.
-- Assumes nothing.
use Rattle.std.proofs.Common.{◌-◌, length}
use Rattle.reader.proofs.Walk.{Reading, begun}
use Rattle.reader.proofs.check.Part.read_steps.Given as goal

abbrev pub invariant-loop-i : goal.invariant-loop-i
invariant-loop-i l = Reading l.self.at l.self.head l.self.words.now (begun l.first) 0 l.e l.i

abbrev pub decreases-loop-i : goal.decreases-loop-i
decreases-loop-i l = length l.self.words.now - l.i
