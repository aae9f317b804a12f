-- `reader::check::Part::read_body` meets its contract.
-- Assumes nothing.
use Rattle.std.proofs.Common.{◌-◌, length}
use Rattle.rules.specs.Quick.{with_last}
use Rattle.reader.specs.Readers.{Read}
use Rattle.reader.proofs.check.Part.read_body.Given as goal

abbrev pub invariant-loop-body : goal.invariant-loop-body
invariant-loop-body l = Read l.self.head l.self.words.now l.e l.at (with_last l.e l.body.last) l.body.next

abbrev pub decreases-loop-body : goal.decreases-loop-body
decreases-loop-body l = length l.self.words.now - l.body.next
