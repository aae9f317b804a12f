-- `reader::check::Part::read_kind` meets its contract.
-- Assumes nothing.
use Rattle.image.specs.Kinds.{kind_number}
use Rattle.reader.proofs.Facts.{KindLoop}
use Rattle.reader.proofs.check.Part.read_kind.Given as goal

abbrev pub invariant-loop-next : goal.invariant-loop-next
invariant-loop-next l = KindLoop l.self.head l.self.words.now (kind_number l.fn.kind) l.at l.fingerprint l.low l.next
