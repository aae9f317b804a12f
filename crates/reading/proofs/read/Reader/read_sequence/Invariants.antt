-- `reading::read::Reader::read_sequence` meets its contract: what is united so far, with the alternatives to come, is the whole sequence.
-- Assumes nothing.
use Prim.Native.Nat.{◌-◌}
use lib.ListN.{length, drop}
use Rattle.library.specs.Library.{alternatives_from}
use Rattle.walk.proofs.Walking.{Walking}
use Rattle.row.specs.Words.{no_row}
use Rattle.reading.specs.Walks.{united_from}
use Rattle.reading.proofs.read.Reader.read_sequence.Given as goal

abbrev pub invariant-loop-i : goal.invariant-loop-i
invariant-loop-i l =
    let s = l.self in
    let rest = united_from s.block s.steps.now s.table.now in
    Walking s.part.now (rest no_row (alternatives_from (drop l.at s.part.now))) (rest l.row) l.i

abbrev pub decreases-loop-i : goal.decreases-loop-i
decreases-loop-i l = length l.self.part.now - l.i
