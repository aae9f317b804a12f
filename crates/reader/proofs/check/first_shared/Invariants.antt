-- `reader::check::first_shared` meets its contract: what the set words passed by name is less than what the clear words left name.
-- Assumes nothing.
use Prim.Native.Nat.{◌+◌, ◌-◌}
use Rattle.reader.proofs.Facts.{Merging}
use Rattle.reader.proofs.check.first_shared.Given as goal

abbrev pub invariant-loop-i : goal.invariant-loop-i
invariant-loop-i l = Merging l.part l.sets l.clears l.end l.i l.j

abbrev pub decreases-loop-i : goal.decreases-loop-i
decreases-loop-i l = (l.clears - l.i) + (l.end - l.j)
