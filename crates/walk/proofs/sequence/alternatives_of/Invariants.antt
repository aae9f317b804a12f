-- `walk::sequence::alternatives_of` meets its contract: as many alternatives open before the word as were counted.
-- Assumes nothing.
use Rattle.walk.specs.Walk.{LastBefore}
use Rattle.walk.proofs.sequence.alternatives_of.Given as goal

abbrev pub invariant-loop-i : goal.invariant-loop-i
invariant-loop-i l = LastBefore l.part l.at l.count l.last l.i
