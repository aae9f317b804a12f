-- `walk::sequence::opener_before` meets its contract: the words gone back over open no alternative.
-- Assumes nothing.
use Rattle.std.proofs.Common.{◌≡◌}
use Rattle.walk.specs.Walk.{opener_before}
use Rattle.walk.proofs.sequence.opener_before.Given as goal

abbrev pub invariant-loop-i : goal.invariant-loop-i
invariant-loop-i l = opener_before l.part l.i ≡ opener_before l.part l.end
