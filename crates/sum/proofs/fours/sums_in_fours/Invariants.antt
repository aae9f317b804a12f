-- `sum::fours::sums_in_fours` meets its contract. The invariant: the lanes have the words so far, and with the words to come their sums
-- are those of all.
-- Assumes nothing.
use Rattle.std.proofs.Common.{◌≡◌}
use Rattle.sum.proofs.Lanes.{InFours}
use Rattle.sum.proofs.fours.sums_in_fours.Given as goal

abbrev pub invariant-loop-four : goal.invariant-loop-four
invariant-loop-four l = (l.four-iterator.size ≡ 4) × InFours l.words l.a l.b l.c l.d l.four-iterator.rest.now
