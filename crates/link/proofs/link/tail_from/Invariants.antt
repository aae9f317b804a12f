-- `link::link::tail_from` meets its contract: the walk over the entries that are left gives the index that the whole walk gives.
-- Assumes nothing.
use Rattle.library.specs.Library.{entries_from}
use Rattle.walk.proofs.Walking.{Folding}
use Rattle.rank.specs.Walk.{tail_from}
use Rattle.slot.specs.Slots.{pass_in}
use Rattle.link.proofs.link.tail_from.Given as goal

abbrev pub invariant-loop-i : goal.invariant-loop-i
invariant-loop-i l = Folding l.words (tail_from (pass_in l.none l.behind) 0 0 (entries_from l.words)) 0 (tail_from (pass_in l.none l.behind) l.i l.start) l.i
