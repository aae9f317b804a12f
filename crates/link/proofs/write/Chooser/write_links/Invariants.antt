-- `link::write::Chooser::write_links` meets its contract: the links so far, and those that are left, are the whole chain.
-- Assumes nothing.
use Prim.Native.Nat.{◌-◌, ◌*◌}
use Rattle.question.specs.Answer.{link_length}
use Rattle.link.proofs.Writing.{Writing}
use Rattle.link.proofs.write.Chooser.write_links.Given as goal

abbrev pub invariant-loop-i : goal.invariant-loop-i
invariant-loop-i l = Writing l.self.by.q.none l.self.by.ahead.now l.self.by.behind.now l.self.by.ranks.now l.self.by.part.now l.self.places.now l.initial.area l.count l.c l.area (l.count - l.i) l.d (link_length * l.i)
