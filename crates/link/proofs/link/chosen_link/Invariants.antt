-- `link::link::chosen_link` meets its contract: the newest of the alternatives before the opener is the newest of all, and the entries that are
-- left give the position that all of them give.
-- Assumes nothing.
use Rattle.link.proofs.Choices.{Placing, Choosing}
use Rattle.link.proofs.link.chosen_link.Given as goal

abbrev pub invariant-loop-position : goal.invariant-loop-position
invariant-loop-position l = Placing l.by.q.none l.by.ahead.now l.by.behind.now l.by.ranks.now l.k l.words l.ok l.position

abbrev pub invariant-loop-alternative : goal.invariant-loop-alternative
invariant-loop-alternative l = Choosing l.by.q.none l.by.ahead.now l.by.behind.now l.by.ranks.now l.k l.by.part.now l.at l.alternative l.opener
