-- `link::link::chosen_alternative` meets its contract: the newest of the alternatives before the opener is the newest of all.
-- Assumes nothing.
use lib.Dec.{leb}
use Rattle.library.specs.Library.{Alternative}
use Rattle.rank.specs.Tables.{depth_in}
use Rattle.link.proofs.Choices.{Seeking}
use Rattle.link.proofs.link.chosen_alternative.Given as goal

abbrev pub invariant-loop-alternative : goal.invariant-loop-alternative
invariant-loop-alternative l = Seeking (λ (es : Alternative). leb (depth_in l.by.none l.by.ranks.now es) l.k) l.by.part.now l.at l.alternative l.opener
