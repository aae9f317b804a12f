-- `link::write::Chooser::write_chain` meets its contract: the answer by the rank, in its area.
-- Assumes nothing.
use mathlib.Core.Path.{refl}
use Rattle.link.proofs.Writing.{answered_untouched, answered_links}
use Rattle.link.proofs.write.Chooser.write_chain.Goals as goal

pub returns-in-Untouched : goal.returns-in-Untouched
returns-in-Untouched c =
    answered_untouched _ _ _ _ _ _ _ _ _ _ _ c.requires.1 refl c.shown_links-count.ensures c.in-Untouched.is c.write_untouched.ensures

pub returns-in_default : goal.returns-in_default
returns-in_default c =
    answered_links _ _ _ _ _ _ _ _ _ _ _ c.requires.1 refl c.shown_links-count.ensures c.in_default.not-Untouched c.write_links.ensures
