-- `link::write::Chooser::write_links` meets its contract: the links so far, and those that are left, are the whole chain.
-- Assumes nothing.
use native.Mathlib.Omega.{arith}
use Rattle.link.proofs.Writing.{writing_next, writing_end}
use Rattle.link.proofs.write.Chooser.write_links.Goals as goal

pub loop-i-preserved : goal.loop-i-preserved
loop-i-preserved c =
    writing_next _ _ _ _ _ _ _ _ _ c.requires.0 _ _ _ _ c.loop-i.invariant _ _ _ _ (omega (arith, c.loop-i-test.true)) (omega arith) (omega arith)
    c.after_opener.ensures c.chosen_link-link.ensures c.put_link.ensures

pub returns : goal.returns
returns c = writing_end _ _ _ _ _ _ _ _ _ c.requires.0 _ _ _ _ c.loop-i.invariant (omega arith)
