-- `link::write::Chooser::write_untouched` meets its contract: the two words of one link, or none.
-- Assumes nothing.
use native.Mathlib.Omega.{arith}
use Rattle.link.proofs.Writing.{untouched_written}
use Rattle.link.proofs.write.Chooser.write_untouched.Goals as goal

pub returns-then-count-gt0 : goal.returns-then-count-gt0
returns-then-count-gt0 c =
    let by = c.args.self.now.by in
    let own = c.own.ensures in
    untouched_written by.q.none by.ranks.now by.part.now c.args.self.now.places.now c.args.c _ _ _ c.args.count c.args.area.now _ c.requires.2
    c.saturating_sub-k.ensures c.after_opener.ensures (rw (own.0, own.1, own.2) at c.chosen_alternative-alternative.ensures.0)
    (omega (arith, c.if-count-gt0.true)) c.requires.0 c.put_link.ensures
