-- `reader::check::Part::read_kind` meets its contract, one word more at each turn.
-- Assumes nothing.
use Rattle.std.proofs.Common.{arith}
use Rattle.std.proofs.lemmas.Bool.Decides.{nat_tests}
use Rattle.reader.proofs.Facts.{kind_turn}
use Rattle.reader.proofs.check.Part.read_kind.Goals as goal

pub loop-next-preserved : goal.loop-next-preserved
loop-next-preserved c =
    rw c.with_fact-fingerprint.ensures
    (kind_turn _ _ _ c.args.at _ _ c.loop-next.next c.args.self.now.counts (omega arith) (grind (arith, nat_tests)) (grind (arith, nat_tests)) c.loop-next.invariant)
