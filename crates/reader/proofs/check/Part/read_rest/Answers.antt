-- `reader::check::Part::read_rest` meets its contract.
-- Assumes nothing.
use Rattle.std.proofs.Common.{refl, arith}
use Rattle.reader.proofs.Walk.{one_turn}
use Rattle.reader.proofs.check.Part.read_rest.Goals as goal

pub loop-next-preserved : goal.loop-next-preserved
loop-next-preserved c =
    one_turn _ _ c.args.last c.args.at _ c.loop-next.next _ (omega arith) refl (c.inside_right.ensures c.if-not-inside_right.false) c.loop-next.invariant
