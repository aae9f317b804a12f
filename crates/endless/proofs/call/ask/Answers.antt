-- `endless::call::ask` meets its contract.
-- Assumes nothing.
use Rattle.std.proofs.Common.{arith}
use Rattle.endless.proofs.Explaining.{called_past, called_within}
use Rattle.endless.proofs.call.ask.Goals as goal

pub returns-then-from-sequence : goal.returns-then-from-sequence
returns-then-from-sequence c =
    let a = c.args.accepted.now in
    called_past a.image.now c.args.sequence c.args.area.now a.head a.accepted (omega (arith, c.from.ensures))

pub returns : goal.returns
returns c =
    let a = c.args.accepted.now in
    called_within a.image.now c.args.sequence c.args.area.now a.head a.accepted (omega (arith, c.from.ensures)) _ _ c.explain.ensures
