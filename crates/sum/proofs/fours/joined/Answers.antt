-- `sum::fours::joined` meets its contract.
-- Assumes nothing.
use Rattle.sum.proofs.Lanes.{lanes_joined}
use Rattle.sum.proofs.fours.joined.Goals as goal

pub returns : goal.returns
returns c lanes = cc (lanes_joined c.args.a c.args.b c.args.c c.args.d c.added.result c.added-values.result c.added.ensures c.added-values.ensures lanes, c.from.ensures, c.from-2.ensures, c.from-3.ensures, c.from-4.ensures)
