-- `reader::check::first_shared` meets its contract: what the set words passed by name is less than what the clear words left name.
-- Assumes nothing.
use Rattle.std.proofs.Common.{arith}
use Rattle.reader.proofs.Facts.{run_rises}
use Rattle.reader.proofs.check.first_shared.Goals as goal

pub loop-i-preserved-then-set-cleared-2 : goal.loop-i-preserved-then-set-cleared-2
loop-i-preserved-then-set-cleared-2 c = grind (arith, run_rises c.args.part.now 4 c.args.clears c.args.end c.requires.1 c.loop-i.j)

pub loop-i-preserved : goal.loop-i-preserved
loop-i-preserved c = grind (arith, run_rises c.args.part.now 3 c.args.sets c.args.clears c.requires.0 c.loop-i.i)
