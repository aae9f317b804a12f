-- `callers::write::write_callers` meets its contract, sequence by sequence.
-- Assumes nothing.
use Rattle.callers.proofs.CallerSets.{writing_start}
use Rattle.callers.proofs.write.write_callers.Goals as goal

pub loop-c-init : goal.loop-c-init
loop-c-init c = writing_start c.args.part.now c.args.places.now c.args.callers.now c.args.n c.requires.zeros
