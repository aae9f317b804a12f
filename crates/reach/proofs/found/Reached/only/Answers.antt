-- `reach::found::Reached::only` meets its contract.
-- Assumes nothing.
use Rattle.reach.proofs.Queue.{queued_one}
use Rattle.reach.proofs.found.Reached.only.Goals as goal

pub invariant_of-result : goal.invariant_of-result
invariant_of-result c =
    record { queued = rw (c.insert.ensures, c.default-set.ensures) (queued_one c.args.n c.args.c c.requires.0 c.requires.2 c.args.queue.now c.requires.1) }
