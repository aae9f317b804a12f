-- `settling::turns::Turns::next` meets its contract.
-- Assumes nothing.
use Rattle.settling.proofs.Settling.{next_turn}
use Rattle.settling.proofs.turns.Turns.next.Goals as goal

pub returns : goal.returns
returns c = next_turn c.args.schedule.now.n c.args.schedule.now.order.now c.args.stale.now _ _ c.look.result c.requires.1 c.look.ensures
