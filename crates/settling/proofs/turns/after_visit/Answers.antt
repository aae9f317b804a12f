-- `settling::turns::after_visit` meets its contract.
-- Assumes nothing.
use Rattle.settling.proofs.Settling.{after_same, after_changed}
use Rattle.settling.proofs.turns.after_visit.Goals as goal

pub returns-then-changed : goal.returns-then-changed
returns-then-changed c = rw c.if-changed.true (after_changed c.args.callers.now c.args.c c.args.stale.now _ c.unite.new.self c.remove.ensures c.unite.ensures)

pub returns-else-changed : goal.returns-else-changed
returns-else-changed c = rw c.if-changed.false (after_same c.args.callers.now c.args.c c.args.stale.now c.remove.new.self c.remove.ensures)
