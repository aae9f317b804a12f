-- `reach::members::write_members` meets its contract.
-- Assumes nothing.
use Rattle.std.proofs.Common.{arith}
use Rattle.callers.specs.Callers.{in_set}
use Rattle.reach.proofs.Listing.{writing_start, writing_room, writing_turn, writing_done}
use Rattle.reach.proofs.members.write_members.Goals as goal

pub loop-c-init : goal.loop-c-init
loop-c-init c = writing_start (in_set c.args.set.now) c.args.n c.args.area.now

pub put_member-k-requires : goal.put_member-k-requires
put_member-k-requires c = (omega arith, writing_room _ c.loop-c.invariant c.loop-c-test.true c.requires.1)

pub loop-c-preserved : goal.loop-c-preserved
loop-c-preserved c =
    writing_turn _ c.loop-c.invariant c.loop-c-test.true c.requires.1 (omega (arith, c.put_member-k.auto)) c.put_member-k.ensures.area
    c.put_member-k.ensures.next

pub returns : goal.returns
returns c = writing_done _ c.loop-c.invariant (omega arith)
