-- `settling::settle::Schedule::settle` meets its contract, turn by turn.
-- Assumes nothing.
use Rattle.std.proofs.Common.{arith}
use Rattle.settling.proofs.Settling.{swept_start, swept_on, swept_twice, settling_less, swept_turn, settling_end}
use Rattle.settling.proofs.settle.Schedule.settle.Goals as goal

pub sweep-requires : goal.sweep-requires
sweep-requires g c = (c.requires.0, c.requires.1, rw c.all-stale.ensures (swept_start _ _ _ c.requires.1.few))

pub loop-c-init : goal.loop-c-init
loop-c-init g c = swept_on c.sweep.ensures

pub visit-requires : goal.visit-requires
visit-requires g c =
    (c.requires.0.kept _ (swept_twice c.requires.0.lowers c.sweep.ensures c.loop-c.invariant), c.in-Some.ensures.0, c.requires.1.few, c.requires.1.room)

pub loop-c-preserved : goal.loop-c-preserved
loop-c-preserved g c =
    swept_turn c.requires.0.local c.requires.1 _ _ c.loop-c.stale c.in-Some.c _ _ c.visit.ensures.0
    (omega (arith, swept_twice c.requires.0.lowers c.sweep.ensures c.loop-c.invariant, c.requires.0.long)) c.in-Some.ensures.0 c.loop-c.invariant c.visit.ensures.1 c.visit.ensures.2

pub loop-c-smaller : goal.loop-c-smaller
loop-c-smaller g c =
    settling_less _ c.loop-c.stale c.in-Some.c c.args.self.now.callers.now _ _ c.visit.ensures.0 (omega (arith, c.in-Some.ensures.0, c.requires.1.few))
    c.in-Some.ensures.1 c.visit.ensures.1 c.visit.ensures.2

pub returns : goal.returns
returns g c = settling_end c.sweep.ensures c.loop-c.invariant c.in_default.ensures
