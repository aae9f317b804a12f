-- `reach::found::reach` meets its contract: what the first sequences of the queue name is found.
-- Assumes nothing.
use Rattle.std.proofs.Common.{arith}
use Rattle.reach.proofs.Reaching.{reaching_start, reached_few, reached_low, reaching_turn, reaching_end}
use Rattle.reach.proofs.found.reach.Goals as goal

pub loop-done-init : goal.loop-done-init
loop-done-init c = reaching_start c.only-reached.ensures

pub offset_bounds-reached-done : goal.offset_bounds-reached-done
offset_bounds-reached-done c = record { fits = omega (arith, reached_few c.loop-done.invariant, c.requires.0.few) }

pub bounds-reached-done : goal.bounds-reached-done
bounds-reached-done c = omega (arith, reached_few c.loop-done.invariant, c.requires.0.few)

pub overflow_add-done : goal.overflow_add-done
overflow_add-done c = record { fits = omega (arith, reached_few c.loop-done.invariant, c.requires.0.few) }

pub note_named-requires : goal.note_named-requires
note_named-requires c =
    let low = reached_low c.loop-done.invariant c.loop-done-test.true in
    (λ i l k. omega (arith, c.requires.0.names i l k, c.loop-done.invariant.bound), omega (arith, c.requires.0.within _ low))

pub loop-done-smaller : goal.loop-done-smaller
loop-done-smaller c = omega (arith, reached_few c.loop-done.invariant)

pub loop-done-preserved : goal.loop-done-preserved
loop-done-preserved c = reaching_turn c.loop-done.invariant c.loop-done-test.true _ c.note_named.ensures

pub returns : goal.returns
returns c = reaching_end c.loop-done.invariant (omega arith)
