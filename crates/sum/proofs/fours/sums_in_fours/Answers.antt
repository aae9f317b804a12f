-- `sum::fours::sums_in_fours` meets its contract.
-- Assumes nothing.
use Rattle.std.proofs.Common.{arith, ◌∙◌}
use Rattle.sum.proofs.Lanes.{fours_none, fours_turn, fours_end}
use Rattle.sum.proofs.fours.sums_in_fours.Goals as goal

pub loop-four-init : goal.loop-four-init
loop-four-init c =
    let none = fours_none c.args.words.now _ _ _ _ c.default-a.ensures c.default-b.ensures c.default-c.ensures c.default-d.ensures in
    rw (c.into_iter-four-iterator.ensures.into_iter_gives, c.chunks_exact-four-items.ensures.rest) (c.chunks_exact-four-items.ensures.size, none)

pub loop-four-preserved : goal.loop-four-preserved
loop-four-preserved c =
    let steps = c.in-Some.ensures.steps in
    let so = c.loop-four.invariant in
    (steps.0 ∙ so.0, fours_turn c.args.words.now c.in-Some.four.now _ _ _ _ _ _ _ _ _ _ steps.1.0 (steps.1.1 ∙ so.0) so.1 c.with_word-a.ensures c.with_word-b.ensures c.with_word-c.ensures c.with_word-d.ensures)

pub returns : goal.returns
returns c =
    let steps = c.in-None.ensures.steps in
    let so = c.loop-four.invariant in
    fours_end c.args.words.now c.loop-four.four-iterator.rest.now _ _ _ _ c.joined.result (omega (arith, steps.1.0, so.0)) so.1 c.joined.ensures
