-- `link::link::tail_from` meets its contract: the walk over the entries that are left gives the index that the whole walk gives.
-- Assumes nothing.
use native.Mathlib.Omega.{arith}
use mathlib.Core.Path.{◌≡◌, sym, ◌∙◌}
use lib.ListN.{length}
use Rattle.rank.specs.Walk.{tail_from}
use Rattle.walk.proofs.Walking.{folding_turn, folding_out}
use Rattle.link.proofs.Choices.{tail_cons, none_past}
use Rattle.link.proofs.link.tail_from.Goals as goal

pub loop-i-preserved : goal.loop-i-preserved
loop-i-preserved c =
    rw c.select-start.ensures
    (folding_turn c.loop-i.invariant (sym c.part_entry.ensures ∙ c.if-not-part_entry.false) (tail_cons _ _ _ _ _ _ (sym c.passes.ensures)))

pub returns-after-loop-i : goal.returns-after-loop-i
unfolding tail_from
returns-after-loop-i c =
    let last : c.loop-i.i ≡ length c.args.words.now = omega arith in
    folding_out c.loop-i.invariant (rw last (none_past c.args.words.now))

pub returns-then-not-part_entry : goal.returns-then-not-part_entry
unfolding tail_from
returns-then-not-part_entry c = folding_out c.loop-i.invariant (sym c.part_entry.ensures ∙ c.if-not-part_entry.true)
