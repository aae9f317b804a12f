-- `callers::write::add` meets its contract: where the area ends before it, nothing is written.
-- Assumes nothing.
use Rattle.std.proofs.Common.{◌+◌, ◌*◌, ◌/◌, slice_index_or, ap, ◌∙◌}
use Rattle.column.specs.Column.{with_fact}
use Rattle.callers.proofs.CallerSets.{added, added_none}
use Rattle.callers.proofs.write.add.Goals as goal

pub returns-then-k-callers : goal.returns-then-k-callers
returns-then-k-callers c =
    let s = c.args.callers.now in
    let k = 4 * c.args.p + c.args.c / 64 in
    added s c.args.c c.args.p c.with_fact.result c.requires c.if-k-callers.true (c.with_fact.ensures ∙ ap (with_fact (slice_index_or s k 0)) c.bit_of.ensures.0)

pub returns-else-k-callers : goal.returns-else-k-callers
returns-else-k-callers c = added_none c.args.callers.now c.args.p c.args.c c.requires c.if-k-callers.false
