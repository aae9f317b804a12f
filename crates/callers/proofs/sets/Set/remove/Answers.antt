-- `callers::sets::Set::remove` meets its contract.
-- Assumes nothing.
use Rattle.std.proofs.Common.{◌/◌, slice_index_or, slice_set, ap, subst, ◌∙◌, arith}
use Rattle.column.specs.Column.{with_fact}
use Rattle.column.specs.Sets.{difference}
use Rattle.callers.specs.Callers.{Removed}
use Rattle.callers.proofs.CallerSets.{removed}
use Rattle.callers.proofs.sets.Set.remove.Goals as goal

pub returns : goal.returns
returns c =
    let words = c.self.inside.words in
    subst (λ (s : _). Removed c.args.c s (slice_set words (c.args.c / 64) c.without.result)) c.self.view_is
    (removed words c.args.c c.without.result
    (c.without.ensures ∙ ap (difference 64 (slice_index_or words (c.args.c / 64) 0)) (c.with_fact.ensures ∙ ap (with_fact 0) c.bit_of.ensures.0)) (omega arith))
