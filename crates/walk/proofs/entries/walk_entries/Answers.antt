-- `walk::entries::walk_entries` meets its contract: what the walk comes to from here on, it comes to from its start on.
-- Assumes nothing.
use Rattle.std.proofs.Common.{refl, sym, ◌∙◌, arith}
use lib.ListN.{get_or-eq_default}
use mathlib.Core.Path.{ap}
use Rattle.image.specs.Word.{is_entry}
use Rattle.walk.specs.Entries.{out, left, on}
use Rattle.walk.proofs.entries.walk_entries.Goals as goal

pub returns-then-not-part_entry : goal.returns-then-not-part_entry
returns-then-not-part_entry g c = c.loop-i.invariant _ _ (out (sym c.part_entry.ensures ∙ c.if-not-part_entry.true) refl refl)

pub returns-in-None : goal.returns-in-None
returns-in-None g c = c.loop-i.invariant _ _ (left (sym c.part_entry.ensures ∙ c.if-not-part_entry.false) c.in-None.ensures refl refl)

pub loop-i-preserved : goal.loop-i-preserved
loop-i-preserved g c = λ r e rest. c.loop-i.invariant r e (on (sym c.part_entry.ensures ∙ c.if-not-part_entry.false) c.in-Some.ensures rest)

-- past the words stands 0, which is no entry
pub returns : goal.returns
returns g c = c.loop-i.invariant _ _ (out (ap is_entry (get_or-eq_default c.args.part.now 0 {n = c.loop-i.i} (omega arith))) refl (omega arith))
