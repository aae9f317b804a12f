-- `library::tables::last_opener` meets its contract: none of the words that were passed opens a sequence.
-- Assumes nothing.
use Rattle.std.proofs.Common.{arith, sym, ◌∙◌}
use Rattle.library.proofs.Rows.{none_turn}
use Rattle.library.proofs.tables.last_opener.Goals as goal

pub loop-i-preserved : goal.loop-i-preserved
loop-i-preserved c =
    none_turn _ _ _ (omega arith) (omega (arith, c.loop-i.invariant.low)) (sym c.is_of.ensures ∙ c.if-is_of.false) c.loop-i.invariant
