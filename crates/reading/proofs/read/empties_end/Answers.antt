-- `reading::read::empties_end` meets its contract: the alternatives so far have no entries.
-- Assumes nothing.
use mathlib.Core.Path.{sym, ◌∙◌}
use Rattle.image.specs.Word.{is_entry}
use Rattle.walk.proofs.Walking.{tested}
use Rattle.reading.proofs.Walks.{empties_turn}
use Rattle.reading.proofs.read.empties_end.Goals as goal

pub loop-i-preserved : goal.loop-i-preserved
loop-i-preserved c =
    empties_turn c.loop-i.invariant (sym c.is_of.ensures ∙ c.if-not-is_of.false)
    (tested is_entry c.word_at.ensures c.is_entry.ensures c.if-is_entry.false)
