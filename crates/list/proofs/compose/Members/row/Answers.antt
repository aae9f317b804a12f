-- `list::compose::Members::row` meets its contract: each turn joins the row of the next member.
-- Assumes nothing.
use mathlib.Core.Path.{ap, ◌∙◌}
use Rattle.list.specs.Fold.{followed_row}
use Rattle.list.proofs.Loops.{fold_next, fold_end}
use Rattle.list.proofs.compose.Members.row.Goals as goal

pub loop-m-preserved : goal.loop-m-preserved
loop-m-preserved c =
    fold_next _ _ _ c.loop-m.x _ c.loop-m.m-index c.loop-m.invariant c.loop-m-test.true
    (c.followed-x.ensures ∙ ap (followed_row c.loop-m.x) c.member_row.ensures)

pub returns : goal.returns
returns c = fold_end _ _ _ c.loop-m.x c.loop-m.m-index c.loop-m.invariant c.loop-m-test.false
