-- `list::compose::Members::row` meets its contract: each turn joins the row of the next member.
-- Assumes nothing.
use Rattle.list.proofs.Loops.{FoldAt}
use Rattle.list.proofs.compose.Members.row.Given as goal

abbrev pub invariant-loop-m : goal.invariant-loop-m
invariant-loop-m l = FoldAt l.self.cards.now l.block l.self.list.now l.x l.m-index
