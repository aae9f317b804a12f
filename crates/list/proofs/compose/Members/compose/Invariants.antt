-- `list::compose::Members::compose` meets its contract: a clear card, and block after block of the list's row.
-- Assumes nothing.
use Rattle.list.proofs.Card.{ListAt}
use Rattle.list.proofs.compose.Members.compose.Given as goal

abbrev pub invariant-loop-block : goal.invariant-loop-block
invariant-loop-block l = ListAt l.facts l.self.cards.now l.self.list.now l.card l.block
