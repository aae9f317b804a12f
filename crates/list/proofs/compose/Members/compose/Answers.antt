-- `list::compose::Members::compose` meets its contract: a clear card, and block after block of the list's row.
-- Assumes nothing.
use borrow.Author.Rules.{rules}
use native.Mathlib.Omega.{arith}
use mathlib.Core.Path.{◌≡◌}
use lib.ListN.{replicate}
use Rattle.cards.specs.Layout.{card_words}
use Rattle.list.proofs.Card.{list_start, list_next, list_end}
use Rattle.list.proofs.compose.Members.compose.Goals as goal

pub loop-block-init : goal.loop-block-init
loop-block-init c = let clear : c.fill.new.self ≡ replicate card_words 0 = search rules in list_start _ _ _ _ clear

pub loop-block-preserved : goal.loop-block-preserved
loop-block-preserved c = list_next _ _ _ c.loop-block.card c.loop-block.block c.loop-block.invariant (omega arith) _ c.add_block.ensures

pub returns : goal.returns
returns c = list_end _ _ _ c.loop-block.card c.loop-block.block c.loop-block.invariant (omega arith) (omega arith)
