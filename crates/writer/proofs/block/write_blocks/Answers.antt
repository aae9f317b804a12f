-- `writer::block::write_blocks` meets its contract: each turn writes the block into the next card, in its own part.
-- Assumes nothing.
use Rattle.std.proofs.Common.{ℕ, ◌+◌, ◌-◌, ◌*◌, List, take, drop, ap, ◌∙◌, arith}
use Rattle.cards.specs.Layout.{card_words}
use Rattle.row.specs.Words.{words_of}
use Rattle.rows.proofs.Places.{row_read}
use Rattle.writer.specs.Card.{row_numbers}
use Rattle.writer.specs.Block.{with_block}
use Rattle.writer.proofs.Loops.{cards_start, cards_next}
use Rattle.writer.proofs.block.write_blocks.Goals as goal

pub loop-c-init : goal.loop-c-init
loop-c-init c = cards_start _ _ _

pub loop-c-preserved : goal.loop-c-preserved
loop-c-preserved c =
    let at = card_words * c.loop-c.c in
    cards_next c.args.block c.args.table.now c.args.area.now c.loop-c.area c.loop-c.c c.loop-c.invariant (omega arith) (at + card_words - at)
    c.write_block.new.card (omega arith)
    (c.write_block.ensures
    ∙ ap (λ (row : List ℕ). with_block c.args.block (row_numbers row) (take (at + card_words - at) (drop at c.loop-c.area)))
    (ap words_of c.row_at.ensures ∙ row_read c.args.table.now c.loop-c.c (omega arith)))
