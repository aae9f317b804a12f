-- `card::call::fill_block` meets its contract: the areas are what the outcome table asks, and its rows become a block of the cards.
-- Assumes nothing.
use native.Mathlib.Omega.{arith}
use mathlib.Core.Path.{sym, ap, ◌∙◌}
use mathlib.Core.List.{List, ◌++◌}
use Prim.Native.Nat.{ℕ, ◌*◌}
use lib.ListN.{drop, length-replicate}
use Rattle.cards.specs.Layout.{card_words}
use Rattle.library.specs.Library.{library_of}
use Rattle.library.proofs.Accepted.{faultless, counted}
use Rattle.writer.specs.Block.{cards_with}
use Rattle.card.proofs.Table.{table_cards}
use Rattle.card.proofs.call.fill_block.Goals as goal

pub write_blocks-requires : goal.write_blocks-requires
write_blocks-requires g c =
    let given = c.requires.0.given in
    let made = c.outcome_table.auto in
    let size = length-replicate {A = ℕ} g.row.ROWS 0 in
    let high = (faultless _ _ given.accepted).facts_high in
    (omega (arith, made, size, c.requires.1.rows), c.requires.0.room, omega (arith, given.some, high))

pub returns : goal.returns
returns g c =
    let a = c.args in
    let n = a.tables.now.accepted.head.sequences in
    let rest = drop (card_words * n) a.area.now in
    c.write_blocks.ensures
    ∙ ap (λ (t : List _). cards_with a.block t a.area.now 0 n ++ rest) c.outcome_table.ensures
    ∙ ap (λ (ws : List _). ws ++ rest)
    (table_cards (library_of a.tables.now.accepted.image.now) a.block _ a.area.now n (sym (counted _ _ c.requires.0.given.accepted).sequences))
