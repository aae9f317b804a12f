-- `library::tables::write_masks` meets its contract: from the last word to the first, each opener's row is written.
-- Assumes nothing.
use Rattle.std.proofs.Common.{◌≡◌, sym, ◌∙◌}
use Rattle.library.proofs.Rows.{no_masks, left_start, left_end, left_fact, left_room, left_row}
use Rattle.library.proofs.tables.write_masks.Goals as goal

pub loop-w-init : goal.loop-w-init
loop-w-init c =
    let all : c.into_iter-w-iterator.result.iter.rest.now ≡ c.args.part.now = cc in
    rw (all, no_masks _ c.default-m.ensures) (left_start c.args.block c.args.part.now c.args.area.now c.args.h c.requires)

pub write_row-requires : goal.write_row-requires
write_row-requires c =
    rw c.payload_of.ensures
    (left_room c.args.block c.args.part.now c.args.area.now c.args.h c.requires _ _ _ _ _ c.loop-w.invariant c.in-Some.ensures.steps
    (sym c.is_of.ensures ∙ c.if-is_of.true))

pub loop-w-preserved-then-is_of : goal.loop-w-preserved-then-is_of
loop-w-preserved-then-is_of c =
    rw (c.write_row.ensures, c.payload_of.ensures, no_masks _ c.default-m-then-is_of.ensures)
    (left_row c.args.block c.args.part.now c.args.area.now c.args.h c.requires _ _ _ _ _ c.loop-w.invariant c.in-Some.ensures.steps
    (sym c.is_of.ensures ∙ c.if-is_of.true))

pub loop-w-preserved : goal.loop-w-preserved
loop-w-preserved c =
    rw c.with_word-m.ensures
    (left_fact c.args.block c.args.part.now c.args.area.now c.args.h c.requires _ _ _ _ _ c.loop-w.invariant c.in-Some.ensures.steps
    (sym c.is_of.ensures ∙ c.if-is_of.false))

pub returns : goal.returns
returns c = left_end c.args.block c.args.part.now c.args.area.now c.args.h c.requires _ _ _ c.loop-w.invariant c.in-None.ensures.steps.0
