-- `library::tables::write_places` meets its contract: from the last word to the first, each opener's index is written.
-- Assumes nothing.
use Rattle.std.proofs.Common.{ℕ, ◌++◌, drop, ap, ◌∙◌}
use Rattle.library.specs.Tables.{places_from}
use Rattle.library.proofs.Rows.{places_start, last_room, last_written, places_pass, places_end}
use Rattle.library.proofs.tables.write_places.Goals as goal

pub loop-at-init : goal.loop-at-init
loop-at-init c = places_start _ _

pub bounds-area-payload_of : goal.bounds-area-payload_of
bounds-area-payload_of c = rw c.payload_of.ensures (last_room _ _ c.args.h c.requires _ _ _ c.loop-at.invariant c.in-Some.ensures)

pub loop-at-preserved : goal.loop-at-preserved
loop-at-preserved c = rw c.payload_of.ensures (last_written _ _ c.args.h c.requires _ _ _ c.loop-at.invariant c.in-Some.ensures)

pub returns : goal.returns
returns c =
    let a = c.args in
    places_end a.part.now a.area.now c.loop-at.area (places_pass a.part.now a.area.now c.loop-at.area 0 c.loop-at.end c.in_default.ensures c.loop-at.invariant)
    ∙ ap (λ (n : ℕ). places_from 0 a.part.now ++ drop n a.area.now) c.requires.opened
