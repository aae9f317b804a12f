-- `chain::call::find_in` meets its contract: the tables of an accepted image give the answer of its library.
-- Assumes nothing.
use native.Mathlib.Omega.{arith}
use lib.ListN.{length}
use Rattle.question.specs.Answer as words
use Rattle.link.proofs.Writing.{answered_same}
use Rattle.general.proofs.Numbers.{zeros}
use Rattle.chain.proofs.Finding.{ranks_long, masks_asked, tables_asked, masks_made, places_made, tables_findable, found_done}
use Rattle.chain.proofs.call.find_in.Goals as goal

pub prepare_masks-requires : goal.prepare_masks-requires
prepare_masks-requires g c = masks_asked c.requires.1

pub prepare-requires : goal.prepare-requires
prepare-requires g c = tables_asked c.requires.1

pub find-requires : goal.find-requires
find-requires g c =
    let areas = c.requires.1 in
    let long = ranks_long areas in (
      tables_findable c.args.accepted.now.accepted c.prepare.ensures c.sequences_part.ensures c.requires.0 long long long (zeros g.row.PLACES)
          (omega (arith, c.prepare_masks.auto, (masks_asked areas).room)) (omega (arith, c.prepare.auto, (tables_asked areas).places_room))
          (omega (arith, c.prepare.auto, (tables_asked areas).callers_room)),
      c.requires.0.sequence,
    )

pub returns : goal.returns
returns g c =
    let a = c.args in
    let image = a.accepted.now.image.now in
    let accepted = a.accepted.now.accepted in
    let long = ranks_long c.requires.1 in
    let by = c.find.ensures in
    answered_same {found = words.by_rank a.q c.find.result (length a.area.now)}
    (found_done image a.accepted.now.head accepted _ _ _ (places_made accepted c.prepare.ensures c.sequences_part.ensures) a.q a.c c.requires.0
    (masks_made image a.accepted.now.head accepted _ _ c.fact_block.ensures c.prepare_masks.ensures (zeros g.row.MASKS)) _ _ _ _ long by.ranked _ _
    long long by.marked)
    by.answered
