-- `tables::prepare::prepare` meets its contract: the parts of an accepted image are what the makers of the tables ask.
-- Assumes nothing.
use Rattle.std.proofs.Common.{arith}
use Rattle.tables.proofs.Tables.{few_sequences, sequences_asked, callers_asked, prepared}
use Rattle.tables.proofs.prepare.prepare.Goals as goal

pub write_places-requires : goal.write_places-requires
write_places-requires c = sequences_asked _ c.args.accepted.now.accepted c.requires c.sequences_part-part.ensures

pub write_callers-requires : goal.write_callers-requires
write_callers-requires c =
    callers_asked _ c.args.accepted.now.accepted c.requires c.sequences_part-part.ensures c.write_places.ensures (omega (arith, c.write_places.auto))

pub visiting_order-requires : goal.visiting_order-requires
visiting_order-requires c = (few_sequences _ _ c.args.accepted.now.accepted, c.requires.order_room)

pub returns : goal.returns
returns c =
    prepared _ c.args.accepted.now.accepted c.requires c.sequences_part-part.ensures c.write_places.ensures c.write_callers.ensures c.visiting_order.ensures
