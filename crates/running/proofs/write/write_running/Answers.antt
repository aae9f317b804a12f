-- `running::write::write_running` meets its contract.
-- Assumes nothing.
use Rattle.std.proofs.Common.{arith, refl}
use Rattle.tables.proofs.Tables.{places_asked}
use Rattle.running.proofs.Written.{visits_asked, running_written}
use Rattle.running.proofs.write.write_running.Goals as goal

pub write_places-requires : goal.write_places-requires
write_places-requires c =
    let a = c.args.accepted.now in
    places_asked a.image.now a.head a.accepted c.sequences_part-part.ensures c.requires.room

pub invariant_of-visits : goal.invariant_of-visits
invariant_of-visits c =
    record { visitable = visits_asked c.args.accepted.now.image.now c.args.accepted.now.accepted c.requires c.sequences_part-part.ensures c.write_places.ensures (omega (arith, c.write_places.auto)) }

pub settle-requires : goal.settle-requires
settle-requires c = rw c.default-runs.ensures refl

pub returns : goal.returns
returns c =
    running_written c.args.accepted.now.image.now c.args.accepted.now.accepted c.requires c.sequences_part-part.ensures c.write_places.ensures c.settle.new.runs (rw c.default-runs.ensures at c.settle.ensures)
