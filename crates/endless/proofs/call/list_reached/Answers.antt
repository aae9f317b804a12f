-- `endless::call::list_reached` meets its contract.
-- Assumes nothing.
use Rattle.std.proofs.Common.{arith, length, ap}
use Rattle.library.specs.Library.{library_of}
use Rattle.tables.proofs.Tables.{few_sequences}
use Rattle.endless.proofs.Explaining.{reach_asked, reached_listed, explains_short, explains_list}
use Rattle.endless.proofs.call.list_reached.Goals as goal

pub reach-reached-requires : goal.reach-reached-requires
reach-reached-requires c =
    let a = c.args.accepted.now in
    (reach_asked a.accepted c.requires.0 c.sequences_part.ensures, few_sequences a.image.now a.head a.accepted, c.requires.1)

pub returns-then-area-reached : goal.returns-then-area-reached
returns-then-area-reached c =
    let a = c.args.accepted.now in
    let listed = reached_listed a.accepted c.requires.0 c.sequences_part.ensures c.requires.1 c.requires.2 c.reach-reached.ensures in
    explains_short (library_of a.image.now) c.args.c c.args.area.now c.requires.2 (omega (arith, ap length listed, c.reach-reached.ensures.size))

pub write_members-requires : goal.write_members-requires
write_members-requires c =
    let a = c.args.accepted.now in
    (few_sequences a.image.now a.head a.accepted, omega (arith, c.reach-reached.ensures.size))

pub returns : goal.returns
returns c =
    let a = c.args.accepted.now in
    let listed = reached_listed a.accepted c.requires.0 c.sequences_part.ensures c.requires.1 c.requires.2 c.reach-reached.ensures in
    rw (c.reach-reached.ensures.size, c.write_members.ensures)
    (explains_list (library_of a.image.now) c.args.c c.args.area.now c.requires.2 (omega (arith, ap length listed, c.reach-reached.ensures.size)) _ listed)
