-- `running::settle::RunVisits` visits as it says, a table of one set.
-- Assumes nothing.
use Rattle.std.proofs.Common.{[], get_or-set_same, arith}
use Rattle.running.proofs.Laws.{table_some, table_set}
use Rattle.running.proofs.settle.RunVisitsVisits.visit.Goals as goal

pub bounds-table-0 : goal.bounds-table-0
bounds-table-0 c = table_some c.args.table.now c.requires.1.1

pub find-requires : goal.find-requires
find-requires c =
    let some = table_some c.args.table.now c.requires.1.1 in
    rw (table_set c.args.table.now c.index-table-0.result some) (c.requires.1.1, omega (arith, c.requires.1.0, c.requires.2))

pub returns : goal.returns
returns c =
    let some = table_some c.args.table.now c.requires.1.1 in
    rw (get_or-set_same c.args.table.now 0 c.find.new.runs [] some, ← table_set c.args.table.now c.index-table-0.result some) c.find.ensures
