-- `endless::call::explain` meets its contract.
-- Assumes nothing.
use Rattle.std.proofs.Common.{arith, sym, ◌∙◌}
use Rattle.tables.proofs.Tables.{few_sequences}
use Rattle.endless.proofs.Explaining.{explains_run}
use Rattle.endless.proofs.call.explain.Goals as goal

pub write_running-runs-requires : goal.write_running-runs-requires
write_running-runs-requires c =
    let a = c.args.accepted.now in
    record { room = few_sequences a.image.now a.head a.accepted }

pub contains-requires : goal.contains-requires
contains-requires c =
    let a = c.args.accepted.now in
    omega (arith, few_sequences a.image.now a.head a.accepted)

pub returns-then-contains : goal.returns-then-contains
returns-then-contains c =
    explains_run _ c.args.c c.args.area.now (sym (c.write_running-runs.ensures.exact c.args.c) ∙ sym c.contains.ensures ∙ c.if-contains.true)

pub list_reached-requires : goal.list_reached-requires
list_reached-requires c =
    let a = c.args.accepted.now in (
      record {
        before = _;
        written = c.write_running-runs.ensures;
        room = omega (arith, c.write_running-runs.auto, few_sequences a.image.now a.head a.accepted);
      },
      c.requires,
      sym (c.write_running-runs.ensures.exact c.args.c) ∙ sym c.contains.ensures ∙ c.if-contains.false,
    )

pub returns : goal.returns
returns c = c.list_reached.ensures
