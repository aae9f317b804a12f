-- `running::settle::RunVisits::settle` meets its contract.
-- Assumes nothing.
use Rattle.std.proofs.Common.{arith}
use Rattle.settling.proofs.Visits.{reached_length, reached_then}
use Rattle.running.proofs.Laws.{run_laws}
use Rattle.running.proofs.settle.RunVisits.settle.Goals as goal

pub pass-back-requires : goal.pass-back-requires
pass-back-requires c = (c.requires, omega arith)

pub pass-forth-requires : goal.pass-forth-requires
pass-forth-requires c =
    let laws = run_laws c.args.self.now.part.now c.args.self.now.places.now _ _ c.args.self.now.visitable.few c.requires in
    (omega (arith, reached_length laws.lowers c.pass-back.ensures.reached, c.requires), omega arith)

pub overflow_add-left : goal.overflow_add-left
overflow_add-left c = omega (arith, c.pass-back.ensures.few, c.pass-forth.ensures.few, c.args.self.now.visitable.few)

pub settle_from-requires : goal.settle_from-requires
settle_from-requires c =
    let laws = run_laws c.args.self.now.part.now c.args.self.now.places.now _ _ c.args.self.now.visitable.few c.requires in
    omega (arith, reached_length laws.lowers (reached_then c.pass-back.ensures.reached c.pass-forth.ensures.reached), c.requires)

pub returns : goal.returns
returns c =
    let rest = c.settle_from.ensures in
    record { reached = reached_then (reached_then c.pass-back.ensures.reached c.pass-forth.ensures.reached) rest.reached; settled = rest.settled }
