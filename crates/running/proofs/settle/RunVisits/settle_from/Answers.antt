-- `running::settle::RunVisits::settle_from` meets its contract.
-- Assumes nothing.
use Rattle.std.proofs.Common.{arith}
use Rattle.settling.specs.Settling.{here}
use Rattle.settling.proofs.Visits.{reached_length, reached_then}
use Rattle.running.proofs.Laws.{run_laws}
use Rattle.running.proofs.settle.RunVisits.settle_from.Goals as goal

pub passes-init : goal.passes-init
passes-init c = here

pub pass-count-requires : goal.pass-count-requires
pass-count-requires c =
    let laws = run_laws c.args.self.now.part.now c.args.self.now.places.now _ _ c.args.self.now.visitable.few c.requires in
    (omega (arith, reached_length laws.lowers c.passes.invariant, c.requires), omega arith)

pub returns-then-count-eq0 : goal.returns-then-count-eq0
returns-then-count-eq0 c =
    record { reached = reached_then c.passes.invariant c.pass-count.ensures.reached; settled = c.pass-count.ensures.settled (omega arith) c.if-count-eq0.true }

pub settle_by_callers-requires : goal.settle_by_callers-requires
settle_by_callers-requires c =
    let laws = run_laws c.args.self.now.part.now c.args.self.now.places.now _ _ c.args.self.now.visitable.few c.requires in
    omega (arith, reached_length laws.lowers (reached_then c.passes.invariant c.pass-count.ensures.reached), c.requires)

pub returns-then-count-left : goal.returns-then-count-left
returns-then-count-left c =
    let rest = c.settle_by_callers.ensures in
    record { reached = reached_then (reached_then c.passes.invariant c.pass-count.ensures.reached) rest.reached; settled = rest.settled }

pub passes-smaller : goal.passes-smaller
passes-smaller c = c.pass-count.ensures.falls (omega (arith, c.if-count-eq0.false))

pub passes-preserved : goal.passes-preserved
passes-preserved c = reached_then c.passes.invariant c.pass-count.ensures.reached
