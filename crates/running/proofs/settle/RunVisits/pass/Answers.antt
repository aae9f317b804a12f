-- `running::settle::RunVisits::pass` meets its contract.
-- Assumes nothing.
use Rattle.std.proofs.Common.{arith}
use Rattle.settling.proofs.Visits.{reached_length, passing_start, passing_turn, passing_end}
use Rattle.running.proofs.Laws.{run_laws}
use Rattle.running.proofs.settle.RunVisits.pass.Goals as goal

pub loop-i-init : goal.loop-i-init
loop-i-init c = passing_start _ _ _ _ _

pub find-new-requires : goal.find-new-requires
find-new-requires c =
    let laws = run_laws c.args.self.now.part.now c.args.self.now.places.now _ _ c.args.self.now.visitable.few c.requires.0 in
    (omega (arith, reached_length laws.lowers c.loop-i.invariant.reached, c.requires.0), c.place_of.ensures.1)

pub loop-i-preserved : goal.loop-i-preserved
loop-i-preserved c =
    rw c.from-count.ensures
    (passing_turn c.loop-i.invariant (omega (arith, c.loop-i-test.true, c.requires.1)) c.find-new.new.runs c.find-new.result
    (rw c.place_of.ensures.0 at c.find-new.ensures))

pub returns : goal.returns
returns c = passing_end c.loop-i.invariant _ (omega (arith, c.loop-i-test.false)) c.loop-i.auto.i-end
