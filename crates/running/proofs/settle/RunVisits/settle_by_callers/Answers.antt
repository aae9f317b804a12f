-- `running::settle::RunVisits::settle_by_callers` meets its contract.
-- Assumes nothing.
use Rattle.std.proofs.Common.{ℕ, List, [], length, get_or, ap, ◌∙◌, arith}
use Rattle.general.proofs.Numbers.{zeros}
use Rattle.running.proofs.Laws.{run_laws}
use Rattle.running.proofs.settle.RunVisits.settle_by_callers.Goals as goal

pub write_callers-requires : goal.write_callers-requires
write_callers-requires c =
    let asked = c.args.self.now.visitable in
    record { few = asked.few; placed = asked.placed; within = asked.within; zeros = zeros 1024 }

pub settle-requires : goal.settle-requires
settle-requires c =
    let few = c.args.self.now.visitable.few in (
      run_laws c.args.self.now.part.now c.args.self.now.places.now _ _ few (ap (λ (t : List (List ℕ)). length (get_or t 0 [])) c.from_mut.ensures.value ∙ c.requires),
      record {
        few = few;
        room = omega (arith, c.write_callers.auto, few);
        written = c.write_callers.ensures;
        complete = c.visiting_order.ensures;
      },
    )
