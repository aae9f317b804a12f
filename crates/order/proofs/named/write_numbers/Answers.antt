-- `order::named::write_numbers` meets its contract: number c stands at place c.
-- Assumes nothing.
use Rattle.std.proofs.Common.{◌<◌, drop, length, ◌∙◌, arith, length-take-le}
use Rattle.std.proofs.Math.ListN.{get_or-append}
use Rattle.order.proofs.Order.{in_turn_next}
use Rattle.order.proofs.named.write_numbers.Goals as goal

pub loop-c-preserved : goal.loop-c-preserved
loop-c-preserved c = in_turn_next c.loop-c.place-items c.loop-c.c (omega arith) c.loop-c.invariant

pub returns : goal.returns
returns c =
    let items = c.loop-c.place-items in
    let all = length-take-le c.args.n c.args.order.now c.requires in
    λ k l.
    let within : k < length items = omega (arith, all) in
    get_or-append items (drop c.args.n c.args.order.now) 0 k within ∙ c.loop-c.invariant k (omega (arith, all))
