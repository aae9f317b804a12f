-- `link::link::chosen_alternative` meets its contract: the newest of the alternatives before the opener is the newest of all.
-- Assumes nothing.
use borrow.Author.Tests.{le-leb, lt-leb}
use native.Mathlib.Omega.{arith}
use mathlib.Core.Path.{sym, ap, ◌∙◌}
use Prim.Native.Nat.{ℕ}
use lib.Dec.{leb}
use Rattle.link.specs.Choice.{alternative_in}
use Rattle.walk.proofs.Before.{before_few}
use Rattle.link.proofs.Choices.{seeking_start, seeking_turn, seeking_found, seeking_out}
use Rattle.link.proofs.link.chosen_alternative.Goals as goal

pub loop-alternative-init : goal.loop-alternative-init
loop-alternative-init c = seeking_start _ _ _ _ c.alternatives_of-all.ensures

pub returns-then-greatest_depth-k : goal.returns-then-greatest_depth-k
unfolding alternative_in
returns-then-greatest_depth-k c =
    let here = c.loop-alternative.invariant in (
      seeking_found _ _ _ _ _ here c.loop-alternative-test.true (ap (λ (n : ℕ). leb n c.args.k) (sym c.greatest_depth.ensures.value) ∙ le-leb _ _ c.if-greatest_depth-k.true),
      omega arith,
    )

pub loop-alternative-preserved : goal.loop-alternative-preserved
loop-alternative-preserved c =
    seeking_turn _ _ _ _ _ c.loop-alternative.invariant c.loop-alternative-test.true
    (ap (λ (n : ℕ). leb n c.args.k) (sym c.greatest_depth.ensures.value) ∙ lt-leb _ _ c.if-greatest_depth-k.false) _ c.opener_before-opener.ensures

pub returns : goal.returns
unfolding alternative_in
returns c =
    let counted = c.alternatives_of-all.ensures in
    (counted.all ∙ seeking_out _ _ _ _ _ c.loop-alternative.invariant c.loop-alternative-test.false, omega (arith, before_few _ _ _ _ counted.last.before))
