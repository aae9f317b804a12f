-- `walk::sequence::opener_before` meets its contract: the words gone back over open no alternative.
-- Assumes nothing.
use Rattle.std.proofs.Common.{◌≡◌, true, false, arith, sym, ap, ◌∙◌}
use Rattle.general.specs.Scan.{last_index}
use Rattle.walk.specs.Walk.{opener_before}
use Rattle.walk.proofs.Before.{opener_last}
use Rattle.walk.proofs.sequence.opener_before.Goals as goal

pub returns-then-is_of : goal.returns-then-is_of
returns-then-is_of c = opener_last _ c.loop-i.i true (omega arith) (sym c.is_of.ensures ∙ c.if-is_of.true) ∙ c.loop-i.invariant

pub loop-i-preserved : goal.loop-i-preserved
loop-i-preserved c = opener_last _ c.loop-i.i false (omega arith) (sym c.is_of.ensures ∙ c.if-is_of.false) ∙ c.loop-i.invariant

pub returns : goal.returns
unfolding last_index
returns c =
    let first : 0 ≡ c.loop-i.i = omega arith in
    ap (opener_before c.args.part.now) first ∙ c.loop-i.invariant
