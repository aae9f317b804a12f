-- `walk::sequence::alternatives_of` meets its contract: as many alternatives open before the word as were counted.
-- Assumes nothing.
use Rattle.std.proofs.Common.{◌≡◌, Bool, ◌||◌, sym, ap, ap₂, ◌∙◌, arith}
use mir.Val.{bool_byte}
use Rattle.walk.proofs.Before.{before_start, before_out, before_end, last_turn, before_few}
use Rattle.walk.proofs.sequence.alternatives_of.Goals as goal

-- what is told of the word by two tests together
either : {a b x y z : Bool} → a ≡ x → b ≡ y → a || b ≡ z → x || y ≡ z
either e f both = ap₂ ◌||◌ (sym e) (sym f) ∙ both

pub loop-i-init : goal.loop-i-init
loop-i-init c = record { before = before_start _ _ c.requires.0; opener = λ some. absurd (omega arith) }

pub overflow_add-count : goal.overflow_add-count
overflow_add-count c =
    let next =
    last_turn _ _ _ _ _ c.loop-i.invariant (either c.is_of-opens.ensures c.is_entry.ensures c.if-not-opens-is_entry.false) in
    omega (arith, before_few _ _ _ _ next.before, c.requires.1, c.from-count.ensures, ap bool_byte c.is_of-opens.ensures)

pub loop-i-preserved : goal.loop-i-preserved
loop-i-preserved c =
    rw (c.select-last.ensures, c.from-count.ensures, c.is_of-opens.ensures)
    (last_turn _ _ _ _ _ c.loop-i.invariant (either c.is_of-opens.ensures c.is_entry.ensures c.if-not-opens-is_entry.false))

pub returns-after-loop-i : goal.returns-after-loop-i
returns-after-loop-i c =
    record { all = before_end _ _ _ _ c.loop-i.invariant.before (omega arith); end = c.loop-i.i; last = c.loop-i.invariant }

pub returns-then-not-opens-is_entry : goal.returns-then-not-opens-is_entry
returns-then-not-opens-is_entry c =
    record {
      all = before_out _ _ _ _ c.loop-i.invariant.before (either c.is_of-opens.ensures c.is_entry.ensures c.if-not-opens-is_entry.true);
      end = c.loop-i.i;
      last = c.loop-i.invariant;
    }
