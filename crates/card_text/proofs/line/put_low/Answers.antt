-- `card_text::line::put_low` meets its contract: the digits of the words so far stand in front.
-- Assumes nothing.
use Rattle.std.proofs.Common.{add-one, arith, subst, length, ◌≡◌}
use Rattle.text.specs.Text.{Put}
use Rattle.text.proofs.Text.{put_none, put_more}
use Rattle.card_text.specs.Writers.{digits_below}
use Rattle.card_text.proofs.Number.{length_below}
use Rattle.card_text.proofs.line.put_low.Goals as goal

pub loop-w-init : goal.loop-w-init
unfolding digits_below
loop-w-init c = put_none c.args.text.now

pub put_digits-requires : goal.put_digits-requires
put_digits-requires c =
    record {
      low = omega arith;
      high = omega arith;
      room = omega (arith, length_below c.args.words.now c.loop-w.w-index, c.loop-w.invariant.front.room);
    }

pub loop-w-preserved : goal.loop-w-preserved
unfolding digits_below
loop-w-preserved c = rw add-one (put_more _ _ _ _ _ c.loop-w.invariant c.put_digits.ensures)

pub returns : goal.returns
returns c =
    let all : c.loop-w.w-index ≡ length c.args.words.now = omega arith in
    subst (λ n. Put c.args.text.now (digits_below c.args.words.now n) c.loop-w.text) all c.loop-w.invariant
