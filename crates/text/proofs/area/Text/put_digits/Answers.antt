-- `text::area::Text::put_digits` meets its contract: the digits that are left, put in front, make all of them.
-- Assumes nothing.
use Rattle.std.proofs.Common.{◌≡◌, ◌-◌, sym, subst, arith}
use Rattle.text.proofs.Text.{put_none}
use Rattle.text.proofs.Numeral.{put_digit_more}
use Rattle.text.specs.Number.{digits_in}
use Rattle.text.specs.Text.{Put}
use Rattle.text.proofs.area.Text.put_digits.Goals as goal

pub loop-preserved : goal.loop-preserved
loop-preserved c =
    (omega (arith, c.put_last_digit-rest.ensures.put.front.room), λ after p. c.loop.invariant.1 after (put_digit_more _ _ _ _ _ _ _ _ (omega arith) c.put_last_digit-rest.ensures.put c.put_last_digit-rest.ensures.rest p))

pub returns : goal.returns
unfolding digits_in
returns c =
    let none : c.args.count - c.loop.counter ≡ 0 = omega arith in
    c.loop.invariant.1 _ (subst (λ n. Put c.loop.self (digits_in c.args.base n c.loop.rest) c.loop.self) (sym none) (put_none c.loop.self))
