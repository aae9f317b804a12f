-- `text::area::Text::put_numeral` meets its contract: the numeral of what is left, put in front, makes the whole numeral.
-- Assumes nothing.
use Rattle.std.proofs.Common.{ap, length, arith}
use Rattle.text.specs.Number.{numeral}
use Rattle.text.proofs.Numeral.{numeral_some, length_more, put_numeral_more, put_numeral_last, less_left}
use Rattle.text.proofs.area.Text.put_numeral.Goals as goal

pub put_last_digit-rest-requires : goal.put_last_digit-rest-requires
put_last_digit-rest-requires c =
    record { low = c.requires.low; high = c.requires.high; room = omega (arith, numeral_some c.args.base c.requires.low c.loop-rest.rest) }

pub loop-rest-preserved : goal.loop-rest-preserved
loop-rest-preserved c =
    let put = c.put_last_digit-rest.ensures.put in
    let rest = c.put_last_digit-rest.ensures.rest in (
      omega (arith, put.front.room, ap (λ n. length (numeral c.args.base n)) rest, length_more c.args.base c.requires.low c.loop-rest.rest c.loop-rest-test.true),
      λ after p. c.loop-rest.invariant.1 after (put_numeral_more _ _ _ _ _ _ c.requires.low c.loop-rest-test.true put rest p),
    )

pub put_last_digit-requires : goal.put_last_digit-requires
put_last_digit-requires c =
    record { low = c.requires.low; high = c.requires.high; room = omega (arith, numeral_some c.args.base c.requires.low c.loop-rest.rest) }

pub returns : goal.returns
returns c =
    c.loop-rest.invariant.1 _ (put_numeral_last _ _ _ _ c.requires.low c.loop-rest-test.false c.put_last_digit.ensures.put)
