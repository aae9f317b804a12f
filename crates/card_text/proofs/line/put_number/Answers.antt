-- `card_text::line::put_number` meets its contract: the digits of the lower words, the numeral of the highest that is not 0, and a space.
-- Assumes nothing.
use Rattle.std.proofs.Common.{arith, refl, sym}
use Rattle.std.proofs.lemmas.List.{length-take-le}
use Rattle.card_text.proofs.Number.{top_within, top_asked, space_room, number_put}
use Rattle.card_text.proofs.line.put_number.Goals as goal

pub slice_bounds-put_low-end : goal.slice_bounds-put_low-end
slice_bounds-put_low-end c =
    let top = top_within c.args.words.now c.requires.0 c.highest-top.result c.highest-top.ensures in
    sym (length-take-le c.highest-top.result c.args.words.now (omega (arith, top)))

pub put_low-requires : goal.put_low-requires
put_low-requires c =
    let top = top_within c.args.words.now c.requires.0 c.highest-top.result c.highest-top.ensures in
    omega (arith, top, length-take-le c.highest-top.result c.args.words.now (omega (arith, top)))

pub offset_bounds-words-top : goal.offset_bounds-words-top
offset_bounds-words-top c =
    let top = top_within c.args.words.now c.requires.0 c.highest-top.result c.highest-top.ensures in
    record { fits = omega (arith, top) }

pub bounds-words-top : goal.bounds-words-top
bounds-words-top c = top_within c.args.words.now c.requires.0 c.highest-top.result c.highest-top.ensures

pub put_numeral-requires : goal.put_numeral-requires
put_numeral-requires c =
    top_asked c.args.words.now c.requires.0 _ c.highest-top.ensures (λ k. (c.type_inv.words k).fits) _ refl _ _ c.put_low.ensures c.requires.1

pub put_byte-requires : goal.put_byte-requires
put_byte-requires c =
    space_room c.args.words.now c.requires.0 _ c.highest-top.ensures (λ k. (c.type_inv.words k).fits) _ refl _ _ c.put_low.ensures _ c.put_numeral.ensures c.requires.1

pub returns : goal.returns
returns c =
    number_put c.args.words.now c.requires.0 _ c.highest-top.ensures (λ k. (c.type_inv.words k).fits) _ refl _ _ c.put_low.ensures _ c.put_numeral.ensures _ c.put_byte.ensures
