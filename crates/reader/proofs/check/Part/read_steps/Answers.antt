-- `reader::check::Part::read_steps` meets its contract.
-- Assumes nothing.
use Rattle.std.proofs.Common.{◌+◌, refl, sym, ◌∙◌, arith, get_or, take, None}
use Rattle.rules.specs.Rules.{sets_of}
use Rattle.rules.specs.Quick.{passed}
use Rattle.rules.proofs.Right.{step_faultless}
use Rattle.reader.proofs.Walk.{begun, whole_answer, middle_answer, read_answer, read_end, reading_turn, reading_on}
use Rattle.reader.proofs.check.Part.read_steps.Goals as goal

pub returns-then-is_of : goal.returns-then-is_of
returns-then-is_of c =
    let p = c.args.self.now in
    let b = begun c.args.first in
    whole_answer p.head p.words.now b p.at _
    (read_answer _ _ b 0 _ c.loop-i.i c.loop-i.invariant.read p.at _
    (middle_answer p.head p.words.now c.loop-i.e (p.at + c.loop-i.i) c.loop-i.i _ (omega arith) (sym c.is_of.ensures ∙ c.if-is_of.true) c.read_sequences.ensures))

pub returns-then-not-step_right : goal.returns-then-not-step_right
returns-then-not-step_right c =
    let p = c.args.self.now in
    let b = begun c.args.first in
    whole_answer p.head p.words.now b p.at _ (read_answer _ _ b 0 _ c.loop-i.i c.loop-i.invariant.read p.at _ c.read_words.ensures)

pub overflow_sub-next : goal.overflow_sub-next
overflow_sub-next c = omega (arith, (c.read_facts-next.ensures c.loop-i.e).low)

pub offset_bounds-self-next : goal.offset_bounds-self-next
offset_bounds-self-next c = omega (arith, (c.read_facts-next.ensures c.loop-i.e).within)

pub bounds-self-next : goal.bounds-self-next
bounds-self-next c = let read = c.read_facts-next.ensures c.loop-i.e in omega (arith, read.low, read.within)

pub loop-i-smaller : goal.loop-i-smaller
loop-i-smaller c = omega (arith, (c.read_facts-next.ensures c.loop-i.e).low)

pub loop-i-preserved : goal.loop-i-preserved
loop-i-preserved c =
    let p = c.args.self.now in
    let ws = p.words.now in
    let e = c.loop-i.e in
    let i = c.loop-i.i in
    let w = get_or ws i 0 in
    rw (c.further_on-e.ensures, c.past.ensures)
    (reading_on p.at p.head ws (begun c.args.first) 0 (passed e w) (i + 1)
    (reading_turn p.at p.head ws (begun c.args.first) 0 e i c.loop-i.invariant None (omega arith) refl
    (step_faultless p.head e (sets_of 0 (take i ws)) (p.at + i) w (sym c.step_right.ensures ∙ c.if-not-step_right.false)))
    _ _ (c.read_facts-next.ensures (passed e w)))

pub returns : goal.returns
returns c =
    let p = c.args.self.now in
    whole_answer p.head p.words.now (begun c.args.first) p.at _
    (c.ended.ensures ∙ read_end _ _ (begun c.args.first) 0 _ c.loop-i.i c.loop-i.invariant.read p.at (omega arith))
