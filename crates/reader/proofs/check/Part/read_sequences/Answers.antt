-- `reader::check::Part::read_sequences` meets its contract.
-- Assumes nothing.
use Rattle.std.proofs.Common.{◌+◌, refl, sym, ◌∙◌, arith, get_or, take, None}
use Rattle.rules.specs.Rules.{sets_of}
use Rattle.rules.specs.Quick.{passed}
use Rattle.rules.proofs.Right.{sequence_faultless}
use Rattle.reader.proofs.Walk.{whole_answer, read_answer, read_end, reading_turn, reading_on}
use Rattle.reader.proofs.check.Part.read_sequences.Goals as goal

pub returns-then-not-sequence_right : goal.returns-then-not-sequence_right
returns-then-not-sequence_right c =
    let p = c.args.self.now in
    whole_answer p.head p.words.now c.args.before p.at _ (read_answer _ _ c.args.before 0 _ c.loop-i.i c.loop-i.invariant.read p.at _ c.read_words.ensures)

pub loop-i-preserved : goal.loop-i-preserved
loop-i-preserved c =
    let p = c.args.self.now in
    let ws = p.words.now in
    let e = c.loop-i.e in
    let i = c.loop-i.i in
    let w = get_or ws i 0 in
    rw (c.further_on-e.ensures, c.past-e.ensures)
    (reading_on p.at p.head ws c.args.before 0 (passed e w) (i + 1)
    (reading_turn p.at p.head ws c.args.before 0 e i c.loop-i.invariant None (omega arith) refl
    (sequence_faultless p.head e (sets_of 0 (take i ws)) (p.at + i) w (sym c.sequence_right.ensures ∙ c.if-not-sequence_right.false)))
    _ _ (rw c.past-e.ensures at c.read_body-body.ensures))

pub returns : goal.returns
returns c =
    let p = c.args.self.now in
    whole_answer p.head p.words.now c.args.before p.at _ (c.ended.ensures ∙ read_end _ _ c.args.before 0 _ c.loop-i.i c.loop-i.invariant.read p.at (omega arith))
