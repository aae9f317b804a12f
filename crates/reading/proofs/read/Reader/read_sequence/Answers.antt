-- `reading::read::Reader::read_sequence` meets its contract: what is united so far, with the alternatives to come, is the whole sequence.
-- Assumes nothing.
use mathlib.Core.Path.{refl, sym, ap, ◌∙◌}
use lib.ListN.{get_or-eq_default}
use Rattle.image.specs.Word.{is_kind, is_entry}
use Rattle.walk.proofs.Walking.{tested, walking_turn, walking_pass, walking_out}
use Rattle.reading.specs.Walks.{is_dead, united_from}
use Rattle.reading.proofs.Walks.{uniting_empties}
use Rattle.reading.proofs.read.Reader.read_sequence.Goals as goal

pub loop-i-preserved-then-is_entry : goal.loop-i-preserved-then-is_entry
loop-i-preserved-then-is_entry c = walking_pass c.loop-i.invariant (sym c.is_entry.ensures ∙ c.if-is_entry.true) c.rest_end-i.ensures

pub returns-then-not-is_of : goal.returns-then-not-is_of
unfolding united_from
returns-then-not-is_of c =
    walking_out c.loop-i.invariant (sym c.is_of.ensures ∙ c.if-not-is_of.true) (sym c.is_entry.ensures ∙ c.if-is_entry.false)

pub loop-i-preserved-then-is_entry-2 : goal.loop-i-preserved-then-is_entry-2
unfolding united_from
loop-i-preserved-then-is_entry-2 c =
    rw (c.united-row.ensures, c.read_alternative-read.ensures.row)
    (walking_turn c.loop-i.invariant (is_dead c.args.self.now.table.now) (sym c.is_of.ensures ∙ c.if-not-is_of.false)
    c.read_alternative-read.ensures.ended refl)

pub loop-i-preserved : goal.loop-i-preserved
loop-i-preserved c =
    rw (c.united-row-else-is_entry-2.ensures, c.start.ensures)
    (uniting_empties _ _ _ _ c.loop-i.invariant (sym c.is_of.ensures ∙ c.if-not-is_of.false)
    (tested is_entry c.word_at.ensures c.is_entry-else-not-is_of.ensures c.if-is_entry-2.false) c.empties_end-i.ensures)

pub returns : goal.returns
unfolding united_from
returns c =
    let past = get_or-eq_default c.args.self.now.part.now 0 {n = c.loop-i.i} c.loop-i-test.false in
    walking_out c.loop-i.invariant (ap (is_kind 7) past) (ap is_entry past)
