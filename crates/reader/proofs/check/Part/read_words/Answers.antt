-- `reader::check::Part::read_words` meets its contract.
-- Assumes nothing.
use Rattle.std.proofs.Common.{◌∙◌, arith}
use Rattle.reader.proofs.Walk.{read_refused, read_end, reading_turn}
use Rattle.reader.proofs.check.Part.read_words.Goals as goal

pub returns-in-Some : goal.returns-in-Some
returns-in-Some c =
    read_refused _ _ c.args.before c.args.from _ c.loop-i.i c.loop-i.invariant.read _ c.in-Some.r _ (omega arith) c.in-Some.is c.first_fault.ensures

pub loop-i-preserved : goal.loop-i-preserved
loop-i-preserved c =
    rw c.past-e.ensures
    (reading_turn _ _ _ c.args.before c.args.from _ c.loop-i.i c.loop-i.invariant _ (omega arith) c.in_default.is c.first_fault.ensures)

pub returns : goal.returns
returns c = c.ended.ensures ∙ read_end _ _ c.args.before c.args.from _ c.loop-i.i c.loop-i.invariant.read _ (omega arith)
