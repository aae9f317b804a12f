-- `reader::check::Part::read_body` meets its contract.
-- Assumes nothing.
use Rattle.std.proofs.Common.{◌+◌, sym, ◌∙◌, arith, get_or, take}
use Rattle.rules.specs.Rules.{sets_of}
use Rattle.rules.specs.Quick.{with_last}
use Rattle.rules.proofs.Right.{body_passing}
use Rattle.reader.proofs.Walk.{read_pass, read_on}
use Rattle.reader.proofs.check.Part.read_body.Goals as goal

pub loop-body-preserved : goal.loop-body-preserved
loop-body-preserved c =
    let e = c.args.e in
    let ws = c.args.self.now.words.now in
    let i = c.loop-body.body.next in
    let w = get_or ws i 0 in
    read_on _ ws e _ (with_last e w) (i + 1)
    (read_pass _ ws e _ _ i c.loop-body.invariant (with_last e w) (omega arith)
    (body_passing _ e _ w (sym c.body_right.ensures ∙ c.if-not-body_right.false) (sets_of 0 (take i ws)))) _ _ (c.read_fours-body.ensures e (omega arith))
