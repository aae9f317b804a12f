-- `card_text::line::put_lines` meets its contract: from the last sequence to the first.
-- Assumes nothing.
use Rattle.std.proofs.Common.{arith, ◌-◌}
use Rattle.card_text.specs.Writers.{numbers_of}
use Rattle.card_text.proofs.Lines.{lines_start, lines_next, lines_end}
use Rattle.card_text.proofs.line.put_lines.Goals as goal

pub loop-c-init : goal.loop-c-init
loop-c-init c = lines_start (numbers_of c.args.cards.now) c.args.n c.args.text.now

pub put_line-requires : goal.put_line-requires
put_line-requires c = (omega (arith, c.loop-c.invariant.within), omega arith)

pub loop-c-preserved : goal.loop-c-preserved
loop-c-preserved c = lines_next _ _ _ (c.loop-c.c - 1) c.loop-c.c _ _ (omega arith) (omega arith) c.loop-c.invariant c.put_line.ensures

pub returns : goal.returns
returns c = lines_end _ _ _ _ _ (omega arith) c.loop-c.invariant
