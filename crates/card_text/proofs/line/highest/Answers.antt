-- `card_text::line::highest` meets its contract: the last word that is not 0, if there is one.
-- Assumes nothing.
use Rattle.std.proofs.Common.{rules, ◌∙◌}
use Rattle.card_text.proofs.Number.{highest_is}
use Rattle.card_text.proofs.line.highest.Goals as goal

pub returns : goal.returns
returns c = c.unwrap_or.ensures ∙ highest_is c.args.words.now c.rposition.result (search rules)
