-- `card_text::print::put_cards` meets its contract: the card call, and the text of its answer.
-- Assumes nothing.
use Rattle.std.proofs.Common.{arith, subst}
use Rattle.text.specs.Text.{Put}
use Rattle.card_text.proofs.Printed.{answer_text_lem}
use Rattle.card_text.proofs.print.put_cards.Goals as goal

pub returns : goal.returns
returns c = subst (λ t. Put c.args.text.now t c.put_answer.new.text) (answer_text_lem c.args.image.now _ (omega arith) _ _ c.cards-found.ensures) c.put_answer.ensures
