-- `card_text::print::put_printed` meets its contract: an image, or too many bytes or no whole words.
-- Assumes nothing.
use Rattle.std.proofs.Common.{arith, subst}
use Rattle.text.specs.Text.{Put}
use Rattle.card_text.proofs.Printed.{printed_long, printed_odd, printed_image}
use Rattle.card_text.proofs.print.put_printed.Goals as goal
use Rattle.card_text.proofs.print.put_printed.Goals.{else-bytes-le-MOST_BYTES-via-then-bytes-le-MOST_BYTES+else-bytes-eq0, else-bytes-le-MOST_BYTES-via-else-bytes-le-MOST_BYTES}

pub returns-then-bytes-eq0 : goal.returns-then-bytes-eq0
returns-then-bytes-eq0 c =
    subst (λ t. Put c.args.text.now t c.put_words.new.text) (printed_image c.args.bytes.now (omega arith) (omega arith)) c.put_words.ensures

pub returns-else-bytes-le-MOST_BYTES : goal.returns-else-bytes-le-MOST_BYTES
returns-else-bytes-le-MOST_BYTES c =
    let bytes = c.args.bytes.now in
    subst (λ t. Put c.args.text.now t c.put_answer.new.text)
    (elim c.else-bytes-le-MOST_BYTES.branch [
      | else-bytes-le-MOST_BYTES-via-then-bytes-le-MOST_BYTES+else-bytes-eq0 w ↦ printed_odd bytes w.if-bytes-le-MOST_BYTES.true w.if-bytes-eq0.false
      | else-bytes-le-MOST_BYTES-via-else-bytes-le-MOST_BYTES w ↦ printed_long bytes w.if-bytes-le-MOST_BYTES.false
    ])
    c.put_answer.ensures
