-- `print_cards::print_input` meets its contract: what was read is answered as the whole input is.
-- Assumes nothing.
use Rattle.std.proofs.Common.{rules}
use Rattle.std.proofs.lemmas.Result.{on_ok_weaker}
use Rattle.print_cards.proofs.Whole.{whole_printed}
use Rattle.print_cards.proofs.print_input.Goals as goal

pub returns : goal.returns
returns g c =
    let read = c.in_ok-n.ensures in
    on_ok_weaker c.print.result (whole_printed _ _ _ _ c.in_ok-n.n c.read_input.new.input read.within (search rules) read.bytes.0 read.bytes.1) c.print.ensures
