-- `walk::sequence::rest_end` meets its contract: the words that were passed are entries.
-- Assumes nothing.
use Rattle.std.proofs.Common.{ℕ, List, get_or, sym, ap, ◌∙◌}
use Rattle.general.proofs.Numbers.{whole_rest}
use Rattle.image.specs.Word.{is_entry}
use Rattle.walk.proofs.Walking.{passed_below}
use Rattle.walk.proofs.sequence.rest_end.Goals as goal

pub returns : goal.returns
returns c =
    let a = c.args in
    c.entries_end.ensures
    ∙ passed_below a.part.now a.at c.fours_ahead.result
    (λ i l. ap (λ (ws : List ℕ). is_entry (get_or ws i 0)) (sym (whole_rest a.at a.part.now)) ∙ sym (c.fours_ahead.ensures.pass i l))
