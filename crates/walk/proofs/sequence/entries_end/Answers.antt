-- `walk::sequence::entries_end` meets its contract: the words that are entries are those of the alternative.
-- Assumes nothing.
use Rattle.std.proofs.Common.{ℕ, List, length, drop, ap, arith}
use Rattle.std.specs.List.{take_while}
use Rattle.image.specs.Word.{is_entry}
use Rattle.general.proofs.Numbers.{whole_rest}
use Rattle.walk.proofs.Walking.{entries_long}
use Rattle.walk.proofs.sequence.entries_end.Goals as goal

pub returns : goal.returns
returns c =
    let a = c.args in
    omega (
      arith,
      c.entries_ahead.ensures,
      ap (λ (ws : List ℕ). length (take_while is_entry ws)) (whole_rest a.at a.part.now),
      entries_long (drop a.at a.part.now),
    )
