-- `image::word::is_entry` meets its contract: the kinds of entries are the bits of a number.
-- Assumes nothing.
use native.Mathlib.Omega.{arith}
use Rattle.image.proofs.Words.{entry_bit}
use Rattle.image.proofs.word.is_entry.Goals as goal

pub returns : goal.returns
returns c = entry_bit c.args.w (omega arith)
