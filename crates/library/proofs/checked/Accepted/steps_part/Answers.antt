-- `library::checked::Accepted::steps_part` meets its contract: an image that is accepted has two words.
-- Assumes nothing.
use Rattle.std.proofs.Common.{ap, length}
use Rattle.library.proofs.Accepted.{faultless}
use Rattle.library.proofs.checked.Accepted.steps_part.Goals as goal

pub steps_part-requires : goal.steps_part-requires
steps_part-requires c = ((faultless _ _ c.args.self.now.accepted).low, ap length c.sequences_part.ensures)
