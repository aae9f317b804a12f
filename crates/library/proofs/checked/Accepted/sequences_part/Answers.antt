-- `library::checked::Accepted::sequences_part` meets its contract: an image that is accepted has two words.
-- Assumes nothing.
use Rattle.library.proofs.Accepted.{faultless}
use Rattle.library.proofs.checked.Accepted.sequences_part.Goals as goal

pub sequences_part-requires : goal.sequences_part-requires
sequences_part-requires c = (faultless _ _ c.args.self.now.accepted).low
