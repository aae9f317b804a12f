-- `library::parts::sequences_part` meets its contract.
-- Assumes nothing.
use Rattle.library.proofs.Seam.{second_part}
use Rattle.library.proofs.parts.sequences_part.Goals as goal

pub returns : goal.returns
returns c = second_part _ _ _ c.words_between-words.ensures c.first_sequence-at.ensures.at
