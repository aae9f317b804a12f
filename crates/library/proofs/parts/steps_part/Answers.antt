-- `library::parts::steps_part` meets its contract: the first part has the words that the second has not.
-- Assumes nothing.
use Rattle.library.proofs.Seam.{rest_within, seam_at, first_part}
use Rattle.library.proofs.parts.steps_part.Goals as goal

pub overflow_sub-at : goal.overflow_sub-at
overflow_sub-at c = rest_within _ _ c.words_between-words.ensures _ c.requires.1

pub returns : goal.returns
returns c =
    let words = c.words_between-words.ensures in
    first_part _ _ _ words (seam_at _ _ words _ c.requires.1)
