-- `slot::entry::rank_of` meets its contract: the word of an entry is its rank.
-- Assumes nothing.
use Rattle.slot.proofs.Slots.{slot_rank}
use Rattle.slot.proofs.entry.rank_of.Goals as goal

pub returns : goal.returns
returns c = λ past. rw c.slot_of.ensures (slot_rank c.args.none c.args.w c.args.ranks.now c.requires.0 c.requires.1 past)
