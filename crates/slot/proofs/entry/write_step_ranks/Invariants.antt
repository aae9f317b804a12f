-- `slot::entry::write_step_ranks` meets its contract: the ranks of the steps so far are written.
-- Assumes nothing.
use Rattle.std.proofs.Common.{◌≡◌, ℕ, ◌<◌, slice_index_or}
use Rattle.slot.specs.Slots.{step_rank}
use Rattle.slot.proofs.entry.write_step_ranks.Given as goal

abbrev pub invariant-loop-a : goal.invariant-loop-a
invariant-loop-a l = (j : ℕ) → j < l.a → slice_index_or l.rank-items j 0 ≡ step_rank l.all l.q l.masks j
