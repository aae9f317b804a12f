-- `library::tables::pass_back` meets its contract: none of the words that were passed opens a sequence.
-- Assumes nothing.
use Rattle.std.proofs.Common.{◌≡◌, ◌≤◌, ◌++◌, length, take}
use Rattle.std.specs.Slice.Exact.{rchunks_exact_remainder, rchunks_exact_rest, rchunks_exact_size}
use Rattle.library.specs.Tables.{NoPlaces}
use Rattle.library.proofs.tables.pass_back.Given as goal

abbrev pub invariant-loop-four : goal.invariant-loop-four
invariant-loop-four l = record {
  within : l.i ≤ length l.part;
  none : NoPlaces l.part l.i l.end;
  parts : take l.i l.part ≡ rchunks_exact_remainder l.four-iterator ++ rchunks_exact_rest l.four-iterator;
  size : rchunks_exact_size l.four-iterator ≡ 4;
}
