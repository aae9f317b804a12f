-- `image::fours::fours_ahead` meets its contract: each word that was passed keeps the test.
-- Assumes nothing.
use Rattle.std.proofs.Common.{◌≡◌, ℕ, true, ◌<◌, ◌≤◌, length, get_or, drop}
use Rattle.std.specs.Slice.Iter.{chunks_exact_rest, chunks_exact_size}
use Rattle.image.proofs.fours.fours_ahead.Given as goal

abbrev pub invariant-loop-four : goal.invariant-loop-four
invariant-loop-four g l = record {
  within : l.passed ≤ length l.words;
  each : (i : ℕ) → i < l.passed → g.F.Fn.post l.test (get_or l.words i 0, record {}) true;
  rest : chunks_exact_rest l.four-iterator ≡ drop l.passed l.words;
  size : chunks_exact_size l.four-iterator ≡ 4;
}
