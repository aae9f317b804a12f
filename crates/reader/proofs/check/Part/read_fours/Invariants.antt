-- `reader::check::Part::read_fours` meets its contract.
-- Assumes nothing.
use Rattle.std.proofs.Common.{◌≡◌, ◌≤◌, drop, length}
use Rattle.std.specs.Slice.Iter.{chunks_exact_rest, chunks_exact_size}
use Rattle.reader.proofs.Walk.{Fours}
use Rattle.reader.proofs.check.Part.read_fours.Given as goal

abbrev pub invariant-loop-four : goal.invariant-loop-four
invariant-loop-four l = record {
  within : l.next ≤ length l.self.words.now;
  fours : Fours l.self.head l.self.words.now l.last l.at l.before l.next;
  rest : chunks_exact_rest l.four-iterator ≡ drop l.next l.self.words.now;
  size : chunks_exact_size l.four-iterator ≡ 4;
}
