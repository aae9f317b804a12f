-- `rules::rules::set_before` meets its contract: what is set by the words that are left is what is set by all, as far as the fact goes.
-- Assumes nothing.
use Rattle.std.proofs.Common.{◌≡◌}
use Rattle.column.specs.Sets.{in_column}
use Rattle.rules.specs.Rules.{sets_of}
use Rattle.rules.proofs.rules.set_before.Given as goal

abbrev pub invariant-loop-w : goal.invariant-loop-w
invariant-loop-w l = in_column (sets_of 0 l.w-iterator.iter.rest.now) l.f ≡ in_column (sets_of 0 l.words) l.f
