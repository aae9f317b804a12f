-- The rule for the head, member by member.
-- Assumes nothing.
use Prim.Native.Nat.{ℕ, ◌≤◌}
use mathlib.Core.Path.{◌≡◌}
use mathlib.Core.Bool.{true}
use native.Mathlib.Omega.{arith}
use Rattle.std.proofs.lemmas.Bool.Decides.{nat_tests}
use Rattle.image.specs.Word.{most_facts, most_steps, most_sequences, is_kind, head_of, head_right}

pub record HeadRule (w : ℕ) : Type 0 where
  pub first : is_kind 1 w ≡ true
  pub facts_low : 1 ≤ (head_of w).facts
  pub facts_high : (head_of w).facts ≤ most_facts
  pub steps_high : (head_of w).steps ≤ most_steps
  pub sequences_high : (head_of w).sequences ≤ most_sequences

pub head_rule : (w : ℕ) → head_right w ≡ true → HeadRule w
head_rule w right =
    record {
      first = grind (arith, nat_tests);
      facts_low = grind (arith, nat_tests);
      facts_high = grind (arith, nat_tests);
      steps_high = omega arith;
      sequences_high = grind (arith, nat_tests);
    }
