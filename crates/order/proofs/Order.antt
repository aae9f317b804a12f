-- Orders: what holds at the heads of the loops that mark the numbers which an order names, and that write the numbers in turn.
-- Assumes nothing.
use Rattle.std.proofs.Common.{◌≡◌, ℕ, ◌+◌, ◌<◌, ◌≤◌, ◌/◌, refl, length-set, List, length, get_or, take, set, sym, ◌∙◌, arith, length-take-le, get_or-set_other, get_or-take, get_or-set_same, below_more}
use native.Mathlib.Decide.{ℕ_discrete}
use mathlib.Core.Bool.{false≢true}
use Rattle.general.specs.Numbers.{Complete}
use Rattle.general.proofs.Numbers.{zeros}
use Rattle.callers.specs.Callers.{no_sequences, with_member}
use Rattle.callers.proofs.CallerSets.{member_other, none_member}
use Rattle.order.specs.Order.{MarksNamed, InTurn}

-- what holds at the head of the loop that marks: the set has its words, and what is in it is named
pub record Marking (order seen : List ℕ) : Type 0 where
  pub four : length seen ≡ 4
  pub named : MarksNamed order seen

-- a mark for the number at place i
pub marked_turn : (order seen : List ℕ) (i c : ℕ) → i < length order → get_or order i 0 ≡ c → c < 256 → Marking order seen → Marking order (with_member seen c)
marked_turn order seen i c l is low p =
    record {
      four = length-set seen (c / 64) _ ∙ p.four;
      named = λ d e. elim (ℕ_discrete d c) [
        | yes same ↦ record { place = i; within = l; number = is ∙ sym same }
        | no other ↦ p.named d (sym (member_other seen c (omega (arith, p.four)) d other) ∙ e)
      ];
    }

pub marked_start : (order : List ℕ) → Marking order no_sequences
marked_start order = record { four = refl; named = λ c e. absurd (false≢true (sym (none_member no_sequences (zeros 4) c) ∙ e)) }

-- number c at place c
pub in_turn_next : (order : List ℕ) (c : ℕ) → c < length order → InTurn order c → InTurn (set order c c) (c + 1)
in_turn_next order c l so_far =
    below_more (λ (k : ℕ). get_or (set order c c) k 0 ≡ k) c (λ k lt. get_or-set_other order c k c 0 (λ e. omega arith) ∙ so_far k lt) (get_or-set_same order c c 0 l)

-- the numbers in turn are all named
pub in_turn_complete : (order : List ℕ) (n : ℕ) → n ≤ length order → InTurn order n → Complete (take n order) n
in_turn_complete order n room numbers c l =
    record { place = c; within = omega (arith, length-take-le n order room); number = get_or-take n order c 0 l ∙ numbers c l }
