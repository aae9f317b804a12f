-- The starred samples hold: those about calls by computation, those about execution by the steps of the runs.
-- Assumes nothing.
use Prim.Native.Nat.{ℕ, zero, suc, ◌<◌}
use native.Mathlib.Omega.{arith}
use mathlib.Core.Path.{◌≡◌, refl, sym, ◌∙◌, ap}
use mathlib.Core.Bool.{Bool, true, false, ◌&&◌, ◌||◌, false≢true}
use mathlib.Core.List.{List, [], ◌∷◌}
use borrow.Author.Tests.{ne_eqb}
use Rattle.general.specs.Tests.{some, All}
use Rattle.column.specs.Column.{bit}
use Rattle.column.specs.Sets.{in_column}
use Rattle.rules.specs.Checked.{scan, checked}
use Rattle.library.specs.Library.{Library, has, library_of, Item, step, check}
use Rattle.rules.specs.Rules.{opened, last_of, sets_of}
use Rattle.general.specs.Numbers.{total}
use Rattle.image.specs.Word.{running_sums}
use Rattle.runs.specs.Run.{Run, Gives, nothing, by_item, by_call, alternative_of}
use Rattle.runs.specs.Execution.{Fact, State, Executes, end}
use Rattle.runs.specs.Possible.{possible}
use Rattle.cards.specs.Card.{card, cards}
use Rattle.cards.specs.Composed.{list_card}
use Rattle.chains.specs.Link.{chain_words}
use Rattle.endings.specs.Reached.{endless_list}
use Rattle.chains.specs.Call.{chained}
use Rattle.text.specs.Words.{words_of}
use Rattle.text.specs.Number.{numeral, numeral_in}
use Rattle.card_text.specs.Line.{spaced, card_line, lines_from, card_lines, refusal_line}
use Rattle.card_text.specs.Print.{printed}
use Rattle.agreement.specs.Samples.{L, endless_first, clear_then_need, skips, standing, executes, fails, Holds, starred, SealHolds, sealings}

-- what a step without needs asks
no_need : (K : Library) (s : State K) (f : ℕ) → has f [] ≡ true → (low : f < K.facts) × (s (f, low) ≡ true)
unfolding has
no_need K s f e = absurd (false≢true e)

-- and what one asks that needs fact 0
need_zero : (K : Library) (s : State K) (below : 0 < K.facts) → s (0, below) ≡ true → (f : ℕ) → has f (0 ∷ []) ≡ true
    → (low : f < K.facts) × (s (f, low) ≡ true)
unfolding has
need_zero K s below stands zero e = (below, stands)
need_zero K s below stands (suc f) e =
    absurd (false≢true (sym (ap (λ (b : Bool). b || false) (ne_eqb 0 (suc f) (λ same. omega arith))) ∙ e))

-- ---- the runs of the samples

both_steps : Holds (executes L 1 (step 0 ∷ step 1 ∷ []) [] (0 ∷ 1 ∷ []))
unfolding library_of has
both_steps = (
  record { alternative = 0; listed = omega arith; given = by_call {c = 0} 0 (omega arith) (by_item nothing) (by_item nothing) refl },
  (
    no_need (library_of L) (standing (library_of L) []),
    (need_zero (library_of L) (end (library_of L) (step 0 ∷ []) (standing (library_of L) [])) (omega arith) refl, tt),
  ),
  ends,
)
  where
    ends : (f : Fact (library_of L)) → end (library_of L) (step 0 ∷ step 1 ∷ []) (standing (library_of L) []) f ≡ has f.0 (0 ∷ 1 ∷ [])
    ends (zero, low) = refl
    ends (suc zero, low) = refl
    ends (suc (suc zero), low) = refl
    ends (suc (suc (suc f)), low) = absurd (omega arith)

-- <step 1>, with sequence 0 by its empty alternative
second_step : Run (library_of L) 1 (step 1 ∷ [])
unfolding library_of has
second_step = record { alternative = 0; listed = omega arith; given = by_call {c = 0} 1 (omega arith) nothing (by_item nothing) refl }

second_fails : Holds (fails L 1 (step 1 ∷ []) [])
unfolding library_of has
second_fails = (second_step, λ executing. false≢true (executing.0 0 refl).1)

second_executes : Holds (executes L 1 (step 1 ∷ []) (0 ∷ []) (0 ∷ 1 ∷ []))
unfolding library_of has
second_executes = (second_step, (need_zero (library_of L) (standing (library_of L) (0 ∷ [])) (omega arith) refl, tt), ends)
  where
    ends : (f : Fact (library_of L)) → end (library_of L) (step 1 ∷ []) (standing (library_of L) (0 ∷ [])) f ≡ has f.0 (0 ∷ 1 ∷ [])
    ends (zero, low) = refl
    ends (suc zero, low) = refl
    ends (suc (suc zero), low) = refl
    ends (suc (suc (suc f)), low) = absurd (omega arith)

clear_executes : Holds (executes endless_first 0 (step 1 ∷ []) (0 ∷ []) [])
unfolding library_of has
clear_executes = (record { alternative = 1; listed = omega arith; given = by_item nothing }, (no_need (library_of endless_first) (standing (library_of endless_first) (0 ∷ [])), tt), ends)
  where
    ends : (f : Fact (library_of endless_first)) → end (library_of endless_first) (step 1 ∷ []) (standing (library_of endless_first) (0 ∷ [])) f ≡ has f.0 []
    ends (zero, low) = refl
    ends (suc f, low) = absurd (omega arith)

-- "Alternative <clear f, need f>: always needed, though no run executes.": its runs are <step 0, step 1>, and whichever facts stand at the
-- start, f does not stand when step 1 comes
cleared : (b : Bool) → (b && false || false) ≡ false
cleared true = refl
cleared false = refl

never_twice : (s : State (library_of clear_then_need)) → ¬ Executes (library_of clear_then_need) (step 0 ∷ step 1 ∷ []) s
unfolding library_of has
never_twice s executing = let (low, stands) = executing.1.0 0 refl in false≢true (sym (cleared (s (0, low))) ∙ stands)

pub never_executes : (w : List Item) → Run (library_of clear_then_need) 0 w → (s : State (library_of clear_then_need)) → ¬ Executes (library_of clear_then_need) w s
unfolding library_of has
never_executes w run s executing = go run.alternative run.listed w run.given executing
  where
    go : (i : ℕ) → i < 1 → (v : List Item) → Gives (library_of clear_then_need).sequences (alternative_of (library_of clear_then_need).sequences 0 i) v
        → ¬ Executes (library_of clear_then_need) v s
    go zero l v (by_item (by_item nothing)) ex = never_twice s ex
    go (suc i) l v given ex = absurd (omega arith)

need_fails : Holds (fails clear_then_need 0 (step 0 ∷ step 1 ∷ []) (0 ∷ []))
unfolding library_of has
need_fails =
    (record { alternative = 0; listed = omega arith; given = by_item (by_item nothing) }, never_twice (standing (library_of clear_then_need) (0 ∷ [])))

-- a check that is met, and one that is not
check_run : Run (library_of skips) 0 (check 0 ∷ [])
unfolding library_of
check_run = record { alternative = 0; listed = omega arith; given = by_item nothing }

check_executes : Holds (executes skips 0 (check 0 ∷ []) (0 ∷ []) (0 ∷ []))
unfolding library_of has
check_executes = (check_run, (need_zero (library_of skips) (standing (library_of skips) (0 ∷ [])) (omega arith) refl, tt), ends)
  where
    ends : (f : Fact (library_of skips)) → end (library_of skips) (check 0 ∷ []) (standing (library_of skips) (0 ∷ [])) f ≡ has f.0 (0 ∷ [])
    ends (zero, low) = refl
    ends (suc f, low) = absurd (omega arith)

check_fails : Holds (fails skips 0 (check 0 ∷ []) [])
unfolding library_of has
check_fails = (check_run, λ executing. false≢true (executing.0 0 refl).1)

-- ---- the one fact

pub starred_hold : All Holds starred
unfolding checked scan total running_sums opened last_of sets_of in_column bit library_of has possible cards card chained chain_words printed words_of card_lines lines_from card_line spaced numeral numeral_in refusal_line list_card some endless_list
starred_hold =
    (refl, (refl, (refl, (refl, (refl, (refl, (refl, (refl, (both_steps, (second_fails, (second_executes, (refl, (refl, (refl, (refl, (refl, (refl, (refl, (clear_executes, (refl, (need_fails, (refl, (refl, (refl, (refl, (refl, (refl, (refl, (check_executes, (check_fails, (refl, (refl, (refl, (refl, (refl, (refl, (refl, (refl, (refl, (refl, (refl, (refl, (refl, (refl, (refl, (refl, (refl, (refl, (refl, (refl, (refl, (refl, (refl, (refl, (refl, (refl, (refl, (refl, (refl, (refl, (refl, (refl, (refl, (refl, (refl, (refl, (refl, (refl, (refl, (refl, (refl, (refl, (refl, (refl, (refl, (refl, (refl, (refl, (refl, (refl, (refl, (refl, (refl, (refl, (refl, tt)))))))))))))))))))))))))))))))))))))))))))))))))))))))))))))))))))))))))))))))))))))

pub sealings_hold : All SealHolds sealings
unfolding total running_sums
sealings_hold = (refl, (refl, (refl, (refl, (refl, (refl, (refl, (refl, tt))))))))
