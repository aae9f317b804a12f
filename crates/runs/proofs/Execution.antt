-- What the outcomes of a run say of its start and its end, in any domain: the five sentences of demand 3 over runs, and what stands at the end
-- of a run that executes (document 02, request 4). Only the first and the last ask that it executes.
use Prim.Native.Nat.{ℕ, ◌<◌}
use mathlib.Core.Path.{◌≡◌, refl, sym, ◌∙◌, ap, subst}
use mathlib.Core.Logic.{◌⊎◌, inl, inr, ⊎_elim}
use mathlib.Core.Bool.{Bool, true, false, not, ◌&&◌, ◌||◌, cond, false≢true, true≢false}
use mathlib.Core.List.{List, [], ◌∷◌}
use native.Mathlib.Bridge.{le_prop}
use Rattle.library.specs.Library.{has, Item}
use Rattle.general.proofs.Bools.{and_parts, or_cases}
use Rattle.runs.specs.Domain.{Domain, Fact, State, apply, Executes, end}
use Rattle.runs.specs.Touch.{Mark, present, absent, untouched, or_else, Side, last, first, touch, decided}
use Rattle.runs.specs.View.{standing_mark}
use Rattle.runs.specs.Algebra.{same_mark}
use Rattle.runs.proofs.Outcome.{or_else_cases, or_else_none}

-- the outcome of a run in a domain, on a side and of what stands at the end
abbrev pub outcome_in : Domain → Side → ℕ → List Item → Mark
outcome_in D side f w = decided side (λ x. touch side (D.action x) f) w

abbrev pub standing_in : Domain → ℕ → List Item → Mark
standing_in D f w = decided last (λ x. standing_mark (D.action x) f) w

-- whether a fact stands after a last touch, by whether it stood before
abbrev pub after : Mark → Bool → Bool
after present b = true
after absent b = false
after untouched b = b

-- a step leaves a fact as its touch on the last side says
apply_touch : (sets clears b : Bool) → (b && not clears || sets) ≡ after (cond sets present (cond clears absent untouched)) b
apply_touch true true true = refl
apply_touch true true false = refl
apply_touch true false true = refl
apply_touch true false false = refl
apply_touch false true true = refl
apply_touch false true false = refl
apply_touch false false true = refl
apply_touch false false false = refl

after_or_else : (m n : Mark) (b : Bool) → after m (after n b) ≡ after (or_else m n) b
after_or_else present n b = refl
after_or_else absent n b = refl
after_or_else untouched n b = refl

-- what stands at the end of a run is decided by its outcome on the last side and by what stood at the start
pub end_after : (D : Domain) (f : Fact D) (w : List Item) (s : State D) → end D w s f ≡ after (outcome_in D last f.0 w) (s f)
unfolding decided
end_after D f [] s = refl
end_after D f (x ∷ w) s =
    end_after D f w (apply D (D.action x) s)
    ∙ (ap (after (outcome_in D last f.0 w)) (apply_touch (has f.0 (D.action x).sets) (has f.0 (D.action x).clears) (s f))
    ∙ after_or_else (outcome_in D last f.0 w) (touch last (D.action x) f.0) (s f))

-- a fact first touched by a need stood at the start
pub needed_first : (needs sets : Bool) (m : Mark) → or_else (cond needs present (cond sets absent untouched)) m ≡ present
    → (needs ≡ true) ⊎ ((sets ≡ false) × (m ≡ present))
needed_first true sets m e = inl refl
needed_first false true m e = absurd (false≢true (ap (same_mark present) e))
needed_first false false m e = inr (refl, e)

stood_before : (b clears sets : Bool) → sets ≡ false → (b && not clears || sets) ≡ true → b ≡ true
stood_before b clears sets q e =
    ⊎_elim (λ p. (and_parts b (not clears) p).0) (λ p. absurd (false≢true (sym q ∙ p))) (or_cases (b && not clears) sets e)

-- a need that is met
needed_now : (D : Domain) (f : Fact D) (x : Item) (s : State D) → ((g : ℕ) → has g (D.action x).needs ≡ true → (below : g < D.facts) × (s (g, below) ≡ true))
    → has f.0 (D.action x).needs ≡ true → s f ≡ true
needed_now D f x s met e = let n = met f.0 e in subst (λ h. s (f.0, h) ≡ true) (le_prop n.0 f.1) n.1

-- "each fact in "always needed" stood at the start"
pub needed_stood : (D : Domain) (f : Fact D) (w : List Item) (s : State D) → Executes D w s → outcome_in D first f.0 w ≡ present → s f ≡ true
unfolding decided
needed_stood D f [] s ex e = absurd (false≢true (ap (same_mark present) e))
needed_stood D f (x ∷ w) s ex e =
    ⊎_elim
    (needed_now D f x s ex.0)
    (λ p. stood_before (s f) (has f.0 (D.action x).clears) (has f.0 (D.action x).sets) p.0
    (needed_stood D f w (apply D (D.action x) s) ex.1 p.1))
    (needed_first (has f.0 (D.action x).needs) (has f.0 (D.action x).sets) (outcome_in D first f.0 w) e)

-- a fact that a last touch changes
pub after_gained : (m : Mark) (b : Bool) → after m b ≡ true → b ≡ false → m ≡ present
after_gained present b e q = refl
after_gained absent b e q = absurd (false≢true e)
after_gained untouched b e q = absurd (false≢true (sym q ∙ e))

pub after_lost : (m : Mark) (b : Bool) → after m b ≡ false → b ≡ true → m ≡ absent
after_lost present b e q = absurd (true≢false e)
after_lost absent b e q = refl
after_lost untouched b e q = absurd (true≢false (sym q ∙ e))

module _ (D : Domain) (f : Fact D) (w : List Item) (s : State D) where
  -- "each in "always set" stands at the end"
  pub set_stands : outcome_in D last f.0 w ≡ present → end D w s f ≡ true
  set_stands e = end_after D f w s ∙ ap (λ m. after m (s f)) e

  -- "and none in "always cleared" does"
  pub cleared_falls : outcome_in D last f.0 w ≡ absent → end D w s f ≡ false
  cleared_falls e = end_after D f w s ∙ ap (λ m. after m (s f)) e

  -- "A fact that stands at the end and not at the start is in "may set""
  pub gained_set : end D w s f ≡ true → s f ≡ false → outcome_in D last f.0 w ≡ present
  gained_set e q = after_gained (outcome_in D last f.0 w) (s f) (sym (end_after D f w s) ∙ e) q

  -- "one that stands at the start and not at the end in "may clear""
  pub lost_cleared : s f ≡ true → end D w s f ≡ false → outcome_in D last f.0 w ≡ absent
  lost_cleared q e = after_lost (outcome_in D last f.0 w) (s f) (sym (end_after D f w s) ∙ e) q

-- ---- what stands at the end

-- of one item that executes: a fact that it marks as standing stands after it, and one without a mark stands as before
marked_stands : (needs sets clears b : Bool) → (needs ≡ true → b ≡ true) → cond clears absent (cond (sets || needs) present untouched) ≡ present
    → (b && not clears || sets) ≡ true
marked_stands needs sets true b stood e = absurd (false≢true (ap (same_mark present) e))
marked_stands needs true false true stood e = refl
marked_stands needs true false false stood e = refl
marked_stands true false false b stood e = rw (stood refl) refl
marked_stands false false false b stood e = absurd (false≢true (ap (same_mark present) e))

unmarked_stays : (needs sets clears b : Bool) → cond clears absent (cond (sets || needs) present untouched) ≡ untouched → (b && not clears || sets) ≡ b
unmarked_stays needs sets true b e = absurd (false≢true (ap (same_mark untouched) e))
unmarked_stays needs true false b e = absurd (false≢true (ap (same_mark untouched) e))
unmarked_stays true false false b e = absurd (false≢true (ap (same_mark untouched) e))
unmarked_stays false false false true e = refl
unmarked_stays false false false false e = refl

-- a run that executes: a fact that it leaves standing stands at its end, and one that no item mentions stands as at its start
pub record Stood (D : Domain) (f : Fact D) (w : List Item) (s : State D) : Type 0 where
  pub stands : standing_in D f.0 w ≡ present → end D w s f ≡ true
  pub stays : standing_in D f.0 w ≡ untouched → end D w s f ≡ s f

pub end_standing : (D : Domain) (f : Fact D) (w : List Item) (s : State D) → Executes D w s → Stood D f w s
unfolding decided
end_standing D f [] s ex = record { stands = λ e. absurd (false≢true (ap (same_mark present) e)); stays = λ e. refl }
end_standing D f (x ∷ w) s ex =
    let rest = end_standing D f w (apply D (D.action x) s) ex.1 in
    let needs = has f.0 (D.action x).needs in
    let sets = has f.0 (D.action x).sets in
    let clears = has f.0 (D.action x).clears in
    let met = needed_now D f x s ex.0 in
    record {
      stands = λ e.
          ⊎_elim (λ p. rest.stays p.0 ∙ marked_stands needs sets clears (s f) met p.1) rest.stands
          (or_else_cases (standing_in D f.0 w) (standing_mark (D.action x) f.0) present e);
      stays = λ e.
          let p = or_else_none (standing_in D f.0 w) (standing_mark (D.action x) f.0) e in
          rest.stays p.0 ∙ unmarked_stays needs sets clears (s f) p.1;
    }
