-- The columns of the outcome table and the questions: each says what some run has, and an "always" column what every run has.
use Prim.Native.Nat.{ℕ}
use mathlib.Core.Path.{◌≡◌, refl, sym, ◌∙◌, ap, subst}
use mathlib.Core.Logic.{◌↔◌, ◌≢◌, ◌⊎◌, inl, inr, ⊎_elim, by_cases}
use mathlib.Core.Bool.{Bool, true, false, not, false≢true, true≢false}
use mathlib.Core.List.Memᴰ
use mathlib.Core.List.{List, [], ◌∷◌}
use Rattle.library.specs.Library.{Library, Item, step, check}
use Rattle.general.proofs.Bools.{and_parts, and_both, or_cases, or_left, or_right, passes_or_not}
use Rattle.runs.specs.Run.{Run, NoRun, Empty}
use Rattle.runs.specs.Touch.{Question, rival, untouched_on, other_touch, HasOutcome, Mark, present, absent, untouched}
use Rattle.runs.specs.View.{View, touches, view_mark, view_side, view_outcome}
use Rattle.runs.specs.Algebra.{outcome, empty_algebra, side_algebra, same_mark, same_mark_refl, same_mark_eq}
use Rattle.runs.specs.Possible.{Column, column_has, view_column, empty_column, run_column, is_check, possible_in, possible_outcome}
use Rattle.runs.specs.Possible.{has_run, has_empty_run, broken_in, always_in}
use borrow.Author.Tests.{not-true}
use Rattle.runs.proofs.Outcome.{decided_outcome}
use Rattle.runs.proofs.Possible.{possible_iff}

-- each column: exactly when some run has its outcome
pub column_iff : (K : Column) (L : Library) (c f : ℕ)
    → (column_has K L c f ≡ true) ↔ ((w : List Item) × Run L c w × (outcome K.algebra (K.marking L f) w ≡ K.asked))
column_iff K L c f = possible_iff L.sequences K.algebra (K.marking L f) c K.asked

-- an outcome in a view
pub view_iff : (L : Library) (v : View) (m : Mark) (c f : ℕ)
    → (possible_in L v m c f ≡ true) ↔ ((w : List Item) × Run L c w × (view_outcome L v f w ≡ m))
view_iff L v m c f = (
  (λ e. let r = (column_iff (view_column v m) L c f).0 e in (r.0, r.1, same r.0 ∙ r.2)),
  λ r. (column_iff (view_column v m) L c f).1 (r.0, r.1, sym (same r.0) ∙ r.2),
)
  where
    same : (w : List Item) → view_outcome L v f w ≡ outcome (side_algebra (view_side v)) (view_mark L v f) w
    same w = decided_outcome (view_side v) (view_mark L v f) w

-- each question
pub question_iff : (L : Library) (q : Question) (c f : ℕ) → (possible_outcome L q c f ≡ true) ↔ ((w : List Item) × Run L c w × HasOutcome L q f w)
question_iff L q c f = view_iff L (touches q.side) q.mark c f

-- "a run exists"
pub has_run_iff : (L : Library) (c : ℕ) → (has_run L c ≡ true) ↔ ((w : List Item) × Run L c w)
has_run_iff L c = (
  (λ e. let r = (column_iff run_column L c 0).0 e in (r.0, r.1)),
  λ r. (column_iff run_column L c 0).1 (r.0, r.1, refl),
)

pub no_run_iff : (L : Library) (c : ℕ) → (has_run L c ≡ false) ↔ NoRun L c
no_run_iff L c = (
  (λ e w run. false≢true (sym e ∙ (has_run_iff L c).1 (w, run))),
  λ none. ⊎_elim (λ e. let r = (has_run_iff L c).0 e in absurd (none r.0 r.1)) (λ e. e) (passes_or_not (has_run L c)),
)

-- without a run every column is blank
pub blank_columns : (K : Column) (L : Library) (c f : ℕ) → has_run L c ≡ false → column_has K L c f ≡ false
blank_columns K L c f none =
    ⊎_elim
    (λ e. let r = (column_iff K L c f).0 e in absurd ((no_run_iff L c).0 none r.0 r.1))
    (λ e. e)
    (passes_or_not (column_has K L c f))

-- "an empty run exists": every item of a run passes the test that no step passes exactly when the run has no step
empty_steps : (w : List Item) → outcome empty_algebra is_check w ≡ true → Empty w
unfolding outcome
empty_steps [] e a m = Memᴰ.not-nil m
empty_steps (step b ∷ w) e a m = false≢true e
empty_steps (check f ∷ w) e a m = ⊎_elim (λ q. true≢false (sym (ap is_check q))) (empty_steps w e a) (Memᴰ.cases_cons m)

steps_empty : (w : List Item) → Empty w → outcome empty_algebra is_check w ≡ true
unfolding outcome
steps_empty [] none = refl
steps_empty (step a ∷ w) none = absurd (none a (Memᴰ.head refl))
steps_empty (check f ∷ w) none = steps_empty w (λ a m. none a (Memᴰ.tail m))

pub has_empty_run_iff : (L : Library) (c : ℕ) → (has_empty_run L c ≡ true) ↔ ((w : List Item) × Run L c w × Empty w)
has_empty_run_iff L c = (
  (λ e. let r = (column_iff empty_column L c 0).0 e in (r.0, r.1, empty_steps r.0 r.2)),
  λ r. (column_iff empty_column L c 0).1 (r.0, r.1, steps_empty r.0 r.2),
)

-- marks can be told apart
Mark-discrete : (m n : Mark) → Dec (m ≡ n)
Mark-discrete m n = go (same_mark m n) refl
  where
    go : (b : Bool) → same_mark m n ≡ b → Dec (m ≡ n)
    go true e = yes (same_mark_eq m n e)
    go false e = no (λ p. false≢true (sym e ∙ (ap (same_mark m) (sym p) ∙ same_mark_refl m)))

-- a run that breaks the rule of a touch has one of its two rival outcomes
other_marks : (m n : Mark) → m ≢ untouched → n ≢ m → (n ≡ other_touch m) ⊎ (n ≡ untouched)
other_marks present present touch other = absurd (other refl)
other_marks present absent touch other = inl refl
other_marks present untouched touch other = inr refl
other_marks absent present touch other = inl refl
other_marks absent absent touch other = absurd (other refl)
other_marks absent untouched touch other = inr refl
other_marks untouched n touch other = absurd (touch refl)

rival_differs : (m : Mark) → m ≢ untouched → other_touch m ≢ m
rival_differs present touch e = false≢true (ap (same_mark present) e)
rival_differs absent touch e = false≢true (ap (same_mark absent) e)
rival_differs untouched touch e = touch refl

-- a run that does not have a mark in a view has one of its two rivals
pub breaks_view : (L : Library) (v : View) (m : Mark) (f : ℕ) (w : List Item) → m ≢ untouched → view_outcome L v f w ≢ m
    → (view_outcome L v f w ≡ other_touch m) ⊎ (view_outcome L v f w ≡ untouched)
breaks_view L v m f w touch breaks = other_marks m (view_outcome L v f w) touch breaks

pub breaks_rule : (L : Library) (q : Question) (f : ℕ) (w : List Item) → q.mark ≢ untouched → ¬ HasOutcome L q f w
    → HasOutcome L (rival q) f w ⊎ HasOutcome L (untouched_on q) f w
breaks_rule L q f w touch breaks = breaks_view L (touches q.side) q.mark f w touch breaks

module _ (L : Library) (v : View) (m : Mark) (c f : ℕ) (touch : m ≢ untouched) where
  -- every run has mark m in the view; some run has another
  abbrev pub Every : Type 0
  Every = (w : List Item) → Run L c w → view_outcome L v f w ≡ m

  abbrev pub Breaking : Type 0
  Breaking = (w : List Item) × Run L c w × (view_outcome L v f w ≢ m)

  -- one of the two rivals is possible exactly when some run breaks the rule
  pub broken_iff : (broken_in L v m c f ≡ true) ↔ Breaking
  broken_iff = (
    (λ e. ⊎_elim
        (λ p. let o = (view_iff L v (other_touch m) c f).0 p in (o.0, o.1, λ h. rival_differs m touch (sym o.2 ∙ h)))
        (λ p. let o = (view_iff L v untouched c f).0 p in (o.0, o.1, λ h. touch (sym h ∙ o.2)))
        (or_cases (possible_in L v (other_touch m) c f) (possible_in L v untouched c f) e)),
    λ (w, run, breaks). ⊎_elim
        (λ o. or_left (possible_in L v (other_touch m) c f) (possible_in L v untouched c f) ((view_iff L v (other_touch m) c f).1 (w, run, o)))
        (λ o. or_right (possible_in L v (other_touch m) c f) (possible_in L v untouched c f) ((view_iff L v untouched c f).1 (w, run, o)))
        (breaks_view L v m f w touch breaks),
  )

  -- an "always" column holds a fact exactly when a run exists and every run keeps the rule
  pub always_iff : (always_in L v m c f ≡ true) ↔ (((w : List Item) × Run L c w) × Every)
  always_iff = (
    (λ e. let p = and_parts (has_run L c) (not (broken_in L v m c f)) e in (
      (has_run_iff L c).0 p.0,
      λ w run. by_cases (Mark-discrete (view_outcome L v f w) m) (λ h. h)
          (λ h. absurd (true≢false (sym (broken_iff.1 (w, run, h)) ∙ not-true (broken_in L v m c f) p.1))),
    )),
    λ (run, all). and_both (has_run L c) (not (broken_in L v m c f)) ((has_run_iff L c).1 run)
        (⊎_elim (λ e. let b = broken_iff.0 e in absurd (b.2 (all b.0 b.1))) (λ e. ap not e) (passes_or_not (broken_in L v m c f))),
  )

  -- "A fact is missing from one of these three "always" columns exactly when the sequence has no run, or has one, executing or not, that
  -- breaks the column's rule."
  pub missing_iff : (always_in L v m c f ≡ false) ↔ (((w : List Item) → ¬ Run L c w) ⊎ Breaking)
  missing_iff = (
    (λ e. ⊎_elim
        (λ p. ⊎_elim (λ b. inr (broken_iff.0 b)) (λ b. absurd (true≢false (sym (and_both (has_run L c) (not (broken_in L v m c f)) p (ap not b)) ∙ e)))
        (passes_or_not (broken_in L v m c f)))
        (λ p. inl ((no_run_iff L c).0 p))
        (passes_or_not (has_run L c))),
    λ h. ⊎_elim
        (λ e. let a = always_iff.0 e in absurd (⊎_elim (λ none. none a.0.0 a.0.1) (λ b. b.2 (a.1 b.0 b.1)) h))
        (λ e. e) (passes_or_not (always_in L v m c f)),
  )
