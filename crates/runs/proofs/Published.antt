-- The published sets are what document 01 says of touches: of a sequence with a run and a fact below F, for every library.
-- The published sets are taken over any domain first.
-- It has: an equivalence for each published set, and `published_columns` of all.
use Prim.Native.Nat.{ℕ, zero, suc, ◌<◌}
use mathlib.Core.Path.{◌≡◌, refl, sym, ◌∙◌, ap, fun_ext}
use mathlib.Core.Logic.Iff
use mathlib.Core.Logic.{◌⊎◌, inl, inr, ⊎_elim, ◌↔◌, ◌≢◌}
use mathlib.Core.Bool.{Bool, true, false, cond, false≢true, true≢false}
use mathlib.Core.List.{List, [], ◌∷◌}
use native.Mathlib.Omega.{arith}
use lib.ListN.{get_or}
use Rattle.library.specs.Library.{has, Library, Item, step}
use Rattle.runs.specs.Run.{Run}
use Rattle.runs.specs.Refinement.{Refines}
use Rattle.runs.specs.Domain.{Domain, domain_of, Fact, State, apply, Executes, end}
use Rattle.runs.specs.Execution as execution
use Rattle.runs.specs.Touch.{Mark, present, absent, untouched, or_else, last, first, touch, decided, outcome_of, HasOutcome}
use Rattle.runs.specs.Touch.{Question, last_set, last_cleared, first_needed}
use Rattle.runs.specs.View.{touches}
use Rattle.runs.specs.Algebra.{same_mark}
use Rattle.runs.specs.Possible.{possible_outcome, always_outcome, has_run}
use Rattle.runs.specs.Published.{E, R, relaxed, eff*∅+, eff*∅-, poss_eff*∅+, poss_eff*∅-, Required, prec∅, poss_prec∅}
use Rattle.library.proofs.Decode.{has_none}
use Rattle.runs.proofs.Refinement.{refinement_run}
use Rattle.runs.proofs.Outcome.{present≢untouched, absent≢untouched}
use Rattle.runs.proofs.Columns.{question_iff, has_run_iff, always_iff}
use Rattle.runs.proofs.Execution.{outcome_in, after, end_after, after_gained, after_lost, needed_first}

-- every list of items executes from every state of the relaxation
relaxed_executes : (D : Domain) (w : List Item) (s : State D) → Executes (relaxed D) w s
relaxed_executes D [] s = tt
relaxed_executes D (x ∷ w) s = (
  (λ f e. absurd (false≢true (sym (has_none f) ∙ e))),
  relaxed_executes D w (apply (relaxed D) ((relaxed D).action x) s),
)

-- and leaves a fact as its last touch says
relaxed_end : (D : Domain) (f : Fact D) (w : List Item) (s : State D) → end (relaxed D) w s f ≡ after (outcome_in D last f.0 w) (s f)
relaxed_end D f w s = end_after (relaxed D) f w s

relaxed_enabling : (D : Domain) (c : ℕ) (s : State D) (w : List Item) → Refines D c w → E (relaxed D) c s
relaxed_enabling D c s w r = (w, r, relaxed_executes D w s)

relaxed_result : (D : Domain) (c : ℕ) (s : State D) (w : List Item) → Refines D c w → R (relaxed D) s c (end (relaxed D) w s)
relaxed_result D c s w r = (w, r, relaxed_executes D w s, refl)

-- the state in which no fact stands, and the one in which every fact does
abbrev none : (D : Domain) → State D
none D f = false

abbrev every : (D : Domain) → State D
every D f = true

not_true : (b : Bool) → ¬ (b ≡ true) → b ≡ false
not_true true h = absurd (h refl)
not_true false h = refl

-- first touched by a need: the first item needs the fact, or it does not set it and the rest is first touched by a need
needed_there : (needs sets : Bool) (m : Mark) → (needs ≡ true) ⊎ ((sets ≡ false) × (m ≡ present))
    → or_else (cond needs present (cond sets absent untouched)) m ≡ present
needed_there true sets m h = refl
needed_there false sets m (inl e) = absurd (false≢true e)
needed_there false sets m (inr (e, q)) = rw e q

-- "there exists an action a_i with f ∈ prec(a_i) and there does not exist an action a_j with j < i and f ∈ add(a_j)" is the first
-- touch being a need
required_first : (D : Domain) (f : Fact D) (w : List Item) → Required D w f → outcome_in D first f.0 w ≡ present
unfolding decided
required_first D f [] (i, lt, need, unset) = absurd (omega arith)
required_first D f (x ∷ w) (zero, lt, need, unset) =
    needed_there (has f.0 (D.action x).needs) (has f.0 (D.action x).sets) (outcome_in D first f.0 w) (inl need)
required_first D f (x ∷ w) (suc i, lt, need, unset) =
    needed_there (has f.0 (D.action x).needs) (has f.0 (D.action x).sets) (outcome_in D first f.0 w)
    (inr (
      not_true (has f.0 (D.action x).sets) (λ e. unset (zero, omega arith, e)),
      required_first D f w (i, omega arith, need, λ (j, below, e). unset (suc j, omega arith, e)),
    ))

first_required : (D : Domain) (f : Fact D) (w : List Item) → outcome_in D first f.0 w ≡ present → Required D w f
unfolding decided
first_required D f [] e = absurd (false≢true (ap (same_mark present) e))
first_required D f (x ∷ w) e =
    ⊎_elim
    (λ need. (zero, omega arith, need, λ (j, below, set). omega arith))
    (λ (unset, rest). let r = first_required D f w rest in
    let lt = r.1 in
    (suc r.0, omega arith, r.2, λ (j, below, set). later r.0 unset r.3 j below set))
    (needed_first (has f.0 (D.action x).needs) (has f.0 (D.action x).sets) (outcome_in D first f.0 w) e)
  where
    later : (i : ℕ) → has f.0 (D.action x).sets ≡ false → ¬ ((j : ℕ) × (j < i) × (has f.0 (D.action (get_or w j (step 0))).sets ≡ true))
        → (j : ℕ) → j < suc i → has f.0 (D.action (get_or (x ∷ w) j (step 0))).sets ≡ true → ⊥
    later i unset none_before zero below set = false≢true (sym unset ∙ set)
    later i unset none_before (suc j) below set = none_before (j, omega arith, set)

module _ (D : Domain) (c : ℕ) (f : Fact D) where
  -- every primitive refinement has the outcome asked for; some primitive refinement has
  abbrev pub Always : Question → Type 0
  Always q = (w : List Item) → Refines D c w → outcome_in D q.side f.0 w ≡ q.mark

  abbrev pub May : Question → Type 0
  May q = (w : List Item) × Refines D c w × (outcome_in D q.side f.0 w ≡ q.mark)

  -- the fact in a resulting state
  resulting : (s s' : State D) (r : R (relaxed D) s c s') → s' f ≡ after (outcome_in D last f.0 r.0) (s f)
  resulting s s' r = sym (ap (λ (t : State D). t f) r.3) ∙ relaxed_end D f r.0 s

  pub eff_plus_iff : ((w : List Item) × Refines D c w) → eff*∅+ D c f ↔ Always last_set
  eff_plus_iff run = (
    (λ h w r. after_gained (outcome_in D last f.0 w) false
        (sym (relaxed_end D f w (none D))
        ∙ h.0 (none D) (relaxed_enabling D c (none D) w r) (end (relaxed D) w (none D)) (relaxed_result D c (none D) w r)) refl),
    λ h. (
      (λ s e s' r. resulting s s' r ∙ ap (λ m. after m (s f)) (h r.0 r.1)),
      λ all. false≢true (all (none D) (relaxed_enabling D c (none D) run.0 run.1)),
    ),
  )

  pub eff_minus_iff : ((w : List Item) × Refines D c w) → eff*∅- D c f ↔ Always last_cleared
  eff_minus_iff run = (
    (λ h w r. after_lost (outcome_in D last f.0 w) true
        (sym (relaxed_end D f w (every D))
        ∙ not_true (end (relaxed D) w (every D) f)
        (λ e. h (every D) (relaxed_enabling D c (every D) w r) (end (relaxed D) w (every D), relaxed_result D c (every D) w r, e)))
        refl),
    λ h s e p. true≢false (sym p.2 ∙ (resulting s p.0 p.1 ∙ ap (λ m. after m (s f)) (h p.1.0 p.1.1))),
  )

  pub poss_eff_plus_iff : poss_eff*∅+ D c f ↔ May last_set
  poss_eff_plus_iff = (
    (λ (s, e, p, unset). let r = p.1 in
        (r.0, r.1, after_gained (outcome_in D last f.0 r.0) (s f) (sym (resulting s p.0 r) ∙ p.2) (not_true (s f) unset))),
    λ (w, r, o). (
      none D,
      relaxed_enabling D c (none D) w r,
      (end (relaxed D) w (none D), relaxed_result D c (none D) w r, relaxed_end D f w (none D) ∙ ap (λ m. after m false) o),
      false≢true,
    ),
  )

  pub poss_eff_minus_iff : poss_eff*∅- D c f ↔ May last_cleared
  poss_eff_minus_iff = (
    (λ (s, e, p, stood). let r = p.1 in
        (r.0, r.1, after_lost (outcome_in D last f.0 r.0) (s f) (sym (resulting s p.0 r) ∙ not_true (p.0 f) p.2) stood)),
    λ (w, r, o). (
      every D,
      relaxed_enabling D c (every D) w r,
      (
        end (relaxed D) w (every D),
        relaxed_result D c (every D) w r,
        λ e. true≢false (sym e ∙ (relaxed_end D f w (every D) ∙ ap (λ m. after m true) o)),
      ),
      refl,
    ),
  )

  pub prec_iff : prec∅ D c f ↔ Always first_needed
  prec_iff = ((λ h w r. required_first D f w (h w r)), λ h w r. first_required D f w (h w r))

  pub poss_prec_iff : poss_prec∅ D c f ↔ May first_needed
  poss_prec_iff = ((λ (w, r, h). (w, r, required_first D f w h)), λ (w, r, h). (w, r, first_required D f w h))

-- The columns of document 01 against the published sets, for a sequence with a run.
pub record PublishedColumns (L : Library) (c : ℕ) (f : execution.Fact L) : Type 0 where
  pub always_needed : (always_outcome L first_needed c f.0 ≡ true) ↔ prec∅ (domain_of L) c f
  pub may_need : (possible_outcome L first_needed c f.0 ≡ true) ↔ poss_prec∅ (domain_of L) c f
  pub may_set : (possible_outcome L last_set c f.0 ≡ true) ↔ poss_eff*∅+ (domain_of L) c f
  pub may_clear : (possible_outcome L last_cleared c f.0 ≡ true) ↔ poss_eff*∅- (domain_of L) c f
  pub always_set : (always_outcome L last_set c f.0 ≡ true) ↔ eff*∅+ (domain_of L) c f
  pub always_cleared : (always_outcome L last_cleared c f.0 ≡ true) ↔ eff*∅- (domain_of L) c f

pub published_columns : (L : Library) (c : ℕ) (f : execution.Fact L) → has_run L c ≡ true → PublishedColumns L c f
published_columns L c f exists =
    record {
      always_needed = Iff.trans (always first_needed present≢untouched) (Iff.symm (prec_iff (domain_of L) c f));
      may_need = Iff.trans (may first_needed) (Iff.symm (poss_prec_iff (domain_of L) c f));
      may_set = Iff.trans (may last_set) (Iff.symm (poss_eff_plus_iff (domain_of L) c f));
      may_clear = Iff.trans (may last_cleared) (Iff.symm (poss_eff_minus_iff (domain_of L) c f));
      always_set = Iff.trans (always last_set present≢untouched) (Iff.symm (eff_plus_iff (domain_of L) c f refined));
      always_cleared = Iff.trans (always last_cleared absent≢untouched) (Iff.symm (eff_minus_iff (domain_of L) c f refined));
    }
  where
    run : (w : List Item) × Run L c w
    run = (has_run_iff L c).0 exists

    refined : (w : List Item) × Refines (domain_of L) c w
    refined = (run.0, (refinement_run L c run.0).1 run.1)

    may : (q : Question) → (possible_outcome L q c f.0 ≡ true) ↔ May (domain_of L) c f q
    may q =
        Iff.trans (question_iff L q c f.0)
        ((λ (w, r, o). (w, (refinement_run L c w).1 r, o)), λ (w, r, o). (w, (refinement_run L c w).0 r, o))

    always : (q : Question) → q.mark ≢ untouched → (always_outcome L q c f.0 ≡ true) ↔ Always (domain_of L) c f q
    always q touch = (
      (λ e w r. ((always_iff L (touches q.side) q.mark c f.0 touch).0 e).1 w ((refinement_run L c w).0 r)),
      λ h. (always_iff L (touches q.side) q.mark c f.0 touch).1 (run, λ w r. h w ((refinement_run L c w).1 r)),
    )
