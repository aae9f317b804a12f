-- The inferred preconditions and effects of a compound task, as printed in source document 001 (Definitions 1, 2 and 4 to 8), over
-- any planning domain D = (F, A, C, M); `domain_of` (specs/Domain) says which a library is. That c → ā, of a sequence of actions ā, is
-- `Refines` (specs/Refinement). A set of facts is a predicate on facts below F, a set of states one on states.
--
-- "undef" (Definition 2, where E(c) or R_s(c) is empty) is not modelled: the formulas are taken as they stand. There a meet, and F without
-- a join, holds of every fact, a join of none, and eff_*^+, a difference of two meets, of none. Document 01 leaves a card without a
-- run blank. What is proved of these sets is proved of a sequence with a run; in the precondition-relaxation every state is then in E(c),
-- and no R_s(c) is empty.
--
-- The procedures of 001 assume more: prec(a) ∩ add(a) = ∅ and add(a) ∩ del(a) = ∅ for all actions, and that every task has a
-- primitive refinement. None of that is assumed here.
use Rattle.std.specs.Prelude.{ℕ, ◌<◌, ◌≡◌, true, List, [], length, get_or}
use Rattle.library.specs.Library.{has, Step, Item, step}
use Rattle.runs.specs.Refinement.{Refines}
use Rattle.runs.specs.Domain.{Domain, Fact, State, Executes, end}

-- f ∈ s
abbrev pub Stands : (D : Domain) → Fact D → State D → Type 0
Stands D f s = s f ≡ true

-- Definition 1 (Executability-Enabling and Resulting States). "E(c) ⊆ 2^F is the set of all states s̃ ∈ 2^F for which there exists a
-- sequence of actions ā, such that c → ā and ā is applicable in s̃."
abbrev pub E : (D : Domain) → ℕ → State D → Type 0
E D c s = (w : List Item) × Refines D c w × Executes D w s

-- "R_s(c) ⊆ 2^F is the set of all states into which the execution of refinements of c can result, i.e., R_s(c) is the set of all
-- (resulting) states s' ∈ 2^F for which there exists a sequence of actions ā, such that c → ā, ā is applicable in s, and ā executed in s
-- results in s'."
abbrev pub R : (D : Domain) → State D → ℕ → State D → Type 0
R D s c s' = (w : List Item) × Refines D c w × Executes D w s × (end D w s ≡ s')

-- Definition 2. "post_s^+(c) := ⋂_{s' ∈ R_s(c)} s'"
abbrev pub post+ : (D : Domain) → State D → ℕ → Fact D → Type 0
post+ D s c f = (s' : State D) → R D s c s' → Stands D f s'

-- "post_s^-(c) := F \ ⋃_{s' ∈ R_s(c)} s'"
abbrev pub post- : (D : Domain) → State D → ℕ → Fact D → Type 0
post- D s c f = ¬ ((s' : State D) × R D s c s' × Stands D f s')

-- "post_*^+(c) := ⋂_{s ∈ E(c)} post_s^+(c)"
abbrev pub post*+ : (D : Domain) → ℕ → Fact D → Type 0
post*+ D c f = (s : State D) → E D c s → post+ D s c f

-- "post_*^-(c) := ⋂_{s ∈ E(c)} post_s^-(c)"
abbrev pub post*- : (D : Domain) → ℕ → Fact D → Type 0
post*- D c f = (s : State D) → E D c s → post- D s c f

-- "eff_*^+(c) := (⋂_{s ∈ E(c)} post_s^+(c)) \ (⋂_{s ∈ E(c)} s)", where the first meet is post_*^+(c)
abbrev pub eff*+ : (D : Domain) → ℕ → Fact D → Type 0
eff*+ D c f = post*+ D c f × ¬ ((s : State D) → E D c s → Stands D f s)

-- "eff_*^-(c) := ⋂_{s ∈ E(c)} post_s^-(c)": "the guaranteed negative effects are identical to the guaranteed negative postconditions."
abbrev pub eff*- : (D : Domain) → ℕ → Fact D → Type 0
eff*- D c f = post*- D c f

-- "poss-post_s^+(c) := ⋃_{s' ∈ R_s(c)} s'"
abbrev pub poss_post+ : (D : Domain) → State D → ℕ → Fact D → Type 0
poss_post+ D s c f = (s' : State D) × R D s c s' × Stands D f s'

-- "poss-post_s^-(c) := ⋃_{s' ∈ R_s(c)} (F \ s')"
abbrev pub poss_post- : (D : Domain) → State D → ℕ → Fact D → Type 0
poss_post- D s c f = (s' : State D) × R D s c s' × ¬ Stands D f s'

-- "poss-eff_*^+(c) := ⋃_{s ∈ E(c)} (poss-post_s^+(c) \ s)"
abbrev pub poss_eff*+ : (D : Domain) → ℕ → Fact D → Type 0
poss_eff*+ D c f = (s : State D) × E D c s × poss_post+ D s c f × ¬ Stands D f s

-- "poss-eff_*^-(c) := ⋃_{s ∈ E(c)} (poss-post_s^-(c) ∩ s)"
abbrev pub poss_eff*- : (D : Domain) → ℕ → Fact D → Type 0
poss_eff*- D c f = (s : State D) × E D c s × poss_post- D s c f × Stands D f s

-- Definition 4 (Precondition-Relaxation). "Its precondition-relaxation is the domain D' = (F, A', C, M) with
-- A' = {(∅, add, del) | (prec, add, del) ∈ A}."
abbrev pub relaxed_step : Step → Step
relaxed_step a = record { needs = []; sets = a.sets; clears = a.clears }

abbrev pub relaxed : Domain → Domain
relaxed D = record { facts = D.facts; action = λ x. relaxed_step (D.action x); sequences = D.sequences }

-- Definition 5 (Effects of Precondition-Relaxed Tasks). "We define eff_*^∅+(c), eff_*^∅-(c), poss-eff_*^∅+(c) and poss-eff_*^∅-(c)
-- as shorthand for eff_*^+(c), eff_*^-(c), poss-eff_*^+(c) and poss-eff_*^-(c) that are based on the precondition-relaxed variant
-- of D, respectively."
abbrev pub eff*∅+ : (D : Domain) → ℕ → Fact D → Type 0
eff*∅+ D c f = eff*+ (relaxed D) c f

abbrev pub eff*∅- : (D : Domain) → ℕ → Fact D → Type 0
eff*∅- D c f = eff*- (relaxed D) c f

abbrev pub poss_eff*∅+ : (D : Domain) → ℕ → Fact D → Type 0
poss_eff*∅+ D c f = poss_eff*+ (relaxed D) c f

abbrev pub poss_eff*∅- : (D : Domain) → ℕ → Fact D → Type 0
poss_eff*∅- D c f = poss_eff*- (relaxed D) c f

-- "there exists an action a_i with f ∈ prec(a_i) and there does not exist an action a_j with j < i and f ∈ add(a_j), where
-- i, j ∈ {0 .. n}" (Definitions 6 and 7), of a refinement <a_0 .. a_n>
abbrev pub Required : (D : Domain) → List Item → Fact D → Type 0
Required D w f =
    (i : ℕ) × (i < length w) × (has f.0 (D.action (get_or w i (step 0))).needs ≡ true)
    × ¬ ((j : ℕ) × (j < i) × (has f.0 (D.action (get_or w j (step 0))).sets ≡ true))

-- Definition 6 (Executability-Relaxed Precondition). "We call a fact f an executability-relaxed precondition of c if and only if for
-- all primitive refinements (i.e., ignoring executability) <a_0 .. a_n> of c there exists an action a_i with f ∈ prec(a_i) and there
-- does not exist an action a_j with j < i and f ∈ add(a_j), where i, j ∈ {0 .. n}. Then the set of executability-relaxed preconditions of
-- c is prec^∅(c) := {f ∈ F | f is an executability-relaxed precondition of c}."
abbrev pub prec∅ : (D : Domain) → ℕ → Fact D → Type 0
prec∅ D c f = (w : List Item) → Refines D c w → Required D w f

-- Definition 7 (Possible Executability-Relaxed Precondition). "We call a fact f a possible executability-relaxed precondition of c if
-- and only if there exists a primitive refinement (i.e., ignoring executability) <a_0 .. a_n> of c such that there exists an action
-- a_i with f ∈ prec(a_i) and there does not exist an action a_j with j < i and f ∈ add(a_j), where i, j ∈ {0 .. n}."
-- Definition 8 (Possible Executability-Relaxed Preconditions). "Then the set of possible executability-relaxed preconditions of c is
-- poss-prec^0(c) := {f ∈ F | f is a possible executability-relaxed precondition of c}." Further on it is printed poss-prec^∅(c).
abbrev pub poss_prec∅ : (D : Domain) → ℕ → Fact D → Type 0
poss_prec∅ D c f = (w : List Item) × Refines D c w × Required D w f
