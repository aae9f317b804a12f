-- The planning domain that a library is, and the execution of a run in a domain (document 01, "Runs"; source documents 000 and 001).
use Rattle.std.specs.Prelude.{ℕ, ◌<◌, ◌≡◌, Bool, true, not, ◌&&◌, ◌||◌, List, [], ◌∷◌, get_or}
use Rattle.library.specs.Library.{has, Library, Sequence, Step, Item, step, check}

-- "a planning domain .. D = (F, A, C, M)" (001): F the numbers below `facts`, A the actions by the items that name them, C and M the
-- sequences with their alternatives
pub record Domain : Type 0 where
  pub facts : ℕ
  pub action : Item → Step
  pub sequences : List Sequence

-- a step that names no fact
abbrev pub no_step : Step
no_step = record { needs = []; sets = []; clears = [] }

-- "reads such a condition like an action without effects" (document 02, request 4; source document 003, No-op model): a check of f is the
-- action ({f}, ∅, ∅)
abbrev pub check_of : ℕ → Step
check_of f = record { needs = f ∷ []; sets = []; clears = [] }

-- the action that an item of a run is
abbrev pub action_of : Library → Item → Step
action_of L (step a) = get_or L.steps a no_step
action_of L (check f) = check_of f

abbrev pub domain_of : Library → Domain
domain_of L = record { facts = L.facts; action = action_of L; sequences = L.sequences }

-- a fact of the domain: a number below F
abbrev pub Fact : Domain → Type 0
Fact D = (f : ℕ) × (f < D.facts)

-- "A state is any set of facts below F."
abbrev pub State : Domain → Type 0
State D = Fact D → Bool

-- "an action a ∈ A is applicable in a state s ∈ 2^F if prec(a) ⊆ s" (000); "each step's needs stand when it comes" (document 01)
abbrev pub Applicable : (D : Domain) → Step → State D → Type 0
Applicable D a s = (f : ℕ) → has f a.needs ≡ true → (below : f < D.facts) × (s (f, below) ≡ true)

-- "Applying a step to a state removes what it clears, then adds what it sets": (s \ del(a)) ∪ add(a) (000)
abbrev pub apply : (D : Domain) → Step → State D → State D
apply D a s f = s f && not (has f.0 a.clears) || has f.0 a.sets

-- "A run executes from a state if each step's needs stand when it comes." "A run executes only if its checks are met." (request 4)
abbrev pub Executes : (D : Domain) → List Item → State D → Type 0
Executes D [] s = Unit {0}
Executes D (x ∷ w) s = Applicable D (D.action x) s × Executes D w (apply D (D.action x) s)

-- "The end of a run is the state after its last step, or its start if the run is empty." A check "changes nothing" (request 4).
abbrev pub end : (D : Domain) → List Item → State D → State D
end D [] s = s
end D (x ∷ w) s = end D w (apply D (D.action x) s)
