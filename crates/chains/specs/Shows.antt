-- What is promised of a chain that answers a question (document 01, "Chains", as request 2 of document 02 has it; demand 3).
use Rattle.std.specs.Prelude.{ℕ, ◌≤◌, ◌<◌, ◌≡◌, ◌⊎◌, ◌≢◌, List, [], ◌∷◌, length}
use Rattle.library.specs.Library.{Library, Item}
use Rattle.runs.specs.Run.{Run, Gives, alternatives_of, alternative_of}
use Rattle.runs.specs.Touch.{untouched, Question, untouched_on, HasOutcome}
use Rattle.chains.specs.Link.{touch_link, untouched_link, Chain}
use Rattle.chains.specs.Stands.{About, StandsFor}
use Rattle.chains.specs.Depth.{deepest}

-- "Among equally good choices a link takes the highest alternative, then the lowest position.": where two chains first differ, the first
-- one has the higher alternative, or the same and the lower position
abbrev pub NoOlder : Chain → Chain → Type 0
NoOlder [] ms = Unit {0}
NoOlder (touch_link c i p ∷ ls) [] = ⊥
NoOlder (touch_link c i p ∷ ls) (touch_link d j r ∷ ms) =
    (c ≡ d) × ((j < i) ⊎ ((i ≡ j) × ((p < r) ⊎ ((p ≡ r) × NoOlder ls ms))))
NoOlder (touch_link c i p ∷ ls) (untouched_link d j ∷ ms) = ⊥
NoOlder (untouched_link c i ∷ ls) ms = ⊥

-- "the alternative of the untouched derivation of least nesting depth", and among equally deep ones "the highest alternative": "This
-- holds for kind 12 links too." "for kind 12 least nesting depth" comes first. Alternative i of sequence c has an untouched derivation, and
-- each untouched derivation of an alternative j is deeper, or as deep and j is no higher
pub record LeastDepth (L : Library) (q : Question) (f c i : ℕ) : Type 0 where
  pub listed : i < length (alternatives_of L.sequences c)
  pub run : List Item
  pub derivation : Gives L.sequences (alternative_of L.sequences c i) run
  pub leaves : HasOutcome L (untouched_on q) f run
  pub least : (j : ℕ) → j < length (alternatives_of L.sequences c) → (w : List Item) (g : Gives L.sequences (alternative_of L.sequences c j) w)
      → HasOutcome L (untouched_on q) f w
      → (deepest L.sequences derivation < deepest L.sequences g) ⊎ ((deepest L.sequences derivation ≡ deepest L.sequences g) × (j ≤ i))

-- the chain ls answers question q of sequence c for fact f
pub record Shows (L : Library) (q : Question) (c f : ℕ) (ls : Chain) : Type 0 where
  -- "The first link of an answer is about the sequence asked about."
  pub about : About c ls
  -- "Every chain stands for at least one run with its outcome that takes the named alternatives."
  pub run : List Item
  pub stands : StandsFor L q f ls run
  -- every run that it stands for is one of that sequence's and has the outcome
  pub runs : (w : List Item) → StandsFor L q f ls w → Run L c w × HasOutcome L q f w
  -- "The chain has the fewest links"
  pub fewest : (ms : Chain) (w : List Item) → About c ms → StandsFor L q f ms w → HasOutcome L q f w → length ls ≤ length ms
  -- "Fewest links .. still come first." "Among equally good choices a link takes the highest alternative, then the lowest position."
  pub newest : q.mark ≢ untouched → (ms : Chain) (w : List Item) → About c ms → StandsFor L q f ms w → HasOutcome L q f w
      → length ms ≡ length ls → NoOlder ls ms
  -- "Questions 2 and 5: one link with kind 12."
  pub one : q.mark ≡ untouched → (i : ℕ) × (ls ≡ untouched_link c i ∷ []) × LeastDepth L q f c i
  -- "a chain of no more links than the library has sequences"
  pub few : length ls ≤ length L.sequences
