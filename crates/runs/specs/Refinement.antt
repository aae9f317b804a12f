-- The refinements of a compound task, as printed in source document 001, section 2.1: in a list of tasks one compound task after the
-- other is replaced by what a method lists. A task is an entry, a primitive task an item, a compound task one that names a
-- sequence; a method is an alternative.
--
-- That a sequence of actions is a refinement of c exactly where it is a run of c is proved (`refinement_run`, proofs/Refinement).
use Rattle.std.specs.Prelude.{ℕ, ◌<◌, ◌≡◌, List, [], ◌∷◌, ◌++◌, map, length}
use Rattle.library.specs.Library.{Sequence, Entry, item, call, Item}
use Rattle.runs.specs.Run.{alternatives_of, alternative_of}
use Rattle.runs.specs.Domain.{Domain}

-- "t.o. task networks tn, which are (possibly empty) finite sequences of tasks t̄ = <t_0 .. t_n> ∈ T*", where "A ∪ C =: T"
abbrev pub Network : Type 0
Network = List Entry

-- "a method m = (c, t̄) ∈ M decomposes a compound task c ∈ C within a task network tn_1 = <t̄_1 c t̄_2> into a task network
-- tn_2 = <t̄_1 t̄ t̄_2>, written tn_1 →_{c,m} tn_2." The method m is alternative i of sequence c.
pub record Decomposes (S : List Sequence) (c i : ℕ) (tn₁ tn₂ : Network) : Type 0 where
  pub method : i < length (alternatives_of S c)
  pub before : Network
  pub after : Network
  pub task : tn₁ ≡ before ++ (call c ∷ after)
  pub decomposed : tn₂ ≡ before ++ (alternative_of S c i ++ after)

-- "We write tn → tn' if there is a (possibly empty) sequence of methods transforming tn into tn'. We call tn' a refinement of tn."
pub data Transforms (S : List Sequence) : Network → Network → Type 0 where
  by_none : {tn : Network} → Transforms S tn tn
  by_method : {c i : ℕ} {tn₁ tn₂ tn₃ : Network} → Decomposes S c i tn₁ tn₂ → Transforms S tn₂ tn₃ → Transforms S tn₁ tn₃

-- c → ā, of a compound task c and "a sequence of actions ā" (Definition 1): from "<c>", which is "A task network containing only one
-- task" (source document 000), to a task network that is "primitive", of items alone.
abbrev pub Refines : Domain → ℕ → List Item → Type 0
Refines D c w = Transforms D.sequences (call c ∷ []) (map item w)
