-- Why a sequence has no run (document 02, request 7): "the list, in rising order, of all sequences without a run that the asked one reaches
-- through entries of sequences without a run, itself included", and what whoever holds such a list may conclude.
use Rattle.std.specs.Prelude.{ℕ, ◌<◌, ◌↔◌, length}
use mathlib.Core.List.{List, Memᴰ}
use Rattle.general.specs.Numbers.{Rising}
use Rattle.library.specs.Library.{Library, call}
use Rattle.runs.specs.Run.{alternatives_of, alternative_of, NoRun}

module _ (L : Library) where
  -- a sequence without a run
  pub record Endless (c : ℕ) : Type 0 where
    pub sequence : c < length L.sequences
    pub none : NoRun L c

  -- alternative i of sequence c names sequence d
  abbrev pub NamesBy : ℕ → ℕ → ℕ → Type 0
  NamesBy c i d = Memᴰ (call d) (alternative_of L.sequences c i)

  -- sequence c names sequence d: an entry of one of its alternatives does
  pub record Names (c d : ℕ) : Type 0 where
    pub alternative : ℕ
    pub listed : alternative < length (alternatives_of L.sequences c)
    pub named : NamesBy c alternative d

  -- "all sequences without a run that the asked one reaches through entries of sequences without a run, itself included"
  pub data Reaches (c : ℕ) : ℕ → Type 0 where
    itself : Endless c → Reaches c c
    onward : {d e : ℕ} → Reaches c d → Names d e → Endless e → Reaches c e

  -- "the list, in rising order, of all" these
  pub record Listed (c : ℕ) (xs : List ℕ) : Type 0 where
    pub rising : Rising xs
    pub exact : (d : ℕ) → Memᴰ d xs ↔ Reaches c d

  -- "Every alternative of each listed sequence names a listed one."
  abbrev pub Supports : List ℕ → Type 0
  Supports xs =
      (c : ℕ) → Memᴰ c xs → (i : ℕ) → i < length (alternatives_of L.sequences c) → (d : ℕ) × NamesBy c i d × Memᴰ d xs

  -- "Whoever holds a list with that property may conclude that none of its members has a run"
  abbrev pub NoneEnds : List ℕ → Type 0
  NoneEnds xs = (c : ℕ) → Memᴰ c xs → NoRun L c
