-- Tables that the crates above look up: the steps' masks, and where each sequence stands.
use Rattle.std.specs.Prelude.{ℕ, suc, ◌+◌, ◌*◌, ◌≤◌, ◌≡◌, true, cond, List, [], ◌∷◌, length, get_or, take, drop, set}
use Rattle.column.specs.Column.{column}
use Rattle.column.specs.Words.{block, with_fact_in}
use Rattle.image.specs.Word.{payload, is_kind}
use Rattle.rules.specs.Rules.{opened}
use Rattle.library.specs.Library.{has, Step, facts_from}
use Rattle.general.specs.Tests.{All}
use Rattle.library.specs.Accepted.{StepWord, Numbered}
use Rattle.image.specs.declared.answer.Head.{Head}
use Rattle.library.specs.declared.tables.Masks.{Masks}

-- the column of a list of facts, of block k: bit b exactly where fact 64 k + b is one of them
unfoldable pub mask_of : ℕ → List ℕ → ℕ
unfolding has column
mask_of k facts = column 64 (block k (λ (f : ℕ). has f facts))

-- a step's words in the table of masks
abbrev pub mask_words : ℕ
mask_words = 3

-- three words a step, in the order of the steps: what it needs, sets and clears of the facts of block k
unfoldable pub masks : ℕ → List Step → List ℕ
unfolding mask_of
masks k [] = []
masks k (s ∷ ss) = mask_of k s.needs ∷ mask_of k s.sets ∷ mask_of k s.clears ∷ masks k ss

-- a word a sequence: the index of its opener among the words, of which the first has index i
unfoldable pub places_from : ℕ → List ℕ → List ℕ
places_from i [] = []
places_from i (w ∷ ws) = cond (is_kind 6 w) (i ∷ places_from (suc i) ws) (places_from (suc i) ws)

-- what the table of masks asks: the steps' part of an accepted image, and room for three words a step
pub record StepsAsked (h : Head) (part area : List ℕ) : Type 0 where
  pub words : All (StepWord h) part
  pub numbered : Numbered 5 part
  pub opened : opened 5 part ≡ h.steps
  pub room : mask_words * h.steps ≤ length area

-- what the table of places asks: the sequences' part of an accepted image, and room for a word a sequence
pub record SequencesAsked (h : Head) (part area : List ℕ) : Type 0 where
  pub short : length part ≤ 8192
  pub numbered : Numbered 6 part
  pub opened : opened 6 part ≡ h.sequences
  pub room : h.sequences ≤ length area

-- ---- in the form that a loop follows

-- the masks of the facts from here to the step's end
abbrev pub masks_from : ℕ → List ℕ → Masks
masks_from k ws = record { needs = mask_of k (facts_from 2 ws); sets = mask_of k (facts_from 3 ws); clears = mask_of k (facts_from 4 ws) }

-- a fact word's fact added to the masks of the fact words after it, if it is one of block k's
abbrev pub with_word : ℕ → Masks → ℕ → Masks
with_word k m w =
    cond (is_kind 2 w) (record { needs = with_fact_in k m.needs (payload w); sets = m.sets; clears = m.clears })
    (cond (is_kind 3 w) (record { needs = m.needs; sets = with_fact_in k m.sets (payload w); clears = m.clears })
    (record { needs = m.needs; sets = m.sets; clears = with_fact_in k m.clears (payload w) }))

-- the area with three words from index j on
abbrev pub with_row : List ℕ → ℕ → Masks → List ℕ
with_row area j m = set (set (set area j m.needs) (j + 1) m.sets) (j + 2) m.clears

-- from index i up to and without `end` no sequence is opened
pub record NoPlaces (part : List ℕ) (i end : ℕ) : Type 0 where
  pub low : i ≤ end
  pub opened : opened 6 (take i part) ≡ opened 6 (take end part)
  pub places : places_from i (drop i part) ≡ places_from end (drop end part)

-- the word at index i opens a sequence, and none between it and `end` does
pub record LastPlace (part : List ℕ) (end i : ℕ) : Type 0 where
  pub opens : is_kind 6 (get_or part i 0) ≡ true
  pub none : NoPlaces part (i + 1) end
