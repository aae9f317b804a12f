-- What acceptance says: of the image, of the words of its two parts, and of the library that it holds. The crates above build on
-- these records, and `proofs/Accepted` proves each of an accepted image.
use Rattle.std.specs.Prelude.{ℕ, ◌+◌, ◌≤◌, ◌<◌, ◌≡◌, true, false, ◌&&◌, ◌⊎◌, List, [], length, get_or, take, None}
use Rattle.general.specs.Tests.{All}
use Rattle.image.specs.Word.{most_facts, most_steps, kind, payload, is_entry, head_of}
use Rattle.image.specs.Answer.{head_payload}
use Rattle.rules.specs.Rules.{opened, earlier, fault_at}
use Rattle.rules.specs.Checked.{first_word}
use Rattle.library.specs.Library.{Step, has, Entry, step, check, item, call, Library, steps_part, sequences_part}
use Rattle.image.specs.declared.answer.Head.{Head}

-- the image is no longer and no shorter than allowed, its head keeps the rule, and no word between head and sum word has a fault
pub record Faultless (image : List ℕ) (h : Head) : Type 0 where
  pub low : 2 ≤ length image
  pub high : length image ≤ 8192
  pub head : h ≡ head_of (first_word image)
  pub facts_low : 1 ≤ h.facts
  pub facts_high : h.facts ≤ most_facts
  pub steps_high : h.steps ≤ most_steps
  pub sequences_high : h.sequences ≤ 256
  pub payload : head_payload h ≡ payload (first_word image)
  pub between : (p : ℕ) → 1 ≤ p → p + 1 < length image → fault_at h (earlier (take p image)) p (get_or image p 0) ≡ None

-- a word of the steps' part: an opener or a fact word, whose fact is below F
pub record StepWord (h : Head) (w : ℕ) : Type 0 where
  pub low : 2 ≤ kind w
  pub high : kind w ≤ 5
  pub fact : kind w ≤ 4 → payload w < h.facts

-- a word of the sequences' part: an opener of a sequence or an alternative, or an entry, which names a step, a sequence or a fact that
-- the head counts
pub record SequenceWord (h : Head) (w : ℕ) : Type 0 where
  pub among : (kind w ≡ 6) ⊎ (kind w ≡ 7) ⊎ (is_entry w ≡ true)
  pub step : kind w ≡ 8 → payload w < h.steps
  pub sequence : kind w ≡ 9 → payload w < h.sequences
  pub check : kind w ≡ 13 → payload w < h.facts

-- a word that is an entry if its kind is 8 or above: one of the sequences' part, in which no other word has such a kind
abbrev pub HighEntry : ℕ → Type 0
HighEntry w = 8 ≤ kind w → is_entry w ≡ true

-- the openers of kind k among the words have their numbers, counted from 0 in their order
abbrev pub Numbered : ℕ → List ℕ → Type 0
Numbered k ws = (i : ℕ) → i < length ws → kind (get_or ws i 0) ≡ k → payload (get_or ws i 0) ≡ opened k (take i ws)

-- the two parts of an accepted image
pub record Parts (image : List ℕ) (h : Head) : Type 0 where
  pub steps : All (StepWord h) (steps_part image)
  pub steps_numbered : Numbered 5 (steps_part image)
  pub steps_opened : opened 5 (steps_part image) ≡ h.steps
  pub sequences : All (SequenceWord h) (sequences_part image)
  pub sequences_numbered : Numbered 6 (sequences_part image)
  pub sequences_opened : opened 6 (sequences_part image) ≡ h.sequences
  pub sequences_short : length (sequences_part image) ≤ 8192

-- an entry names a step below A, a fact below F or a sequence below C
abbrev pub Named : Head → Entry → Type 0
Named h (item (step a)) = a < h.steps
Named h (item (check f)) = f < h.facts
Named h (call c) = c < h.sequences

abbrev pub Below : ℕ → Step → Type 0
Below n s = All (λ (f : ℕ). f < n) s.needs × All (λ (f : ℕ). f < n) s.sets × All (λ (f : ℕ). f < n) s.clears

-- no fact is among a step's sets and its clears: "a step that sets and clears one fact": "Such a step is refused."
abbrev pub Apart : Step → Type 0
Apart s = (f : ℕ) → has f s.sets && has f s.clears ≡ false

-- the library has A steps and C sequences, every fact is below F, no step clears what it sets, every entry names something that the
-- head counts
pub record Counted (l : Library) (h : Head) : Type 0 where
  pub facts : l.facts ≡ h.facts
  pub steps : length l.steps ≡ h.steps
  pub sequences : length l.sequences ≡ h.sequences
  pub below : All (Below h.facts) l.steps
  pub apart : All Apart l.steps
  pub named : All (All (All (Named h))) l.sequences

-- no sequence has as many alternatives, and no alternative as many entries, as an image may have words
pub record Small (l : Library) : Type 0 where
  pub sequences : length l.sequences ≤ 256
  pub alternatives : (c : ℕ) → length (get_or l.sequences c []) < 8192
  pub entries : (c i : ℕ) → length (get_or (get_or l.sequences c []) i []) < 8192
