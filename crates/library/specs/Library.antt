-- The library that an image holds: its steps, and its sequences with their alternatives and entries, "counted from 0 in the order
-- of the image" (document 01, "The image"; document 02, request 4). In the papers a step is a primitive task, a sequence a compound task and an
-- alternative a method.
--
-- Each list is read off the words from a word on: a step's facts up to the next word that is no fact word, an alternative's
-- entries up to the next word that is no entry, a sequence's alternatives up to the next sequence.
use Rattle.std.specs.Prelude.{ℕ, Bool, false, cond, ◌||◌, List, [], ◌∷◌, get_or, eqb}
use Rattle.image.specs.Word.{payload, is_kind, is_fact, is_entry, head_of}
use Rattle.rules.specs.Checked.{first_word, between}

-- "Kinds 2, 3 and 4 follow a step's opener: the step needs, sets or clears the fact with that number"
pub record Step : Type 0 where
  pub needs : List ℕ
  pub sets : List ℕ
  pub clears : List ℕ

-- fact f is one of the facts listed
unfoldable pub has : ℕ → List ℕ → Bool
has f [] = false
has f (g ∷ gs) = eqb g f || has f gs

-- what a run is made of: a step, by its number, or a check, by its fact
pub data Item : Type 0 where
  step : ℕ → Item
  check : ℕ → Item

-- an entry is an item, or calls a sequence
pub data Entry : Type 0 where
  item : Item → Entry
  call : ℕ → Entry

-- "Positions count from 0 within the alternative." "Alternatives count from 0 within their sequence."
abbrev pub Alternative : Type 0
Alternative = List Entry

-- the entry that a position names
abbrev pub entry_at : Alternative → ℕ → Entry
entry_at es p = get_or es p (item (step 0))

abbrev pub Sequence : Type 0
Sequence = List Alternative

pub record Library : Type 0 where
  pub facts : ℕ
  pub steps : List Step
  pub sequences : List Sequence

-- the facts of the fact words of kind k, from here to the step's end
unfoldable pub facts_from : ℕ → List ℕ → List ℕ
facts_from k [] = []
facts_from k (w ∷ ws) = cond (is_fact w) (cond (is_kind k w) (payload w ∷ facts_from k ws) (facts_from k ws)) []

-- "Kind 5 opens a step"
unfoldable pub steps_from : List ℕ → List Step
unfolding facts_from
steps_from [] = []
steps_from (w ∷ ws) =
    cond (is_kind 5 w) (record { needs = facts_from 2 ws; sets = facts_from 3 ws; clears = facts_from 4 ws } ∷ steps_from ws) (steps_from ws)

-- "Kind 8 is an entry naming a step, kind 9 an entry naming a sequence." Document 02: "Kind 13, an entry, checks that its fact stands".
-- The entry that a word names, if it is an entry
abbrev pub entry_of : ℕ → Entry
entry_of w = cond (is_kind 8 w) (item (step (payload w))) (cond (is_kind 13 w) (item (check (payload w))) (call (payload w)))

-- the entries from here to the alternative's end
unfoldable pub entries_from : List ℕ → List Entry
entries_from [] = []
entries_from (w ∷ ws) = cond (is_entry w) (entry_of w ∷ entries_from ws) []

-- "Kind 7 opens an alternative": those from here to the sequence's end
unfoldable pub alternatives_from : List ℕ → List Alternative
unfolding entries_from
alternatives_from [] = []
alternatives_from (w ∷ ws) =
    cond (is_kind 7 w) (entries_from ws ∷ alternatives_from ws) (cond (is_entry w) (alternatives_from ws) [])

-- "kind 6 opens a sequence"
unfoldable pub sequences_from : List ℕ → List Sequence
unfolding alternatives_from
sequences_from [] = []
sequences_from (w ∷ ws) = cond (is_kind 6 w) (alternatives_from ws ∷ sequences_from ws) (sequences_from ws)

-- "The order is head, steps, sequences, sum word." The steps' part: the words between head and sum word up to the first kind 6
unfoldable pub before_sequences : List ℕ → List ℕ
before_sequences [] = []
before_sequences (w ∷ ws) = cond (is_kind 6 w) [] (w ∷ before_sequences ws)

-- the sequences' part: the words from the first kind 6 on
unfoldable pub from_sequences : List ℕ → List ℕ
from_sequences [] = []
from_sequences (w ∷ ws) = cond (is_kind 6 w) (w ∷ ws) (from_sequences ws)

-- "The steps' part and the sequences' part are each read as a part of the image that begins in its middle."
unfoldable pub steps_part : List ℕ → List ℕ
unfolding before_sequences
steps_part image = before_sequences (between image)

unfoldable pub sequences_part : List ℕ → List ℕ
unfolding from_sequences
sequences_part image = from_sequences (between image)

-- what an accepted image holds
unfoldable pub library_of : List ℕ → Library
unfolding steps_part sequences_part steps_from sequences_from
library_of image =
    record { facts = (head_of (first_word image)).facts; steps = steps_from (steps_part image); sequences = sequences_from (sequences_part image) }
