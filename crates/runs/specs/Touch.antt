-- Touches and the outcome of a run for a fact on either side (document 01, "Runs"), and the questions asked of it ("Chains").
use Rattle.std.specs.Prelude.{ℕ, ◌≡◌, cond, List, [], ◌∷◌, get_or}
use Rattle.library.specs.Library.{has, Library, Step, Item}
use Rattle.runs.specs.Domain.{action_of}

-- "Last side", "First side"
pub data Side : Type 0 where
  last first : Side

-- What a step, or a run, does to a fact on one side. On the last side `present` is "sets" and `absent` is "clears"; on the first
-- side `present` is "needs" and `absent` is "sets".
pub data Mark : Type 0 where
  present absent untouched : Mark

-- "Last side: a step touches a fact if it sets or clears it"; "a step's clears are .. simply its clear words". No step of an accepted
-- library does both, so the order of the two tests decides nothing there (`cleared_iff`, proofs/Clears).
-- "First side: a step touches a fact if it needs or sets it; .. a step that does both needs it. Earlier clears don't matter there".
abbrev pub touch : Side → Step → ℕ → Mark
touch last a f = cond (has f a.sets) present (cond (has f a.clears) absent untouched)
touch first a f = cond (has f a.needs) present (cond (has f a.sets) absent untouched)

-- the touch of an item of a run on fact f. "On the first side a check counts as a need" (request 4), as the action that it is has it; on the
-- last side it touches nothing
abbrev pub item_touch : Library → Side → ℕ → Item → Mark
item_touch L side f x = touch side (action_of L x) f

-- the first of two marks where it is a touch, and otherwise the second
abbrev pub or_else : Mark → Mark → Mark
or_else present n = present
or_else absent n = absent
or_else untouched n = n

-- "the last touch decides"; "the first touch decides"
unfoldable pub decided : Side → (Item → Mark) → List Item → Mark
decided last t [] = untouched
decided last t (x ∷ w) = or_else (decided last t w) (t x)
decided first t [] = untouched
decided first t (x ∷ w) = or_else (t x) (decided first t w)

-- "the last touch decides"; "the first touch decides": of what stands before a touch and after it, the part in which another touch
-- would overrule it
abbrev pub overruling : Side → List Item → List Item → List Item
overruling last before after = after
overruling first before after = before

-- the outcome of run w for fact f on a side
abbrev pub outcome_of : Library → Side → ℕ → List Item → Mark
outcome_of L side f w = decided side (item_touch L side f) w

-- a question is a side and the outcome asked for there
pub record Question : Type 0 where
  pub side : Side
  pub mark : Mark

-- "Questions: 0 last set, 1 last cleared, 2 last untouched, 3 first needed, 4 first set, 5 first untouched."
abbrev pub last_set : Question
last_set = record { side = last; mark = present }

abbrev pub last_cleared : Question
last_cleared = record { side = last; mark = absent }

abbrev pub last_untouched : Question
last_untouched = record { side = last; mark = untouched }

abbrev pub first_needed : Question
first_needed = record { side = first; mark = present }

abbrev pub first_set : Question
first_set = record { side = first; mark = absent }

abbrev pub first_untouched : Question
first_untouched = record { side = first; mark = untouched }

-- the number of a question
abbrev pub question_number : Side → Mark → ℕ
question_number last present = 0
question_number last absent = 1
question_number last untouched = 2
question_number first present = 3
question_number first absent = 4
question_number first untouched = 5

-- the question with a number; numbers from 6 on ask nothing new
abbrev pub question_of : ℕ → Question
question_of q = get_or (last_set ∷ last_cleared ∷ last_untouched ∷ first_needed ∷ first_set ∷ first_untouched ∷ []) q first_untouched

-- run w has the outcome that question q asks for of fact f
abbrev pub HasOutcome : Library → Question → ℕ → List Item → Type 0
HasOutcome L q f w = outcome_of L q.side f w ≡ q.mark

-- A run that does not have a touch for its outcome has the side's other touch, or none: "The column's two questions .. are 4 and 5
-- for "always needed", 1 and 2 for "always set", 0 and 2 for "always cleared"."
abbrev pub other_touch : Mark → Mark
other_touch present = absent
other_touch absent = present
other_touch untouched = untouched

abbrev pub rival : Question → Question
rival q = record { side = q.side; mark = other_touch q.mark }

abbrev pub untouched_on : Question → Question
untouched_on q = record { side = q.side; mark = untouched }
