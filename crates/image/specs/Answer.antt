-- The numbers of the answers, as documents 01 and 02 give them: "For each case of an enum answer, a definition gives this paper's
-- number and values."
use Rattle.std.specs.Prelude.{ℕ, ◌+◌, ◌*◌, ◌^◌, Result, Ok, Err}
use Rattle.image.specs.declared.answer.Head.{Head}
use Rattle.image.specs.declared.answer.Refusal.{Refusal}
use Rattle.image.specs.declared.answer.Refusal.TheVariants.{Length, SumWord, HeadWord, Kind, Payload, FactOrder, Missing, CardArea, Sequence, Question, Fact, ChainArea, SetAndCleared}
use Rattle.image.specs.declared.answer.Refusal.TheVariants.{ListLength, Member, HasRun, ListArea}

-- "Turned down, in checking order"; document 02: "Demand 1 and document 01's list take in the answers that requests add". 13 comes
-- after 6 in that order; 14 and 15 are of a list, 16 and 17 of a sequence without a run
abbrev pub refusal_number : Refusal → ℕ
refusal_number Length = 1
refusal_number (SumWord p) = 2
refusal_number HeadWord = 3
refusal_number (Kind p) = 4
refusal_number (Payload p) = 5
refusal_number (FactOrder p) = 6
refusal_number (Missing p) = 7
refusal_number CardArea = 8
refusal_number Sequence = 9
refusal_number Question = 10
refusal_number Fact = 11
refusal_number ChainArea = 12
refusal_number (SetAndCleared p) = 13
refusal_number ListLength = 14
refusal_number Member = 15
refusal_number HasRun = 16
refusal_number ListArea = 17

-- "a word position counted from 0; from 8 on the position is 0". 1 and 3 have "position 0". Document 02 says of 13 "at the clear
-- word", and is the later statement
abbrev pub refusal_position : Refusal → ℕ
refusal_position Length = 0
refusal_position (SumWord p) = p
refusal_position HeadWord = 0
refusal_position (Kind p) = p
refusal_position (Payload p) = p
refusal_position (FactOrder p) = p
refusal_position (Missing p) = p
refusal_position CardArea = 0
refusal_position Sequence = 0
refusal_position Question = 0
refusal_position Fact = 0
refusal_position ChainArea = 0
refusal_position (SetAndCleared p) = p
refusal_position ListLength = 0
refusal_position Member = 0
refusal_position HasRun = 0
refusal_position ListArea = 0

-- "N × 2^32 + P for refusal N at position P"
abbrev pub refusal_answer : Refusal → ℕ
refusal_answer r = refusal_number r * 2 ^ 32 + refusal_position r

-- a head's payload: "F in bits 0 to 8", "A in bits 9 to 18", "C in bits 19 to 27" (document 02, request 8)
abbrev pub head_payload : Head → ℕ
head_payload h = h.facts + h.steps * 2 ^ 9 + h.sequences * 2 ^ 19

-- what the check comes to: the head of a library, or the first refusal that applies
abbrev pub Checked : Type 0
Checked = Result Head Refusal

-- "It gets one 64-bit number: N × 2^32 + P for refusal N at position P", otherwise the number of what the call finds
abbrev pub answer_number : {T : Type 0} → (T → ℕ) → Result T Refusal → ℕ
answer_number number (Ok found) = number found
answer_number number (Err r) = refusal_answer r

-- "otherwise the head's payload from the check"
abbrev pub checked_answer : Checked → ℕ
checked_answer = answer_number head_payload
