-- A refusal is told by its number.
-- Assumes nothing.
use Prim.Native.Nat.{◌≤◌}
use native.Mathlib.Omega.{arith}
use Rattle.image.specs.Answer.{refusal_number, refusal_answer}
use Rattle.image.specs.declared.answer.Refusal.{Refusal}
use Rattle.image.specs.declared.answer.Refusal.TheVariants.{Length, SumWord, HeadWord, Kind, Payload, FactOrder, Missing, CardArea, Sequence, Question, Fact, ChainArea, SetAndCleared}
use Rattle.image.specs.declared.answer.Refusal.TheVariants.{ListLength, Member, HasRun, ListArea}
use Rattle.dulimoven.specs.Demands.{Refuses}

-- every refusal has a number from 1 on, so that it is told by 2^32
number_low : (r : Refusal) → 1 ≤ refusal_number r
number_low Length = omega arith
number_low (SumWord p) = omega arith
number_low HeadWord = omega arith
number_low (Kind p) = omega arith
number_low (Payload p) = omega arith
number_low (FactOrder p) = omega arith
number_low (Missing p) = omega arith
number_low CardArea = omega arith
number_low Sequence = omega arith
number_low Question = omega arith
number_low Fact = omega arith
number_low ChainArea = omega arith
number_low (SetAndCleared p) = omega arith
number_low ListLength = omega arith
number_low Member = omega arith
number_low HasRun = omega arith
number_low ListArea = omega arith

pub refusal_high : (r : Refusal) → Refuses (refusal_answer r)
refusal_high r = omega (arith, number_low r)
