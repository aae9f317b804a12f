-- What a caller sees of a call with a lent area.
use Rattle.std.specs.Prelude.{ℕ, List}
use Rattle.image.specs.Answer.{refusal_answer}
use Rattle.image.specs.declared.answer.Refusal.{Refusal}

-- the number that the call answers, and the area after it
pub record Returned : Type 0 where
  pub number : ℕ
  pub area : List ℕ

abbrev pub returned : ℕ → List ℕ → Returned
returned number area = record { number = number; area = area }

-- "N × 2^32 + P for refusal N at position P"; "Nothing lent is changed."
abbrev pub turned_down : Refusal → List ℕ → Returned
turned_down why area = returned (refusal_answer why) area
