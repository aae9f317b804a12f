-- What the chain call comes to as the enum that the code has, and as the number that the C side gets.
use Rattle.std.specs.Prelude.{ℕ, ◌≡◌, List, length}
use Rattle.question.specs.Answer.{chain_answer}
use Rattle.chains.specs.Answer.{Answer, none, shown}
use Rattle.chains.specs.Call.{Reply, refused, answered, in_area, chained, area_after}
use Rattle.question.specs.declared.answer.Chained.{Chained}

-- "an answer enum whose cases carry a link count struct or a refusal enum with its position"
abbrev pub chained_as : Reply → Chained
chained_as (refused r) = Chained.Refused r
chained_as (answered none) = Chained.None
chained_as (answered (shown ls)) = Chained.Shown (record { count = length ls })

-- the number for what the call comes to
abbrev pub reply_number : Reply → ℕ
reply_number r = chain_answer (chained_as r)

-- an answer in its area: what is told of it, and the area after
pub record Answered (a : Answer) (before : List ℕ) (found : Chained) (after : List ℕ) : Type 0 where
  pub answer : found ≡ chained_as (in_area (length before) a)
  pub area : after ≡ area_after (in_area (length before) a) before

-- what the chain call does: its answer, and the area after it
pub record ChainCalled (image : List ℕ) (c q f : ℕ) (before : List ℕ) (found : Chained) (after : List ℕ) : Type 0 where
  pub answer : found ≡ chained_as (chained image c q f (length before))
  pub area : after ≡ area_after (chained image c q f (length before)) before
