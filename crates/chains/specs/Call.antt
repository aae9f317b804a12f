-- The chain call over every input: its answer, and the words in the area after it (document 01, "Turned down, in checking order",
-- "Chains").
use Rattle.std.specs.Prelude.{ℕ, cond, List, ◌++◌, length, drop, leb, ltb, Ok, Err}
use Rattle.rules.specs.Checked.{checked}
use Rattle.library.specs.Library.{Library, library_of}
use Rattle.image.specs.declared.answer.Head.{Head}
use Rattle.image.specs.declared.answer.Refusal.{Refusal}
use Rattle.image.specs.declared.answer.Refusal.TheVariants.{Sequence, Question, Fact, ChainArea}
use Rattle.runs.specs.Touch.{question_of}
use Rattle.chains.specs.Link.{chain_words}
use Rattle.chains.specs.Answer.{Answer, none, shown, answer}
use Rattle.image.specs.Answer.{Checked}

-- what the chain call comes to: a refusal, or the answer to the question
pub data Reply : Type 0 where
  refused : Refusal → Reply
  answered : Answer → Reply

-- 12: "A chain exists but has more words than the chain area."
abbrev pub in_area : ℕ → Answer → Reply
in_area room none = answered none
in_area room (shown ls) = cond (leb (length (chain_words ls)) room) (answered (shown ls)) (refused ChainArea)

-- 9: "The sequence asked about is not below C." 10: "The question is above 5." 11: "The fact asked about is not below F."
abbrev pub asked_of : Head → Library → ℕ → ℕ → ℕ → ℕ → Reply
asked_of h L c q f room =
    let reply : Reply = in_area room (answer L (question_of q) c f) in
    cond (ltb c h.sequences) (cond (leb q 5) (cond (ltb f h.facts) reply (refused Fact)) (refused Question)) (refused Sequence)

-- "The check meets 1 to 7, .. the chain 1 to 7 and 9 to 12."
abbrev pub after_check : Checked → List ℕ → ℕ → ℕ → ℕ → ℕ → Reply
after_check (Err r) image c q f room = refused r
after_check (Ok h) image c q f room = asked_of h (library_of image) c q f room

-- the chain call on an image, a sequence, a question, a fact and an area of so many words
unfoldable pub chained : List ℕ → ℕ → ℕ → ℕ → ℕ → Reply
unfolding answer chain_words
chained image c q f room = after_check (checked image) image c q f room

-- "the number of links with the words written"; "Words past the chain stay, and "none" writes nothing."; a refusal: "Nothing lent is
-- changed."
abbrev pub area_after : Reply → List ℕ → List ℕ
area_after (refused r) area = area
area_after (answered none) area = area
area_after (answered (shown ls)) area = chain_words ls ++ drop (length (chain_words ls)) area
