-- What the chain call gives back, case by case (document 01, "Turned down, in checking order", "Chains"). One case always applies, and it
-- fixes the number and every word of the area (`chain_return` and `chain_only`, proofs/ChainCall).
use Rattle.std.specs.Prelude.{ℕ, ◌≤◌, ◌<◌, ◌≡◌, List, ◌++◌, length, drop, Ok, Err}
use Rattle.rules.specs.Checked.{checked}
use Rattle.general.specs.Tests.{All}
use Rattle.library.specs.Library.{library_of, Item}
use Rattle.image.specs.declared.answer.Head.{Head}
use Rattle.image.specs.declared.answer.Refusal.{Refusal}
use Rattle.image.specs.declared.answer.Refusal.TheVariants.{Sequence, Question, Fact, ChainArea}
use Rattle.runs.specs.Run.{Run}
use Rattle.runs.specs.Touch.{question_of, HasOutcome}
use Rattle.chains.specs.Link.{Chain, chain_words, Fits}
use Rattle.chains.specs.Shows.{Shows}
use Rattle.dulimoven.specs.Returned.{Returned, returned, turned_down}

-- a question that is none of 1 to 7 and 9 to 11: the image is accepted; the sequence is below C, the question not above 5, the fact below F
pub record Asked (image : List ℕ) (c q f : ℕ) : Type 0 where
  pub head : Head
  pub accepted : checked image ≡ Ok head
  pub sequence : c < head.sequences
  pub question : q ≤ 5
  pub fact : f < head.facts

-- the chain that answers the question: fewest links or least depth, then the newest choices (`Shows`)
abbrev pub Answers : List ℕ → ℕ → ℕ → ℕ → Chain → Type 0
Answers image c q f ls = Shows (library_of image) (question_of q) c f ls

-- the first refusal that applies: "the chain 1 to 7 and 9 to 12"
pub data ChainRefused (image : List ℕ) (c q f room : ℕ) : Refusal → Type 0 where
  by_image : {why : Refusal} → checked image ≡ Err why → ChainRefused image c q f room why
  -- 9: "The sequence asked about is not below C."
  by_sequence : (h : Head) → checked image ≡ Ok h → h.sequences ≤ c → ChainRefused image c q f room Sequence
  -- 10: "The question is above 5."
  by_question : (h : Head) → checked image ≡ Ok h → c < h.sequences → 5 < q → ChainRefused image c q f room Question
  -- 11: "The fact asked about is not below F."
  by_fact : (h : Head) → checked image ≡ Ok h → c < h.sequences → q ≤ 5 → h.facts ≤ f → ChainRefused image c q f room Fact
  -- 12: "A chain exists but has more words than the chain area."
  by_area : Asked image c q f → (ls : Chain) → Answers image c q f ls → room < length (chain_words ls) → ChainRefused image c q f room ChainArea

-- no run of the sequence has the outcome asked about
abbrev pub NoneHas : List ℕ → ℕ → ℕ → ℕ → Type 0
NoneHas image c q f = (w : List Item) → Run (library_of image) c w → ¬ HasOutcome (library_of image) (question_of q) f w

-- the links are given back: "the number of links with the words written"; "Words past the chain stay". Each number of a link has room in its
-- bits, so that the words tell the links
pub record Links (before : List ℕ) (r : Returned) (ls : Chain) : Type 0 where
  pub number : r.number ≡ length ls
  pub area : r.area ≡ chain_words ls ++ drop (length (chain_words ls)) before
  pub fits : All Fits ls

-- what the chain call gives back
pub data ChainReturn (image : List ℕ) (c q f : ℕ) (area : List ℕ) (r : Returned) : Type 0 where
  refused : (why : Refusal) → ChainRefused image c q f (length area) why → r ≡ turned_down why area → ChainReturn image c q f area r
  -- ""none", exactly when no run has that outcome"; "0 there for "none""; ""none" writes nothing"
  none : Asked image c q f → NoneHas image c q f → r ≡ returned 0 area → ChainReturn image c q f area r
  -- the chain, where it has room
  shown : Asked image c q f → (ls : Chain) → Answers image c q f ls → length (chain_words ls) ≤ length area → Links area r ls
      → ChainReturn image c q f area r
