-- The three demands, as one statement over what a caller of the calls sees: the numbers that they answer, and the words in the areas
-- that were lent to them. The sentences are quoted from the demands and from document 01.
use Rattle.std.specs.Prelude.{ℕ, ◌*◌, ◌^◌, ◌≤◌, ◌<◌, ◌≡◌, ◌↔◌, ◌⊎◌, List, length, get_or, Ok, Err}
use Rattle.image.specs.Word.{payload}
use Rattle.image.specs.Answer.{checked_answer}
use Rattle.rules.specs.Checked.{checked, first_word}
use Rattle.library.specs.Library.{Library, library_of, Item}
use Rattle.image.specs.declared.answer.Head.{Head}
use Rattle.image.specs.declared.answer.Refusal.{Refusal}
use Rattle.runs.specs.Run.{Run}
use Rattle.runs.specs.Execution.{Fact, State, Executes}
use Rattle.runs.specs.Touch.{question_of, HasOutcome}
use Rattle.cards.specs.Layout.{card_words}
use Rattle.cards.specs.Area.{part_number}
use Rattle.cards.specs.Meaning.{Card, Kept, Changed, Always, needed, set, cleared, Breaks, Missing}
use Rattle.chains.specs.Link.{Chain}
use Rattle.chains.specs.Stands.{StandsFor}
use Rattle.dulimoven.specs.Returned.{Returned}
use Rattle.dulimoven.specs.CardCall.{CardsRefused, CardsReturn}
use Rattle.dulimoven.specs.ChainCall.{ChainRefused, ChainReturn, Links}
use Rattle.dulimoven.specs.ListCall.{ListRefused, ListReturn}
use Rattle.dulimoven.specs.EndlessCall.{EndlessRefused, EndlessReturn}

-- ---- what a caller sees

-- the calls: "plain numbers and lent arrays"
pub record Engine : Type 0 where
  pub check : (image : List ℕ) → ℕ
  pub cards : (image area : List ℕ) → Returned
  pub chain : (image : List ℕ) (sequence question fact : ℕ) (area : List ℕ) → Returned
  -- F, C, the cards, a list of sequences, and the words of the list's card before the call (document 02, request 5)
  pub list : (facts sequences : ℕ) (cards list card : List ℕ) → Returned
  -- why a sequence has no run (document 02, request 7)
  pub endless : (image : List ℕ) (sequence : ℕ) (area : List ℕ) → Returned

-- "N × 2^32 + P for refusal N at position P": a refusal is a number from 2^32 on
abbrev pub Refuses : ℕ → Type 0
Refuses n = 2 ^ 32 ≤ n

-- ---- demand 1

pub record Demand1 (e : Engine) : Type 0 where
  -- "A caller may hand over every list of words, every area and every number, and the call ends with an acceptance, .. or the first refusal
  -- in document 01 that applies"; "Demand 1 and document 01's list take in the answers that requests add": 13 beside 4 to 6,
  -- 14 and 15 of the list call, 16 and 17 of the endless call
  pub check : (image : List ℕ) → e.check image ≡ checked_answer (checked image)
  -- "otherwise the head's payload from the check"
  pub head : (image : List ℕ) (h : Head) → checked image ≡ Ok h → e.check image ≡ payload (first_word image)
  -- ".. cards, .."
  pub cards : (image area : List ℕ) → CardsReturn image area (e.cards image area)
  -- ".. a chain, "none", .."
  pub chain : (image : List ℕ) (c q f : ℕ) (area : List ℕ) → ChainReturn image c q f area (e.chain image c q f area)
  -- "one card for it as the call's answer" (document 02, request 5)
  pub list : (facts sequences : ℕ) (cards list card : List ℕ)
      → ListReturn facts sequences cards list card (e.list facts sequences cards list card)
  -- "Otherwise the answer is the list's length" (document 02, request 7)
  pub endless : (image : List ℕ) (c : ℕ) (area : List ℕ) → EndlessReturn image c area (e.endless image c area)
  -- "a refusal changes no word of a lent area"
  pub cards_kept : (image area : List ℕ) → Refuses (e.cards image area).number → (e.cards image area).area ≡ area
  pub chain_kept : (image : List ℕ) (c q f : ℕ) (area : List ℕ) → Refuses (e.chain image c q f area).number
      → (e.chain image c q f area).area ≡ area
  pub list_kept : (facts sequences : ℕ) (cards list card : List ℕ) → Refuses (e.list facts sequences cards list card).number
      → (e.list facts sequences cards list card).area ≡ card
  pub endless_kept : (image : List ℕ) (c : ℕ) (area : List ℕ) → Refuses (e.endless image c area).number → (e.endless image c area).area ≡ area
  -- ""none" writes nothing", "0 there for "none""
  pub none_kept : (image : List ℕ) (c q f : ℕ) (area : List ℕ) → (e.chain image c q f area).number ≡ 0 → (e.chain image c q f area).area ≡ area
  -- the caller can tell a refusal by the number
  pub check_told : (image : List ℕ) → Refuses (e.check image) ↔ ((r : Refusal) × (checked image ≡ Err r))
  pub cards_told : (image area : List ℕ) → Refuses (e.cards image area).number ↔ ((r : Refusal) × CardsRefused image (length area) r)
  pub chain_told : (image : List ℕ) (c q f : ℕ) (area : List ℕ)
      → Refuses (e.chain image c q f area).number ↔ ((r : Refusal) × ChainRefused image c q f (length area) r)
  pub list_told : (facts sequences : ℕ) (cards list card : List ℕ)
      → Refuses (e.list facts sequences cards list card).number ↔ ((r : Refusal) × ListRefused sequences (length cards) list r)
  pub endless_told : (image : List ℕ) (c : ℕ) (area : List ℕ)
      → Refuses (e.endless image c area).number ↔ ((r : Refusal) × EndlessRefused image c (length area) r)

-- ---- demand 2

-- how many sequences the library has: the head's C (`counted` of the reader)
abbrev pub count : Library → ℕ
count L = length L.sequences

-- "For every accepted library", with a card area that has room: 49 × C words (document 02, request 8)
pub record Ready (image area : List ℕ) : Type 0 where
  pub head : Head
  pub accepted : checked image ≡ Ok head
  pub room : card_words * count (library_of image) ≤ length area

pub record Demand2 (e : Engine) : Type 0 where
  -- "each card's columns hold a fact if the published definition of relaxed preconditions and effects puts it there, and only then, over
  -- all finite runs; a sequence without a run has a blank card, and flags and count are those of document 01": the numbers are found in the
  -- sequence's own part of the area, the flags in a word and each column in four
  pub card : (image area : List ℕ) → Ready image area → (c : ℕ) → c < count (library_of image)
      → Card (library_of image) c (part_number (e.cards image area).area c)
  -- "64-bit words": so the numbers fix them
  pub narrow : (image area : List ℕ) → Ready image area → (i : ℕ) → i < card_words * count (library_of image)
      → get_or (e.cards image area).area i 0 < 2 ^ 64
  -- "words past 7 × C stay", 49 × C by request 8
  pub past : (image area : List ℕ) → Ready image area → (i : ℕ) → card_words * count (library_of image) ≤ i
      → get_or (e.cards image area).area i 0 ≡ get_or area i 0
  pub long : (image area : List ℕ) → Ready image area → length (e.cards image area).area ≡ length area

-- ---- demand 3

-- "The column's two questions, numbered under "Chains", are 4 and 5 for "always needed", 1 and 2 for "always set", 0 and 2 for "always
-- cleared"."
abbrev pub Asks : Always → ℕ → Type 0
Asks needed q = (q ≡ 4) ⊎ (q ≡ 5)
Asks set q = (q ≡ 1) ⊎ (q ≡ 2)
Asks cleared q = (q ≡ 0) ⊎ (q ≡ 2)

-- the chain shows that sequence c breaks the rule of column a for fact f, by question q
pub record Proves (L : Library) (c : ℕ) (a : Always) (f q : ℕ) (links : Chain) : Type 0 where
  -- "a chain of no more links than the library has sequences"
  pub few : length links ≤ count L
  -- "The chain stands for at least one run of that sequence", and "Every chain stands for at least one run with its outcome"
  pub some : (w : List Item) × StandsFor L (question_of q) f links w × Run L c w × HasOutcome L (question_of q) f w
  -- "and every run it stands for is one of that sequence's and breaks the rule"
  pub every : (w : List Item) → StandsFor L (question_of q) f links w → Run L c w × Breaks L a f w

-- demand 3 of sequence c, where `word` is its card and `chain` answers a question about it: question, fact, area
pub record Shown (L : Library) (c : ℕ) (word : ℕ → ℕ) (chain : ℕ → ℕ → List ℕ → Returned) : Type 0 where
  -- "for every run of a sequence and whichever facts stand at the start: if the run executes from there, each fact in "always needed" stood
  -- at the start, each in "always set" stands at the end, and none in "always cleared" does." "Whoever runs such a sequence to its end finds each of these
  -- facts standing", those in "always stands" (document 02, request 4)
  pub kept : (w : List Item) → Run L c w → (s : State L) → Executes L w s → (f : Fact L) → Kept L word w s f
  -- "A fact that stands at the end and not at the start is in "may set", one that stands at the start and not at the end in "may clear"."
  pub changed : (w : List Item) → Run L c w → (s : State L) → (f : Fact L) → Changed L word w s f
  -- "A fact is missing from one of these three "always" columns exactly when the sequence has no run, or has one, executing or not, that
  -- breaks the column's rule."
  pub missing : (a : Always) (f : Fact L) → Missing L c word a f
  -- "Each run that breaks it has the outcome of one of the column's two questions in document 01."
  pub outcome : (a : Always) (f : Fact L) (w : List Item) → Run L c w → Breaks L a f.0 w
      → (q : ℕ) × Asks a q × HasOutcome L (question_of q) f.0 w
  -- "That question, asked of that sequence and fact with an area of at least two words for each sequence, gets a chain of no more links
  -- than the library has sequences. The chain stands for at least one run of that sequence, and every run it stands for is one of that
  -- sequence's and breaks the rule."
  pub answer : (a : Always) (f : Fact L) (w : List Item) → Run L c w → (q : ℕ) → Asks a q → HasOutcome L (question_of q) f.0 w
      → (area : List ℕ) → 2 * count L ≤ length area → (links : Chain) × Links area (chain q f.0 area) links × Proves L c a f.0 q links

pub record Demand3 (e : Engine) : Type 0 where
  -- "For every accepted library, however its sequences nest or call themselves"
  pub shown : (image area : List ℕ) → Ready image area → (c : ℕ) → c < count (library_of image)
      → Shown (library_of image) c (part_number (e.cards image area).area c) (e.chain image c)

-- ---- all three

pub record Demands (e : Engine) : Type 0 where
  pub total : Demand1 e
  pub columns : Demand2 e
  pub runs : Demand3 e
