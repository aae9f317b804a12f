-- Tables that describe a library, and the question that the code is asked: what must hold of them for the answer by words to be the
-- library's.
use Rattle.std.specs.Prelude.{ℕ, ◌+◌, ◌*◌, ◌^◌, ◌≤◌, ◌<◌, ◌≡◌, Bool, true, false, cond, not, ◌≢◌, List, length, get_or, drop}
use Rattle.image.specs.Word.{most_facts}
use Rattle.library.specs.Library.{Library, Entry, library_of, Item, step}
use Rattle.walk.specs.Walk.{alternatives_at}
use Rattle.image.specs.declared.answer.Head.{Head}
use Rattle.library.specs.Tables.{mask_of}
use Rattle.settling.specs.Settling.{Scheduled}
use Rattle.runs.specs.Run.{alternatives_of}
use Rattle.runs.specs.Domain.{action_of}
use Rattle.runs.specs.Touch.{Side, last, first, Mark, present, absent, untouched, Question}
use Rattle.chains.specs.Ranks.{unranked, ahead_of, behind_of}
use Rattle.slot.specs.Slots.{first_step, item_rank, pass_in, ItemsRankable}
use Rattle.rank.specs.Tables.{Rankable, Ranked}
use Rattle.link.specs.Choice.{Opened, answer_in}
use Rattle.question.specs.Answer.{by_rank}
use Rattle.question.specs.Asked.{mark_number}
use Rattle.question.specs.Reply.{Answered}
use Rattle.chains.specs.Answer.{answer}
use Rattle.question.specs.declared.asked.Asked.{Asked}
use Rattle.question.specs.declared.asked.Mark as code
use Rattle.question.specs.declared.asked.Mark.TheVariants.{Present, Absent, Untouched, Run, Other}

-- a side and a mark as the code has them
abbrev pub is_first : Side → Bool
is_first last = false
is_first first = true

abbrev pub mark_as : Mark → code.Mark
mark_as present = Present
mark_as absent = Absent
mark_as untouched = Untouched

-- the code is asked this question of the library
pub record Asks (L : Library) (q : Asked) (Q : Question) : Type 0 where
  pub first : q.first ≡ is_first Q.side
  pub mark : q.mark ≡ mark_as Q.mark
  pub none : q.none ≡ unranked L
  pub fact : q.fact < L.facts

-- the masks are those of the library's steps, of the facts of block k, and there are no more facts than there may be
pub record Masked (L : Library) (k : ℕ) (masks : List ℕ) : Type 0 where
  pub narrow : L.facts ≤ most_facts
  pub needs : (a : ℕ) → get_or masks (3 * a) 0 ≡ mask_of k (action_of L (step a)).needs
  pub sets : (a : ℕ) → get_or masks (3 * a + 1) 0 ≡ mask_of k (action_of L (step a)).sets
  pub clears : (a : ℕ) → get_or masks (3 * a + 2) 0 ≡ mask_of k (action_of L (step a)).clears

-- the words hold each sequence's alternatives where its place says
abbrev pub Placed : Library → List ℕ → List ℕ → Type 0
Placed L part places = (c : ℕ) → c < length L.sequences → alternatives_at part places c ≡ alternatives_of L.sequences c

-- the ranks of the items in a table are by a test of them, with `past` for an item that has no word
abbrev pub ItemsBy : ℕ → ℕ → (Item → Bool) → List ℕ → Type 0
ItemsBy none past test T = (x : Item) → item_rank past (drop none T) x ≡ cond (test x) 0 none

-- the tables are the library's, where the question asks for a touch: what they say of the entries ahead of the position and of those
-- behind it
pub record Described (L : Library) (Q : Question) (f : ℕ) (ahead behind : List ℕ) : Type 0 where
  pub by_ahead : (e : Entry) → pass_in (unranked L) ahead e ≡ ahead_of L Q f Q.side e
  pub by_behind : (e : Entry) → pass_in (unranked L) behind e ≡ behind_of L Q f Q.side e

-- the question that the code is asked
abbrev pub side_by : Bool → Side
side_by false = last
side_by true = first

abbrev pub mark_by : code.Mark → Mark
mark_by Present = present
mark_by Absent = absent
mark_by Untouched = untouched
mark_by Run = untouched
mark_by Other = untouched

abbrev pub question_by : Asked → Question
question_by q = record { side = side_by q.first; mark = mark_by q.mark }

-- what the search for an answer asks beside an accepted image: a sequence, a mark and a fact that there are
pub record FindAsked (h : Head) (q : Asked) (c : ℕ) : Type 0 where
  pub sequence : c < h.sequences
  pub mark : mark_number q.mark ≤ 2
  pub fact : q.fact < h.facts
  pub none : q.none ≡ h.sequences + 2

-- the answer to the question of sequence c, and the area after it, by the rank that was found
abbrev pub AnswerFound : List ℕ → Asked → ℕ → List ℕ → ℕ → List ℕ → Type 0
AnswerFound image q c area rank after = Answered (answer (library_of image) (question_by q) c q.fact) area (by_rank q rank (length area)) after

-- the words of a table of ranks: those of the sequences and of the checks, and one for each step
abbrev pub ranks_length : Head → Asked → ℕ
ranks_length h q = first_step q.none + h.steps

-- the sizes of the areas that the answer is found in: of the masks, the sets of callers, the places and the order, and the tables of ranks. They
-- have the room, and fit in memory
pub record AreasAsked (h : Head) (q : Asked) (masks callers places ranks : ℕ) : Type 0 where
  pub masks_room : 3 * h.steps ≤ masks
  pub callers_room : 4 * h.sequences ≤ callers
  pub places_room : h.sequences ≤ places
  pub ranks_room : ranks_length h q ≤ ranks
  pub masks_fit : masks < 2 ^ 32
  pub callers_fit : callers < 2 ^ 32
  pub places_fit : places < 2 ^ 32
  pub ranks_fit : ranks < 2 ^ 32

-- ---- the tables, whatever image they are of

-- what is asked of the tables that the ranks are worked out in: each has a word for each sequence and each item
pub record Findable (q : Asked) (n : ℕ) (masks ahead behind links part places callers order : List ℕ) : Type 0 where
  pub items : ItemsRankable q masks links
  pub rankable : Rankable q.none links part
  pub ahead_long : length ahead ≡ length links
  pub behind_long : length behind ≡ length links
  pub low : n ≤ q.none
  pub ranked : n ≤ length links
  pub placed : n ≤ length places
  pub opened : Opened part places
  pub scheduled : Scheduled n part places callers order

-- the same question for "untouched", and where only a rank counts
abbrev pub for_untouched : Asked → Asked
for_untouched q = record { first = q.first; mark = Untouched; fact = q.fact; none = q.none }

abbrev pub for_run : Asked → Asked
for_run q = record { first = q.first; mark = Run; fact = q.fact; none = q.none }

-- the tables of the entries ahead of the position and behind it, for a question that asks for a touch: which can stay untouched, and which
-- have a run
pub record EntriesMarked (q : Asked) (n : ℕ) (masks blank part places ahead₀ behind₀ ahead behind : List ℕ) : Type 0 where
  pub ahead_marked : q.mark ≢ Untouched → Ranked (not q.first) (for_untouched q) (for_run q) n masks blank blank part places ahead₀ ahead
  pub behind_marked : q.mark ≢ Untouched → Ranked q.first (for_untouched q) (for_run q) n masks blank blank part places behind₀ behind

-- tables of ranks from those before, and the answer by them in the area
pub record Found (q : Asked) (n c : ℕ) (masks part places ahead₀ behind₀ links₀ area : List ℕ) (rank : ℕ) (after : List ℕ) : Type 0 where
  pub ahead : List ℕ
  pub behind : List ℕ
  pub links : List ℕ
  pub marked : EntriesMarked q n masks links₀ part places ahead₀ behind₀ ahead behind
  pub ranked : Ranked false q q n masks ahead behind part places links₀ links
  pub answered : Answered (answer_in q ahead behind links part places c) area (by_rank q rank (length area)) after
