-- What the demands fix: every word of the card area by demand 2, and by demand 3 that the links which a caller reads in the area show what
-- was asked.
-- Assumes nothing.
use Prim.Native.Nat.{ℕ, zero, suc, ◌+◌, ◌-◌, ◌*◌, ◌^◌, ◌≤◌, ◌<◌}
use native.Mathlib.Nat.{zero-add, suc-add}
use native.Mathlib.Omega.{arith}
use native.Mathlib.Decide.{dec_lt}
use mathlib.Core.Path.{◌≡◌, sym, ap, ap₂, subst, ◌∙◌}
use mathlib.Core.Logic.{by_cases}
use mathlib.Core.List.{List, [], ◌∷◌}
use lib.ListN.{length, get_or, drop, take, replicate, length-replicate}
use lib.Seq.{take-append_seam, ext_get_or, get_or-take, take-take, take-nil, length-take-le}
use Rattle.general.specs.Tests.{All}
use Rattle.column.specs.Words.{number}
use Rattle.rules.specs.Checked.{checked}
use Rattle.library.specs.Library.{Library, library_of}
use Rattle.image.specs.declared.answer.Head.{Head}
use Rattle.library.proofs.Accepted.{counted}
use Rattle.runs.specs.Touch.{question_of}
use Rattle.cards.specs.Area.{part_number, AllCards}
use Rattle.cards.specs.Card.{card_number}
use Rattle.cards.specs.Layout.{card_numbers, column_words, column_width, card_words}
use Rattle.cards.specs.Meaning.{Always}
use Rattle.cards.proofs.Meaning.{card_right, card_same}
use Rattle.cards.proofs.Unique.{card_unique}
use Rattle.cards.proofs.Area.{cards_unique}
use Rattle.dulimoven.proofs.CardCall.{few_facts}
use Rattle.chains.specs.Link.{Chain, chain_words}
use Rattle.chains.specs.Answer.{shown}
use Rattle.chains.specs.Call.{answered, chained}
use Rattle.chains.proofs.Words.{words_length, words_same}
use Rattle.chains.proofs.Answers.{answer_shows}
use Rattle.chains.proofs.Call.{call_answered}
use Rattle.dulimoven.specs.Returned.{Returned}
use Rattle.dulimoven.specs.ChainCall.{Links}
use Rattle.dulimoven.specs.Demands.{Engine, count, Ready, Demand2, Asks, Proves, Demand3}
use Rattle.dulimoven.specs.Engine.{engine}
use Rattle.dulimoven.proofs.Demands.{columns}
use Rattle.agreement.specs.Wrong.{Gets}
use Rattle.std.specs.Prelude.{Ok}

-- ---- demand 2

drop_take : (i n : ℕ) (ws : List ℕ) → drop i (take (i + n) ws) ≡ take n (drop i ws)
drop_take zero n ws = ap (λ (m : ℕ). take m ws) (zero-add n)
drop_take (suc i) n [] = ap (λ (m : ℕ). drop (suc i) (take m [])) (suc-add i n) ∙ sym (take-nil n)
drop_take (suc i) n (w ∷ ws) = ap (λ (m : ℕ). drop (suc i) (take m (w ∷ ws))) (suc-add i n) ∙ drop_take i n ws

-- the words of a part that stands within the first of them
part_take : (i k n : ℕ) (ws : List ℕ) → i + k ≤ n → take k (drop i (take n ws)) ≡ take k (drop i ws)
part_take i k n ws l =
    let whole : n ≡ i + (n - i) = omega arith in
    ap (λ (m : ℕ). take k (drop i (take m ws))) whole ∙ ap (take k) (drop_take i (n - i) ws) ∙ take-take k (n - i) (drop i ws) (omega arith)

all_words : (P : ℕ → Type 0) (ws : List ℕ) → ((i : ℕ) → i < length ws → P (get_or ws i 0)) → All P ws
all_words P [] each = tt
all_words P (w ∷ ws) each = (each 0 (omega arith), all_words P ws (λ i l. each (suc i) (omega arith)))

module _ (e : Engine) (d : Demand2 e) (image area : List ℕ) (ready : Ready image area) where
  abbrev K : Library
  K = library_of image

  -- the words after the call, and how many of them are cards
  abbrev words : List ℕ
  words = (e.cards image area).area

  abbrev n : ℕ
  n = card_words * count K

  room : n ≤ length words
  room = omega (arith, d.long image area ready, ready.room)

  few : K.facts ≤ column_width
  few = few_facts image ready.head ready.accepted

  number_taken : (c k : ℕ) → c < count K → k < card_numbers → part_number (take n words) c k ≡ part_number words c k
  number_taken c zero l u = get_or-take n words (card_words * c + 0) 0 (omega arith)
  number_taken c (suc k) l u = ap number (part_take (card_words * c + 1 + column_words * k) column_words n words (omega arith))

  -- they are the library's cards
  pub cards_all : AllCards K (take n words)
  cards_all =
      record {
        long = length-take-le n words room;
        narrow =
            all_words (λ (w : ℕ). w < 2 ^ 64) (take n words)
            (λ i l. let low : i < n = omega (arith, length-take-le n words room) in
            subst (λ (w : ℕ). w < 2 ^ 64) (sym (get_or-take n words i 0 low)) (d.narrow image area ready i low));
        card = λ c l.
            card_same K c _
            (λ k u. number_taken c k l u ∙ card_unique K c (part_number words c) (card_number K c) (d.card image area ready c l) (card_right K few c) k u)
            (card_right K few c);
      }

module _ (e : Engine) (d : Demand2 e) (image area : List ℕ) (ready : Ready image area) where
  pub cards_fixed : (c k : ℕ) → c < count (library_of image) → k < card_numbers
      → part_number (e.cards image area).area c k ≡ part_number (engine.cards image area).area c k
  cards_fixed c k l u =
      card_unique (library_of image) c (part_number (e.cards image area).area c) (part_number (engine.cards image area).area c) (d.card image area ready c l)
      (columns.card image area ready c l) k u

  pub area_fixed : (e.cards image area).area ≡ (engine.cards image area).area
  area_fixed =
      ext_get_or 0 (e.cards image area).area (engine.cards image area).area (d.long image area ready ∙ sym (columns.long image area ready))
      (λ i l. by_cases (dec_lt i (card_words * count (library_of image))) (inside i)
      (λ high. let from : card_words * count (library_of image) ≤ i = omega arith in
      d.past image area ready i from ∙ sym (columns.past image area ready i from)))
    where
      inside : (i : ℕ) → i < card_words * count (library_of image) → get_or (e.cards image area).area i 0 ≡ get_or (engine.cards image area).area i 0
      inside i l =
          let m = card_words * count (library_of image) in
          sym (get_or-take m (e.cards image area).area i 0 l)
          ∙ ap (λ (ws : List ℕ). get_or ws i 0)
          (cards_unique (library_of image) (take m (e.cards image area).area) (take m (engine.cards image area).area) (cards_all e d image area ready)
          (cards_all engine columns image area ready))
          ∙ get_or-take m (engine.cards image area).area i 0 l

-- ---- demand 3

-- the words in the area tell the links
pub links_told : (before : List ℕ) (r : Returned) (ls ms : Chain) → Links before r ls → Links before r ms → ls ≡ ms
links_told before r ls ms one two =
    let same : length ls ≡ length ms = sym one.number ∙ two.number in
    let size : length (chain_words ls) ≡ length (chain_words ms) = omega (arith, words_length ls, words_length ms) in
    words_same ls ms one.fits two.fits
    (sym (take-append_seam (chain_words ls) (drop (length (chain_words ls)) before))
    ∙ ap₂ (λ (n : ℕ) (ws : List ℕ). take n ws) size (sym one.area ∙ two.area)
    ∙ take-append_seam (chain_words ms) (drop (length (chain_words ms)) before))

-- a card area with room for an accepted image
pub some_area : List ℕ → List ℕ
some_area image = replicate (card_words * count (library_of image)) 0

pub ready_for : (image : List ℕ) (h : Head) → checked image ≡ Ok h → Ready image (some_area image)
unfolding some_area
ready_for image h accepted =
    record { head = h; accepted = accepted; room = omega (arith, length-replicate {A = ℕ} (card_words * count (library_of image)) 0) }

-- a chain that the engine answers, with room in the area
pub gets_chain : (image : List ℕ) (c q f : ℕ) (area : List ℕ) (ls : Chain) → chained image c q f (length area) ≡ answered (shown ls)
    → length (chain_words ls) ≤ length area → Gets image c q f area ls
gets_chain image c q f area ls told room =
    let call = call_answered image c q f (length area) (shown ls) told in
    record {
      asked =
          record {
            head = call.head;
            accepted = call.accepted;
            sequence = call.sequence;
            question = call.question;
            fact = call.fact;
          };
      answers = answer_shows (library_of image) (question_of q) c f ls call.known;
      room = room;
    }

-- by demand 3 a question about a broken rule that has a chain gets one that shows it
pub chain_shown : (e : Engine) → Demand3 e → (image : List ℕ) (c q f : ℕ) (a : Always) → Asks a q → (area : List ℕ)
    → 2 * count (library_of image) ≤ length area → (right : Chain) → Gets image c q f area right
    → (links : Chain) × Links area (e.chain image c q f area) links × Proves (library_of image) c a f q links
chain_shown e d image c q f a asks area room right gets =
    let asked = gets.asked in
    let size = counted image asked.head asked.accepted in
    let sequences = size.sequences in
    let facts = size.facts in
    let sequence = asked.sequence in
    let fact = asked.fact in
    let shows = gets.answers in
    let (run, outcome) = shows.runs shows.run shows.stands in
    (d.shown image (some_area image) (ready_for image asked.head asked.accepted) c (omega arith)).answer a (f, omega arith) shows.run run q asks
    outcome area room
