-- Laws of the chain call: what an accepted image and numbers in range get; that an area of two words a sequence is never too small; and
-- the area after the call.
use Prim.Native.Nat.{ℕ, ◌*◌, ◌≤◌, ◌<◌}
use mathlib.Core.Path.{◌≡◌, refl, ◌∙◌, ap}
use mathlib.Core.Bool.{Bool, true, false, cond}
use mathlib.Core.List.{List}
use native.Mathlib.Omega.{arith}
use lib.ListN.{length, drop, length-append, length-drop}
use lib.Dec.{leb, ltb}
use borrow.Author.Tests.{le-leb, lt-ltb, leb-true, ltb-true}
use Rattle.rules.specs.Checked.{checked}
use Rattle.library.specs.Library.{library_of, Item}
use Rattle.image.specs.declared.answer.Head.{Head}
use Rattle.image.specs.declared.answer.Refusal.{Refusal}
use Rattle.image.specs.declared.answer.Refusal.TheVariants.{Sequence, Question, Fact, ChainArea}
use Rattle.library.proofs.Accepted.{counted}
use Rattle.runs.specs.Run.{Run}
use Rattle.runs.specs.Touch.{question_of, HasOutcome}
use Rattle.chains.specs.Link.{Chain, chain_words}
use Rattle.chains.specs.Answer.{Answer, none, shown, answer}
use Rattle.chains.specs.Shows.{Shows}
use Rattle.chains.specs.Call.{Reply, refused, answered, in_area, after_check, chained, area_after}
use Rattle.chains.proofs.Words.{words_length}
use Rattle.chains.proofs.Answers.{answer_shows, answer_none}
use Rattle.std.specs.Prelude.{Ok, Err}
use Rattle.image.specs.Answer.{Checked}

-- what the call comes to where the image is accepted and the numbers are in range
pub call_asked : (image : List ℕ) (h : Head) (c q f room : ℕ) → checked image ≡ Ok h → c < h.sequences → q ≤ 5 → f < h.facts
    → chained image c q f room ≡ in_area room (answer (library_of image) (question_of q) c f)
unfolding chained
call_asked image h c q f room accepted sequence question fact =
    rw (accepted, lt-ltb c h.sequences sequence, le-leb q 5 question, lt-ltb f h.facts fact)

-- "an area of at least two words for each sequence" is never too small
pub room_suffices : (image : List ℕ) (h : Head) (c q f room : ℕ) → checked image ≡ Ok h → 2 * h.sequences ≤ room
    → in_area room (answer (library_of image) (question_of q) c f) ≡ answered (answer (library_of image) (question_of q) c f)
room_suffices image h c q f room accepted enough = go (answer (library_of image) (question_of q) c f) refl
  where
    go : (a : Answer) → answer (library_of image) (question_of q) c f ≡ a → in_area room a ≡ answered a
    go none e = refl
    go (shown ls) e =
        let few = (answer_shows (library_of image) (question_of q) c f ls e).few in
        let n = (counted image h accepted).sequences in
        let words = words_length ls in
        rw (le-leb (length (chain_words ls)) room (omega arith))

-- a question whose outcome some run has gets a chain that keeps every promise
pub call_shows : (image : List ℕ) (h : Head) (c q f room : ℕ) → checked image ≡ Ok h → c < h.sequences → q ≤ 5 → f < h.facts
    → 2 * h.sequences ≤ room → (w : List Item) → Run (library_of image) c w → HasOutcome (library_of image) (question_of q) f w
    → (ls : Chain) × (chained image c q f room ≡ answered (shown ls)) × Shows (library_of image) (question_of q) c f ls
call_shows image h c q f room accepted sequence question fact enough w run outcome =
    go (answer (library_of image) (question_of q) c f) refl
    (call_asked image h c q f room accepted sequence question fact ∙ room_suffices image h c q f room accepted enough)
  where
    go : (a : Answer) → answer (library_of image) (question_of q) c f ≡ a
        → chained image c q f room ≡ answered (answer (library_of image) (question_of q) c f)
        → (ls : Chain) × (chained image c q f room ≡ answered (shown ls)) × Shows (library_of image) (question_of q) c f ls
    go none e r = absurd ((answer_none (library_of image) (question_of q) c f).0 e w run outcome)
    go (shown ls) e r = (ls, r ∙ ap answered e, answer_shows (library_of image) (question_of q) c f ls e)

-- a chain that is answered has room in the area
abbrev InRoom : ℕ → Reply → Type 0
InRoom room (refused r) = Unit {0}
InRoom room (answered none) = Unit {0}
InRoom room (answered (shown ls)) = length (chain_words ls) ≤ room

cond_room : (room : ℕ) (b : Bool) (x y : Reply) → (b ≡ true → InRoom room x) → InRoom room y → InRoom room (cond b x y)
cond_room room true x y hx hy = hx refl
cond_room room false x y hx hy = hy

area_room : (room : ℕ) (a : Answer) → InRoom room (in_area room a)
area_room room none = tt
area_room room (shown ls) =
    cond_room room (leb (length (chain_words ls)) room) (answered (shown ls)) (refused ChainArea) (leb-true (length (chain_words ls)) room) tt

call_room : (image : List ℕ) (c q f room : ℕ) → InRoom room (chained image c q f room)
unfolding chained
call_room image c q f room = go (checked image)
  where
    go : (k : Checked) → InRoom room (after_check k image c q f room)
    go (Err r) = tt
    go (Ok h) =
        let a = in_area room (answer (library_of image) (question_of q) c f) in
        cond_room room (ltb c h.sequences) (cond (leb q 5) (cond (ltb f h.facts) a (refused Fact)) (refused Question)) (refused Sequence)
        (λ e. cond_room room (leb q 5) (cond (ltb f h.facts) a (refused Fact)) (refused Question)
        (λ e'. cond_room room (ltb f h.facts) a (refused Fact) (λ e''. area_room room (answer (library_of image) (question_of q) c f)) tt) tt) tt

-- the area keeps its length
pub area_length : (image : List ℕ) (c q f : ℕ) (area : List ℕ) → length (area_after (chained image c q f (length area)) area) ≡ length area
area_length image c q f area = go (chained image c q f (length area)) (call_room image c q f (length area))
  where
    go : (r : Reply) → InRoom (length area) r → length (area_after r area) ≡ length area
    go (refused r) h = refl
    go (answered none) h = refl
    go (answered (shown ls)) h =
        omega (arith, length-append (chain_words ls) (drop (length (chain_words ls)) area), length-drop (length (chain_words ls)) area)

-- where the call answers, the image is accepted, the numbers are in range, and it is the answer to the question
pub record Answers (image : List ℕ) (c q f : ℕ) (a : Answer) : Type 0 where
  pub head : Head
  pub accepted : checked image ≡ Ok head
  pub sequence : c < head.sequences
  pub question : q ≤ 5
  pub fact : f < head.facts
  pub known : answer (library_of image) (question_of q) c f ≡ a

cond_answered : (b : Bool) (x : Reply) (r : Refusal) (a : Answer) → cond b x (refused r) ≡ answered a → (b ≡ true) × (x ≡ answered a)
cond_answered true x r a e = (refl, e)
cond_answered false x r a e = let no : ◌≡◌ {A = ℕ} 0 1 = cc in absurd (omega arith)

area_answered : (room : ℕ) (found a : Answer) → in_area room found ≡ answered a → found ≡ a
area_answered room none a e = cc
area_answered room (shown ls) a e =
    let whole = (cond_answered (leb (length (chain_words ls)) room) (answered (shown ls)) ChainArea a e).1 in
    cc

pub call_answered : (image : List ℕ) (c q f room : ℕ) (a : Answer) → chained image c q f room ≡ answered a → Answers image c q f a
unfolding chained
call_answered image c q f room a e = go (checked image) refl e
  where
    go : (k : Checked) → checked image ≡ k → after_check k image c q f room ≡ answered a → Answers image c q f a
    go (Err r) known told = let no : ◌≡◌ {A = ℕ} 0 1 = cc in absurd (omega arith)
    go (Ok h) known told =
        let reply = in_area room (answer (library_of image) (question_of q) c f) in
        let fact = cond (ltb f h.facts) reply (refused Fact) in
        let question = cond (leb q 5) fact (refused Question) in
        let first = cond_answered (ltb c h.sequences) question Sequence a told in
        let second = cond_answered (leb q 5) fact Question a first.1 in
        let third = cond_answered (ltb f h.facts) reply Fact a second.1 in
        record {
          head = h;
          accepted = known;
          sequence = ltb-true c h.sequences first.0;
          question = leb-true q 5 second.0;
          fact = ltb-true f h.facts third.0;
          known = area_answered room (answer (library_of image) (question_of q) c f) a third.1;
        }
