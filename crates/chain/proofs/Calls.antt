-- What the code of the chain call does comes to the call: refused, out of range, or asked.
use Prim.Native.Nat.{ℕ, zero, suc, ◌+◌, ◌%◌, ◌≤◌, ◌<◌}
use mathlib.Core.Path.{◌≡◌, refl, sym, ◌∙◌, ap}
use mathlib.Core.Bool.{Bool, true, false, cond, ◌&&◌, true≢false}
use mathlib.Core.List.{List, [], ◌∷◌}
use native.Mathlib.Omega.{arith}
use lib.ListN.{length, get_or}
use lib.Dec.{eqb, leb, ltb}
use Rattle.std.specs.Prelude.{Result, Ok, Err}
use borrow.Author.Tests.{leb-true, ltb-true}
use Rattle.rules.specs.Checked.{checked}
use Rattle.library.specs.Library.{library_of}
use Rattle.image.specs.declared.answer.Head.{Head}
use Rattle.image.specs.declared.answer.Refusal.{Refusal}
use Rattle.image.specs.declared.answer.Refusal.TheVariants.{Sequence, Question, Fact}
use Rattle.runs.specs.Touch.{present, absent, untouched, question_of}
use Rattle.runs.specs.Touch as touch
use Rattle.general.proofs.Bools.{and_parts}
use Rattle.question.specs.Answer.{by_rank}
use Rattle.question.proofs.Marks.{mark_above}
use Rattle.question.specs.Asked.{in_range, out_of_range, range_told, mark_number, mark_from, question_mark, question_asked}
use Rattle.question.specs.declared.asked.Asked.{Asked}
use Rattle.question.specs.declared.asked.Mark.TheVariants.{Present, Absent, Untouched}
use Rattle.chains.specs.Answer.{answer}
use Rattle.chain.specs.Described.{mark_by, question_by}
use Rattle.question.specs.Reply.{Answered, ChainCalled, chained_as}
use Rattle.question.specs.declared.answer.Chained.{Chained}
use Rattle.chains.specs.Call.{Reply, refused, in_area, after_check, chained, area_after}
use Rattle.chains.proofs.Call.{call_asked}
use Rattle.std.specs.Prelude.{Ok, Err}
use Rattle.image.specs.Answer.{Checked}

-- 1 to 7
pub call_refused : (image : List ℕ) (r : Refusal) (c q f : ℕ) (area : List ℕ) → checked image ≡ Err r → ChainCalled image c q f area (Chained.Refused r) area
unfolding chained
call_refused image r c q f area e = record { answer = rw e; area = rw e }

-- a question by the side and the mark that its number has
pub question_by_lem : (q fact no_rank : ℕ) → q ≤ 5 → question_by (record { first = leb 3 q; mark = question_mark q; fact = fact; none = no_rank }) ≡ question_of q
question_by_lem zero fact no_rank l = refl
question_by_lem (suc zero) fact no_rank l = refl
question_by_lem (suc (suc zero)) fact no_rank l = refl
question_by_lem (suc (suc (suc zero))) fact no_rank l = refl
question_by_lem (suc (suc (suc (suc zero)))) fact no_rank l = refl
question_by_lem (suc (suc (suc (suc (suc zero))))) fact no_rank l = refl
question_by_lem (suc (suc (suc (suc (suc (suc q)))))) fact no_rank l = absurd (omega arith)

question_touch : (q : ℕ) → mark_number (question_mark q) ≤ 2
question_touch q = go (eqb (q % 3) 0) (eqb (q % 3) 1)
  where
    go : (a b : Bool) → mark_number (cond a Present (cond b Absent Untouched)) ≤ 2
    go true b = omega arith
    go false true = omega arith
    go false false = omega arith

-- the mark that a number stands for, as the library's: each number above 1 is taken for "untouched"
pub mark_by_number : (n : ℕ) → mark_by (mark_from n) ≡ get_or (present ∷ absent ∷ untouched ∷ []) n untouched
mark_by_number zero = refl
mark_by_number (suc zero) = refl
mark_by_number (suc (suc zero)) = refl
mark_by_number (suc (suc (suc zero))) = refl
mark_by_number (suc (suc (suc (suc n)))) = ap mark_by (mark_above n)

-- what the tests told
abbrev told : Bool → Refusal → Result (Unit {0}) Refusal
told b r = cond b (Ok tt) (Err r)

told_ok : (b : Bool) (r : Refusal) (u : Unit {0}) → Ok u ≡ told b r → b ≡ true
told_ok true r u e = refl
told_ok false r u e = cc

told_err : (b : Bool) (r s : Refusal) → Err r ≡ told b s → (b ≡ false) × (r ≡ s)
told_err true r s e = cc
told_err false r s e = (refl, cc)

-- the tests of the three numbers
pub in_range_lem : (h : Head) (c q f : ℕ) (u : Unit {0}) → Ok u ≡ range_told h c q f → (c < h.sequences) × (q ≤ 5) × (f < h.facts)
in_range_lem h c q f u within =
    let two = and_parts (ltb c h.sequences && leb q 5) (ltb f h.facts) (told_ok (in_range h c q f) (out_of_range h c q) u within) in
    let one = and_parts (ltb c h.sequences) (leb q 5) two.0 in
    (ltb-true c h.sequences one.0, leb-true q 5 one.1, ltb-true f h.facts two.1)

by_tests : (a b d : Bool) (reply : Reply) → ((a && b) && d) ≡ false
    → cond a (cond b (cond d reply (refused Fact)) (refused Question)) (refused Sequence) ≡ refused (cond a (cond b Fact Question) Sequence)
by_tests false b d reply e = refl
by_tests true false d reply e = refl
by_tests true true false reply e = refl
by_tests true true true reply e = absurd (true≢false e)

module _ (image : List ℕ) (h : Head) (c q f : ℕ) (area : List ℕ) (accepted : checked image ≡ Ok h) where
  -- 9, 10 and 11, in this order
  pub call_out : (r : Refusal) → Err r ≡ range_told h c q f → ChainCalled image c q f area (Chained.Refused r) area
  unfolding chained
  call_out r out =
      let tests = told_err (in_range h c q f) r (out_of_range h c q) out in
      let reply = in_area (length area) (answer (library_of image) (question_of q) c f) in
      let same : chained image c q f (length area) ≡ refused (out_of_range h c q) =
      ap (λ (k : Checked). after_check k image c q f (length area)) accepted
      ∙ by_tests (ltb c h.sequences) (leb q 5) (ltb f h.facts) reply tests.0 in
      record {
        answer = ap Chained.Refused tests.1 ∙ ap chained_as (sym same);
        area = ap (λ (k : Reply). area_after k area) (sym same);
      }

  -- the question that the numbers are
  module _ (u : Unit {0}) (within : Ok u ≡ range_told h c q f) (p : Asked) (read : p ≡ question_asked h q f) where
    -- its answer in the area
    pub call_told : (rank : ℕ) (found : Chained) (after : List ℕ) → found ≡ by_rank p rank (length area)
        → Answered (answer (library_of image) (question_by p) c p.fact) area (by_rank p rank (length area)) after → ChainCalled image c q f area found after
    call_told rank found after is done =
        let low = in_range_lem h c q f u within in
        let same : answer (library_of image) (question_by p) c p.fact ≡ answer (library_of image) (question_of q) c f =
        ap (λ (x : Asked). answer (library_of image) (question_by x) c x.fact) read
        ∙ ap (λ (x : touch.Question). answer (library_of image) x c f) (question_by_lem q f (h.sequences + 2) low.1) in
        let asked : chained image c q f (length area) ≡ in_area (length area) (answer (library_of image) (question_by p) c p.fact) =
        call_asked image h c q f (length area) accepted low.0 low.1 low.2 ∙ ap (in_area (length area)) (sym same) in
        record { answer = is ∙ done.answer ∙ ap chained_as (sym asked); area = done.area ∙ ap (λ (k : Reply). area_after k area) (sym asked) }
