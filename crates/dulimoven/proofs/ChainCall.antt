-- What the engine's chain call gives back is one of the cases of specs/ChainCall, and the cases give no other number and no other area. What
-- a caller can tell by the number follows from the cases.
-- Assumes nothing.
use Prim.Native.Nat.{ℕ, ◌≤◌}
use native.Mathlib.Omega.{arith}
use mathlib.Core.Path.{◌≡◌, refl, sym, ap, ap₂, ◌∙◌}
use mathlib.Core.Logic.{◌↔◌}
use mathlib.Core.Bool.{Bool, true, false, cond}
use mathlib.Core.List.{List, [], ◌∷◌}
use lib.ListN.{length}
use lib.Dec.{leb, ltb}
use borrow.Author.Tests.{lt-ltb, le-ltb, lt-leb, le-leb, leb-true, leb-false, ltb-true, ltb-false}
use Rattle.rules.specs.Checked.{checked}
use Rattle.library.specs.Library.{library_of}
use Rattle.image.specs.declared.answer.Head.{Head}
use Rattle.image.specs.declared.answer.Refusal.{Refusal}
use Rattle.image.specs.declared.answer.Refusal.TheVariants.{Sequence, Question, Fact, ChainArea}
use Rattle.library.proofs.Accepted.{faultless, counted}
use Rattle.runs.specs.Touch.{question_of}
use Rattle.chains.specs.Link.{Chain, chain_words}
use Rattle.chains.specs.Stands.{About}
use Rattle.chains.specs.Answer.{Answer, answer}
use Rattle.chains.specs.Answer as rank
use Rattle.chains.specs.Call.{Reply, answered, in_area, after_check, chained}
use Rattle.chains.specs.Call as call
use Rattle.chains.proofs.Answers.{answer_shows, answer_none}
use Rattle.chains.proofs.Unique.{answer_iff}
use Rattle.chains.proofs.Fits.{accepted_fits}
use Rattle.chains.proofs.Call.{call_asked}
use Rattle.dulimoven.specs.Returned.{Returned, returned, turned_down}
use Rattle.dulimoven.specs.ChainCall.{Asked, Answers, ChainRefused, ChainReturn}
use Rattle.dulimoven.specs.ChainCall as cases
use Rattle.dulimoven.specs.Demands.{Refuses}
use Rattle.dulimoven.specs.Engine.{engine, replied}
use Rattle.dulimoven.proofs.Refusals.{refusal_high}
use Rattle.std.specs.Prelude.{Ok, Err}
use Rattle.image.specs.Answer.{Checked}

-- a chain that answers has a link, and no more than 256
few_links : (image : List ℕ) (c q f : ℕ) → Asked image c q f → (ls : Chain) → Answers image c q f ls → (1 ≤ length ls) × (length ls ≤ 256)
few_links image c q f asked ls shows =
    let h = asked.head in
    let size = (counted image h asked.accepted).sequences in
    (one ls shows.about, omega (arith, shows.few, size, (faultless image h asked.accepted).sequences_high))
  where
    one : (ms : Chain) → About c ms → 1 ≤ length ms
    one [] about = absurd about
    one (l ∷ ms) about = omega arith

module _ (image : List ℕ) (c q f : ℕ) (area : List ℕ) where
  -- the reply by the tests of the three numbers
  abbrev tested : Reply → Bool → Bool → Bool → Reply
  tested reply s t u = cond s (cond t (cond u reply (call.refused Fact)) (call.refused Question)) (call.refused Sequence)

  module _ (h : Head) (e : checked image ≡ Ok h) where
    room_return : Asked image c q f → (ls : Chain) → answer (library_of image) (question_of q) c f ≡ rank.shown ls → (b : Bool)
        → leb (length (chain_words ls)) (length area) ≡ b → ChainReturn image c q f area (replied (cond b (answered (rank.shown ls)) (call.refused ChainArea)) area)
    room_return asked ls known true t =
        let shows = answer_shows (library_of image) (question_of q) c f ls known in
        cases.shown asked ls shows (leb-true (length (chain_words ls)) (length area) t)
        (record { number = refl; area = refl; fits = accepted_fits image h (question_of q) f ls shows.run e shows.stands })
    room_return asked ls known false t =
        cases.refused ChainArea
        (cases.by_area asked ls (answer_shows (library_of image) (question_of q) c f ls known) (leb-false (length (chain_words ls)) (length area) t)) refl

    answer_return : Asked image c q f → (a : Answer) → answer (library_of image) (question_of q) c f ≡ a
        → ChainReturn image c q f area (replied (in_area (length area) a) area)
    answer_return asked rank.none known = cases.none asked ((answer_none (library_of image) (question_of q) c f).0 known) refl
    answer_return asked (rank.shown ls) known = room_return asked ls known (leb (length (chain_words ls)) (length area)) refl

    tests_return : (s t u : Bool) → ltb c h.sequences ≡ s → leb q 5 ≡ t → ltb f h.facts ≡ u
        → ChainReturn image c q f area (replied (tested (in_area (length area) (answer (library_of image) (question_of q) c f)) s t u) area)
    tests_return false t u es et eu = cases.refused Sequence (cases.by_sequence h e (ltb-false c h.sequences es)) refl
    tests_return true false u es et eu =
        cases.refused Question (cases.by_question h e (ltb-true c h.sequences es) (leb-false q 5 et)) refl
    tests_return true true false es et eu =
        cases.refused Fact
        (cases.by_fact h e (ltb-true c h.sequences es) (leb-true q 5 et) (ltb-false f h.facts eu)) refl
    tests_return true true true es et eu =
        let asked : Asked image c q f =
        record {
          head = h;
          accepted = e;
          sequence = ltb-true c h.sequences es;
          question = leb-true q 5 et;
          fact = ltb-true f h.facts eu;
        } in
        answer_return asked (answer (library_of image) (question_of q) c f) refl

  pub chain_return : ChainReturn image c q f area (engine.chain image c q f area)
  unfolding chained
  chain_return = go (checked image) refl
    where
      go : (k : Checked) → checked image ≡ k → ChainReturn image c q f area (replied (after_check k image c q f (length area)) area)
      go (Err why) e = cases.refused why (cases.by_image e) refl
      go (Ok h) e = tests_return h e (ltb c h.sequences) (leb q 5) (ltb f h.facts) refl refl refl

  -- what the call comes to, in each case
  asked_reply : Asked image c q f → (a : Answer) → answer (library_of image) (question_of q) c f ≡ a → chained image c q f (length area) ≡ in_area (length area) a
  asked_reply asked a known =
      call_asked image asked.head c q f (length area) asked.accepted asked.sequence asked.question asked.fact
      ∙ ap (in_area (length area)) known

  shown_reply : Asked image c q f → (ls : Chain) → Answers image c q f ls → chained image c q f (length area) ≡ in_area (length area) (rank.shown ls)
  shown_reply asked ls shows = asked_reply asked (rank.shown ls) ((answer_iff (library_of image) (question_of q) c f ls).1 shows)

  refused_reply : (why : Refusal) → ChainRefused image c q f (length area) why → chained image c q f (length area) ≡ call.refused why
  unfolding chained
  refused_reply why (cases.by_image e) = rw e
  refused_reply why (cases.by_sequence h e s) = rw (e, le-ltb c h.sequences s)
  refused_reply why (cases.by_question h e s t) = rw (e, lt-ltb c h.sequences s, lt-leb q 5 t)
  refused_reply why (cases.by_fact h e s t u) = rw (e, lt-ltb c h.sequences s, le-leb q 5 t, le-ltb f h.facts u)
  refused_reply why (cases.by_area asked ls shows short) =
      shown_reply asked ls shows
      ∙ ap (λ (b : Bool). cond b (answered (rank.shown ls)) (call.refused ChainArea)) (lt-leb (length (chain_words ls)) (length area) short)

  pub chain_only : (r : Returned) → ChainReturn image c q f area r → r ≡ engine.chain image c q f area
  chain_only r (cases.refused why k is) = is ∙ ap (λ (x : Reply). replied x area) (sym (refused_reply why k))
  chain_only r (cases.none asked never is) =
      is ∙ ap (λ (x : Reply). replied x area) (sym (asked_reply asked rank.none ((answer_none (library_of image) (question_of q) c f).1 never)))
  chain_only r (cases.shown asked ls shows room links) =
      let here : chained image c q f (length area) ≡ answered (rank.shown ls) =
      shown_reply asked ls shows
      ∙ ap (λ (b : Bool). cond b (answered (rank.shown ls)) (call.refused ChainArea)) (le-leb (length (chain_words ls)) (length area) room) in
      ap₂ returned links.number links.area ∙ ap (λ (x : Reply). replied x area) (sym here)

  -- "none" has the number 0, and a chain a number from 1 to 256
  pub chain_told : (r : Returned) → ChainReturn image c q f area r → Refuses r.number ↔ ((why : Refusal) × ChainRefused image c q f (length area) why)
  chain_told r k = (there k, λ (why, is). back why is)
    where
      there : ChainReturn image c q f area r → Refuses r.number → (why : Refusal) × ChainRefused image c q f (length area) why
      there (cases.refused why is same) high = (why, is)
      there (cases.none asked never same) high = absurd (omega (arith, ap (λ (x : Returned). x.number) same))
      there (cases.shown asked ls shows room links) high =
          absurd (omega (arith, links.number, (few_links image c q f asked ls shows).1))

      back : (why : Refusal) → ChainRefused image c q f (length area) why → Refuses r.number
      back why is =
          let same : r ≡ turned_down why area = chain_only r k ∙ sym (chain_only (turned_down why area) (cases.refused why is refl)) in
          omega (arith, ap (λ (x : Returned). x.number) same, refusal_high why)

  pub chain_kept : (r : Returned) → ChainReturn image c q f area r → Refuses r.number → r.area ≡ area
  chain_kept r (cases.refused why is same) high = ap (λ (x : Returned). x.area) same
  chain_kept r (cases.none asked never same) high = ap (λ (x : Returned). x.area) same
  chain_kept r (cases.shown asked ls shows room links) high =
      absurd (omega (arith, links.number, (few_links image c q f asked ls shows).1))

  pub none_kept : (r : Returned) → ChainReturn image c q f area r → r.number ≡ 0 → r.area ≡ area
  none_kept r (cases.refused why is same) zero_links = ap (λ (x : Returned). x.area) same
  none_kept r (cases.none asked never same) zero_links = ap (λ (x : Returned). x.area) same
  none_kept r (cases.shown asked ls shows room links) zero_links =
      absurd (omega (arith, links.number, (few_links image c q f asked ls shows).0))
