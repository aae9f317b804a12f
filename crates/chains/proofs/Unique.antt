-- The promises fix the answer: one chain at most keeps them, and it is the one that is answered.
use Prim.Native.Nat.{ℕ, ◌<◌}
use mathlib.Core.Path.{◌≡◌, refl, sym, ◌∙◌, ap}
use mathlib.Core.Logic.{◌↔◌, ◌≢◌, ◌⊎◌, inl, inr, ⊎_elim}
use mathlib.Core.List.{[], ◌∷◌}
use native.Mathlib.Omega.{arith}
use lib.ListN.{length}
use Rattle.library.specs.Library.{Library}
use Rattle.runs.specs.Touch.{Mark, present, absent, untouched, Question}
use Rattle.runs.proofs.Outcome.{present≢untouched, absent≢untouched}
use Rattle.chains.specs.Link.{touch_link, untouched_link, Chain}
use Rattle.chains.specs.Answer.{Answer, none, shown, answer}
use Rattle.chains.specs.Shows.{NoOlder, LeastDepth, Shows}
use Rattle.chains.proofs.Answers.{answer_shows, answer_none}

-- two chains of as many links, neither of which makes an older choice, are equal
no_older_same : (ls ms : Chain) → length ls ≡ length ms → NoOlder ls ms → NoOlder ms ls → ls ≡ ms
no_older_same [] [] count h k = refl
no_older_same [] (m ∷ ms) count h k = absurd (omega arith)
no_older_same (touch_link c i p ∷ ls) [] count h k = absurd h
no_older_same (untouched_link c i ∷ ls) ms count h k = absurd h
no_older_same (touch_link c i p ∷ ls) (untouched_link d j ∷ ms) count h k = absurd h
no_older_same (touch_link c i p ∷ ls) (touch_link d j r ∷ ms) count (e, h) (e', k) =
    alternatives h k (no_older_same ls ms (omega arith))
  where
    Same : Type 0
    Same = touch_link c i p ∷ ls ≡ touch_link d j r ∷ ms

    positions : i ≡ j → (p < r) ⊎ ((p ≡ r) × NoOlder ls ms) → (r < p) ⊎ ((r ≡ p) × NoOlder ms ls) → (NoOlder ls ms → NoOlder ms ls → ls ≡ ms)
        → Same
    positions x (inl lt) (inl lt') rest = absurd (omega arith)
    positions x (inl lt) (inr (y, k)) rest = absurd (omega arith)
    positions x (inr (y, h)) (inl lt) rest = absurd (omega arith)
    positions x (inr (y, h)) (inr (y', k)) rest = let z = rest h k in cc

    alternatives : (j < i) ⊎ ((i ≡ j) × ((p < r) ⊎ ((p ≡ r) × NoOlder ls ms)))
        → (i < j) ⊎ ((j ≡ i) × ((r < p) ⊎ ((r ≡ p) × NoOlder ms ls))) → (NoOlder ls ms → NoOlder ms ls → ls ≡ ms) → Same
    alternatives (inl lt) (inl lt') rest = absurd (omega arith)
    alternatives (inl lt) (inr (x, k)) rest = absurd (omega arith)
    alternatives (inr (x, h)) (inl lt) rest = absurd (omega arith)
    alternatives (inr (x, h)) (inr (x', k)) rest = positions x h k rest

-- two alternatives of least depth, ties to the highest, are one
least_same : (L : Library) (q : Question) (f c i j : ℕ) → LeastDepth L q f c i → LeastDepth L q f c j → i ≡ j
least_same L q f c i j a b =
    ⊎_elim
    (λ lt. ⊎_elim (λ lt'. omega arith) (λ (e, le). omega arith) (b.least i a.listed a.run a.derivation a.leaves))
    (λ (e, le). ⊎_elim (λ lt. omega arith) (λ (e', le'). omega arith) (b.least i a.listed a.run a.derivation a.leaves))
    (a.least j b.listed b.run b.derivation b.leaves)

module _ (L : Library) (q : Question) (c f : ℕ) where
  -- one chain at most keeps the promises
  pub shows_same : (ls ms : Chain) → Shows L q c f ls → Shows L q c f ms → ls ≡ ms
  shows_same ls ms a b = go q.mark refl
    where
      count : length ls ≡ length ms
      count =
          let there = a.fewest ms b.run b.about b.stands (b.runs b.run b.stands).1 in
          let back = b.fewest ls a.run a.about a.stands (a.runs a.run a.stands).1 in
          omega arith

      touching : q.mark ≢ untouched → ls ≡ ms
      touching touch =
          no_older_same ls ms count
          (a.newest touch ms b.run b.about b.stands (b.runs b.run b.stands).1 (sym count))
          (b.newest touch ls a.run a.about a.stands (a.runs a.run a.stands).1 count)

      go : (m : Mark) → q.mark ≡ m → ls ≡ ms
      go present e = touching (λ h. present≢untouched (sym e ∙ h))
      go absent e = touching (λ h. absent≢untouched (sym e ∙ h))
      go untouched e =
          let x = a.one e in
          let y = b.one e in
          x.1 ∙ (ap (λ i. untouched_link c i ∷ []) (least_same L q f c x.0 y.0 x.2 y.2) ∙ sym y.1)

  -- the chain that is answered is the one that keeps them
  pub answer_iff : (ls : Chain) → (answer L q c f ≡ shown ls) ↔ Shows L q c f ls
  answer_iff ls = (answer_shows L q c f ls, λ s. go s (answer L q c f) refl)
    where
      go : Shows L q c f ls → (a : Answer) → answer L q c f ≡ a → answer L q c f ≡ shown ls
      go s none e =
          let r = s.runs s.run s.stands in
          absurd ((answer_none L q c f).0 e s.run r.0 r.1)
      go s (shown ms) e = e ∙ ap shown (shows_same ms ls (answer_shows L q c f ms e) s)
