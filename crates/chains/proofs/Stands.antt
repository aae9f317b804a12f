-- What a chain stands for: runs of its first link's sequence, with the outcome; and every run with a touch for its outcome has a chain
-- that stands for it.
use Prim.Native.Nat.{ℕ, suc, ◌<◌}
use mathlib.Core.Path.{◌≡◌, refl, sym, ◌∙◌, ap}
use mathlib.Core.Logic.{◌≢◌, ◌⊎◌, inl, inr, ⊎_elim}
use mathlib.Core.List.{List, [], ◌∷◌, ◌++◌, append_assoc}
use native.Mathlib.Omega.{arith}
use lib.ListN.{length}
use lib.Seq.{split_at}
use Rattle.library.specs.Library.{Library, Alternative, Entry, item, call, Item, step, entry_at}
use Rattle.runs.specs.Run.{Run, Gives, nothing, by_item, by_call, alternatives_of, alternative_of}
use Rattle.runs.specs.Touch.{Side, last, first, Mark, untouched, item_touch, decided, overruling, Question, untouched_on, HasOutcome}
use Rattle.runs.specs.Algebra.{or_else_untouched}
use Rattle.runs.proofs.Run.{gives_append, call_iff}
use Rattle.runs.proofs.Outcome.{decided_append, or_else_touch, or_else_cases}
use Rattle.chains.specs.Link.{touch_link, untouched_link, Chain}
use Rattle.chains.specs.Stands.{About, EntryTouches, Choices, StandsFor}

-- the touch between two parts, of which the one that could overrule it leaves the fact untouched, decides
middle_decides : (s : Side) (t : Item → Mark) (m : Mark) (u g v : List Item) → m ≢ untouched → decided s t g ≡ m
    → decided s t (overruling s u v) ≡ untouched → decided s t (u ++ (g ++ v)) ≡ m
middle_decides last t m u g v touch here stays =
    rw (decided_append last t u (g ++ v), decided_append last t g v, stays, here) (or_else_touch m (decided last t u) touch)
middle_decides first t m u g v touch here stays =
    rw (decided_append first t u (g ++ v), decided_append first t g v, stays, here) (or_else_touch m (decided first t v) touch)

-- a step alone
decided_one : (s : Side) (t : Item → Mark) (a : Item) → decided s t (a ∷ []) ≡ t a
unfolding decided
decided_one last t a = refl
decided_one first t a = or_else_untouched (t a)

-- of two lists joined, the one that has the touch, where the other does not overrule it
touch_cases : (s : Side) (t : Item → Mark) (m : Mark) (u v : List Item) → decided s t (u ++ v) ≡ m
    → ((decided s t u ≡ m) × (decided s t (overruling s [] v) ≡ untouched)) ⊎ ((decided s t v ≡ m) × (decided s t (overruling s u []) ≡ untouched))
unfolding decided
touch_cases last t m u v e =
    ⊎_elim (λ (q, h). inl (h, q)) (λ h. inr (h, refl)) (or_else_cases (decided last t v) (decided last t u) m (sym (decided_append last t u v) ∙ e))
touch_cases first t m u v e =
    ⊎_elim (λ (q, h). inr (h, q)) (λ h. inl (h, refl)) (or_else_cases (decided first t u) (decided first t v) m (sym (decided_append first t u v) ∙ e))

-- one more list before
stays_more : (s : Side) (t : Item → Mark) (u b v : List Item) → decided s t (overruling s u []) ≡ untouched
    → decided s t (overruling s b v) ≡ untouched → decided s t (overruling s (u ++ b) v) ≡ untouched
stays_more last t u b v p q = q
stays_more first t u b v p q = rw (decided_append first t u b, p) q

module _ (L : Library) (q : Question) (f : ℕ) where
  -- what the touching entry gives is a list that it gives, with the touch
  entry_given : (ls : Chain) (after : List Item → Type 0) → ((d : ℕ) (u : List Item) → About d ls → after u → Run L d u) → (e : Entry) (u : List Item)
      → EntryTouches L q f ls after e u → Gives L.sequences (e ∷ []) u × HasOutcome L q f u
  entry_given ls after run (item a) u (ends, one, touch) =
      (rw one (by_item nothing), rw one (decided_one q.side (item_touch L q.side f) a ∙ touch))
  entry_given ls after run (call d) u (about, stands, touch) =
      ((call_iff L.sequences d u).1 (run d u about stands), touch)

  -- "A chain stands for runs of its first link's sequence"
  pub stands_run : (ls : Chain) (c : ℕ) (w : List Item) → About c ls → StandsFor L q f ls w → Run L c w
  stands_run [] c w about stands = absurd about
  stands_run (touch_link d i p ∷ ls) c w about (lt, k) =
      let e = entry_given ls (λ u. StandsFor L q f ls u) (stands_run ls) (entry_at (alternative_of L.sequences d i) p) k.given k.touching in
      let all : Gives L.sequences (alternative_of L.sequences d i) w =
      rw (split_at (alternative_of L.sequences d i) p (item (step 0)) k.listed, k.split)
      (gives_append L.sequences k.earlier (gives_append L.sequences e.0 k.later)) in
      rw about at (run d i lt all)
    where
      run : (d i : ℕ) → i < length (alternatives_of L.sequences d) → Gives L.sequences (alternative_of L.sequences d i) w → Run L d w
      run d i lt g = record { alternative = i; listed = lt; given = g }
  stands_run (untouched_link d i ∷ ls) c w about (lt, ends, g, stays) = rw about at (run d i lt g)
    where
      run : (d i : ℕ) → i < length (alternatives_of L.sequences d) → Gives L.sequences (alternative_of L.sequences d i) w → Run L d w
      run d i lt g = record { alternative = i; listed = lt; given = g }

  -- a run that a chain of kind 11 links stands for has the outcome asked for
  pub stands_outcome : (c i p : ℕ) (ls : Chain) (w : List Item) → StandsFor L q f (touch_link c i p ∷ ls) w → HasOutcome L q f w
  stands_outcome c i p ls w (lt, k) =
      let e = entry_given ls (λ u. StandsFor L q f ls u) (stands_run ls) (entry_at (alternative_of L.sequences c i) p) k.given k.touching in
      rw k.split
      (middle_decides q.side (item_touch L q.side f) q.mark k.before k.given k.after k.touch e.1 k.stays)

  -- the choices for a position, with one more entry before
  choices_after : (e : Entry) (es : Alternative) (p : ℕ) (touches : Entry → List Item → Type 0) (u w : List Item) → Gives L.sequences (e ∷ []) u
      → HasOutcome L (untouched_on q) f (overruling q.side u []) → Choices L q f es p touches w → Choices L q f (e ∷ es) (suc p) touches (u ++ w)
  choices_after e es p touches u w g stays k =
      let lt = k.listed in
      record {
        touch = k.touch;
        listed = omega arith;
        before = u ++ k.before;
        given = k.given;
        after = k.after;
        split = ap (λ l. u ++ l) k.split ∙ sym (append_assoc u k.before (k.given ++ k.after));
        earlier = gives_append L.sequences g k.earlier;
        touching = k.touching;
        later = k.later;
        stays = stays_more q.side (item_touch L q.side f) u k.before k.after stays k.stays;
      }

  -- links such that a list which entries give is given with the choices of one of their positions
  pub record Found (es : Alternative) (w : List Item) : Type 0 where
    pub position : ℕ
    pub links : Chain
    pub choices : Choices L q f es position (EntryTouches L q f links (λ u. StandsFor L q f links u)) w

  module _ (touch : q.mark ≢ untouched) where
    found : {es : Alternative} {w : List Item} → Gives L.sequences es w → HasOutcome L q f w → Found es w
    unfolding decided
    found nothing h = absurd (touch (sym h ∙ empty q.side))
      where
        empty : (s : Side) → decided s (item_touch L s f) [] ≡ untouched
        empty last = refl
        empty first = refl
    found (by_item {a = a} {es = es} {w = w} g) h =
        ⊎_elim
        (λ (here, stays). record {
          position = 0;
          links = [];
          choices = record {
            touch = touch;
            listed = omega arith;
            before = [];
            given = a ∷ [];
            after = w;
            split = refl;
            earlier = nothing;
            touching = (refl, refl, sym (decided_one q.side (item_touch L q.side f) a) ∙ here);
            later = g;
            stays = stays;
          };
        })
        (λ (there, stays). let r = found g there in record {
          position = suc r.position;
          links = r.links;
          choices =
              choices_after (item a) es r.position (EntryTouches L q f r.links (λ u. StandsFor L q f r.links u)) (a ∷ []) w
              (by_item nothing) stays r.choices;
        })
        (touch_cases q.side (item_touch L q.side f) q.mark (a ∷ []) w h)
    found (by_call {c = c} {es = es} {u = u} {v = v} i lt g g' e) h =
        ⊎_elim
        (λ (here, stays). let r = found g here in record {
          position = 0;
          links = touch_link c i r.position ∷ r.links;
          choices = record {
            touch = touch;
            listed = omega arith;
            before = [];
            given = u;
            after = v;
            split = e;
            earlier = nothing;
            touching = (refl, (lt, r.choices), here);
            later = g';
            stays = stays;
          };
        })
        (λ (there, stays). let r = found g' there in record {
          position = suc r.position;
          links = r.links;
          choices =
              rw e
              (choices_after (call c) es r.position (EntryTouches L q f r.links (λ u. StandsFor L q f r.links u)) u v
              ((call_iff L.sequences c u).1 (record { alternative = i; listed = lt; given = g })) stays r.choices);
        })
        (touch_cases q.side (item_touch L q.side f) q.mark u v (rw e at h))

    -- every run with the touch for its outcome has a chain that stands for it
    pub run_chain : (c : ℕ) (w : List Item) → Run L c w → HasOutcome L q f w → (ls : Chain) × About c ls × StandsFor L q f ls w
    run_chain c w r h =
        let k = found r.given h in
        (touch_link c r.alternative k.position ∷ k.links, refl, (r.listed, k.choices))
