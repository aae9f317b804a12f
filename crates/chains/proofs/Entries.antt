-- Entries that can stay untouched or have a run: the tests of a list of entries say so of the lists that it gives.
use Prim.Native.Nat.{ℕ}
use mathlib.Core.Path.{◌≡◌, refl, ◌∙◌, ap}
use mathlib.Core.Logic.{◌↔◌, ⊎_elim}
use mathlib.Core.Bool.{Bool, true}
use mathlib.Core.List.Memᴰ
use mathlib.Core.List.{List, [], ◌∷◌, ◌++◌, Memᴰ}
use Rattle.library.specs.Library.{Library, Sequence, Entry, item, call, Item}
use Rattle.general.proofs.Bools.{and_parts, and_both}
use Rattle.runs.specs.Run.{RunOf, Gives, nothing, by_item, by_call}
use Rattle.runs.specs.Touch.{Side, last, first, Mark, untouched, item_touch, decided, overruling, Question, untouched_on, HasOutcome}
use Rattle.runs.specs.Algebra.{same_mark, same_mark_eq}
use Rattle.runs.specs.Possible.{has_run, possible_outcome}
use Rattle.runs.proofs.Outcome.{untouched_iff}
use Rattle.runs.proofs.Columns.{question_iff, has_run_iff}
use Rattle.general.specs.Scan.{every}
use Rattle.chains.specs.Ranks.{entry_passes, can_stay, can_run, ahead_of, behind_of}
use Rattle.chains.proofs.Depth.{append_passes, passes_append}

-- every element passes exactly when each does
every_each : {A : Type 0} (p : A → Bool) (xs : List A) → every p xs ≡ true → (x : A) → Memᴰ x xs → p x ≡ true
unfolding every
every_each p [] h x m = absurd (Memᴰ.not-nil m)
every_each p (y ∷ xs) h x m =
    let r = and_parts (p y) (every p xs) h in
    ⊎_elim (λ e. ap p e ∙ r.0) (every_each p xs r.1 x) (Memᴰ.cases_cons m)

each_every : {A : Type 0} (p : A → Bool) (xs : List A) → ((x : A) → Memᴰ x xs → p x ≡ true) → every p xs ≡ true
unfolding every
each_every p [] h = refl
each_every p (x ∷ xs) h = and_both (p x) (every p xs) (h x (Memᴰ.head refl)) (each_every p xs (λ y m. h y (Memᴰ.tail m)))

pub every_true : {A : Type 0} (xs : List A) → every (λ (x : A). true) xs ≡ true
every_true {A} xs = each_every (λ (x : A). true) xs (λ x m. refl)

-- a list leaves the fact untouched exactly when each of its items does
pub passes_untouched : (s : Side) (t : Item → Mark) (w : List Item) → (every (λ a. same_mark (t a) untouched) w ≡ true) ↔ (decided s t w ≡ untouched)
passes_untouched s t w = (
  (λ h. (untouched_iff s t w).1 (λ x m. same_mark_eq (t x) untouched (every_each (λ a. same_mark (t a) untouched) w h x m))),
  λ e. each_every (λ a. same_mark (t a) untouched) w (λ x m. rw ((untouched_iff s t w).0 e x m)),
)

-- Entries pass exactly when they give a list all of whose items pass, where a sequence passes if it has such a run.
module _ (S : List Sequence) (test : Item → Bool) (run : ℕ → Bool) (sound : (d : ℕ) → run d ≡ true → (w : List Item) × RunOf S d w × (every test w ≡ true)) where
  pub passes_given : (es : List Entry) → every (entry_passes test run) es ≡ true → (w : List Item) × Gives S es w × (every test w ≡ true)
  unfolding every
  passes_given [] h = ([], nothing, refl)
  passes_given (item a ∷ es) h =
      let p = and_parts (test a) (every (entry_passes test run) es) h in
      let r = passes_given es p.1 in
      (a ∷ r.0, by_item r.1, and_both (test a) (every test r.0) p.0 r.2)
  passes_given (call d ∷ es) h =
      let p = and_parts (run d) (every (entry_passes test run) es) h in
      let r = passes_given es p.1 in
      let o = sound d p.0 in (
        o.0 ++ r.0,
        by_call o.1.alternative o.1.listed o.1.given r.1 refl,
        passes_append test o.0 r.0 o.2 r.2,
      )

module _ (S : List Sequence) (test : Item → Bool) (run : ℕ → Bool)
    (right : (d : ℕ) → (run d ≡ true) ↔ ((w : List Item) × RunOf S d w × (every test w ≡ true))) where
  given_passes : {es : List Entry} {w : List Item} → Gives S es w → every test w ≡ true → every (entry_passes test run) es ≡ true
  unfolding every
  given_passes nothing h = refl
  given_passes (by_item {a = a} {es = es} {w = w} g) h =
      let p = and_parts (test a) (every test w) h in
      and_both (test a) (every (entry_passes test run) es) p.0 (given_passes g p.1)
  given_passes (by_call {c = c} {es = es} {u = u} {v = v} i lt g g' e) h =
      let p = append_passes test u v (rw e at h) in
      and_both (run c) (every (entry_passes test run) es) ((right c).1 (u, record { alternative = i; listed = lt; given = g }, p.0))
      (given_passes g' p.1)

  pub passes_iff : (es : List Entry) → (every (entry_passes test run) es ≡ true) ↔ ((w : List Item) × Gives S es w × (every test w ≡ true))
  passes_iff es = (passes_given S test run (λ d. (right d).0) es, λ r. given_passes r.1 r.2)

-- a sequence has a run exactly where it has one whose items pass a test that all do
pub any_run : (L : Library) (d : ℕ) → (has_run L d ≡ true) ↔ ((w : List Item) × RunOf L.sequences d w × (every (λ (a : Item). true) w ≡ true))
any_run L d = (
  (λ h. let r = (has_run_iff L d).0 h in (r.0, r.1, every_true r.0)),
  λ r. (has_run_iff L d).1 (r.0, r.1),
)

module _ (L : Library) (q : Question) (f : ℕ) where
  -- and can stay untouched exactly where it has one whose items all leave the fact untouched
  pub stays_run : (d : ℕ) → (possible_outcome L (untouched_on q) d f ≡ true)
      ↔ ((w : List Item) × RunOf L.sequences d w × (every (λ a. same_mark (item_touch L q.side f a) untouched) w ≡ true))
  stays_run d = (
    (λ h. let r = (question_iff L (untouched_on q) d f).0 h in (r.0, r.1, (passes_untouched q.side (item_touch L q.side f) r.0).1 r.2)),
    λ r. (question_iff L (untouched_on q) d f).1 (r.0, r.1, (passes_untouched q.side (item_touch L q.side f) r.0).0 r.2),
  )

  -- "can stay untouched"
  pub can_stay_iff : (es : List Entry) → (every (can_stay L q f) es ≡ true) ↔ ((w : List Item) × Gives L.sequences es w × HasOutcome L (untouched_on q) f w)
  can_stay_iff es = (
    (λ h. let r = each.0 h in (r.0, r.1, (passes_untouched q.side t r.0).0 r.2)),
    λ r. each.1 (r.0, r.1, (passes_untouched q.side t r.0).1 r.2),
  )
    where
      t : Item → Mark
      t a = item_touch L q.side f a

      each : (every (can_stay L q f) es ≡ true) ↔ ((w : List Item) × Gives L.sequences es w × (every (λ a. same_mark (t a) untouched) w ≡ true))
      each = passes_iff L.sequences (λ a. same_mark (t a) untouched) (λ d. possible_outcome L (untouched_on q) d f) stays_run es

  -- "has a run"
  pub can_run_iff : (es : List Entry) → (every (can_run L q f) es ≡ true) ↔ ((w : List Item) × Gives L.sequences es w)
  can_run_iff es = (
    (λ h. let r = each.0 h in (r.0, r.1)),
    λ r. each.1 (r.0, r.1, every_true r.0),
  )
    where
      each : (every (can_run L q f) es ≡ true) ↔ ((w : List Item) × Gives L.sequences es w × (every (λ (a : Item). true) w ≡ true))
      each = passes_iff L.sequences (λ a. true) (λ d. has_run L d) (any_run L) es

  -- what is asked of the entries before a position and of those after it, on either side
  pub beside_given : (s : Side) (xs ys : List Entry) → every (ahead_of L q f s) xs ≡ true → every (behind_of L q f s) ys ≡ true
      → (u : List Item) × (v : List Item) × Gives L.sequences xs u × Gives L.sequences ys v × HasOutcome L (untouched_on q) f (overruling s u v)
  beside_given last xs ys a b =
      let x = (can_run_iff xs).0 a in
      let y = (can_stay_iff ys).0 b in
      (x.0, y.0, x.1, y.1, y.2)
  beside_given first xs ys a b =
      let x = (can_stay_iff xs).0 a in
      let y = (can_run_iff ys).0 b in
      (x.0, y.0, x.1, y.1, x.2)

  pub given_beside : (s : Side) (xs ys : List Entry) {u v : List Item} → Gives L.sequences xs u → Gives L.sequences ys v
      → HasOutcome L (untouched_on q) f (overruling s u v) → (every (ahead_of L q f s) xs ≡ true) × (every (behind_of L q f s) ys ≡ true)
  given_beside last xs ys {u} {v} g h stays = ((can_run_iff xs).1 (u, g), (can_stay_iff ys).1 (v, h, stays))
  given_beside first xs ys {u} {v} g h stays = ((can_stay_iff xs).1 (u, g, stays), (can_run_iff ys).1 (v, h))
