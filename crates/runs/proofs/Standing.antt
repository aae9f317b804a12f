-- What stands at the end: the outcome of the view `standing` is what request 4's words say of a run, and of the rows of a library the two
-- columns of that view are what is possible. A row has no column for "the last such item leaves the fact standing", so this view is read apart
-- from the sides.
-- It has: `standing_iff`, `ends_cleared_iff` and `unmentioned_iff`; of a table that has what the rows have, that it can reach what reading adds
-- to the two columns (`cleared_reached`, `unmentioned_reached`), and of one that has nothing else, that reading adds what it can reach
-- (`cleared_covered`, `unmentioned_covered`).
use Prim.Native.Nat.{ℕ}
use mathlib.Core.Path.{◌≡◌, refl, ap, subst}
use mathlib.Core.Logic.{◌⊎◌, inl, inr, ⊎_elim, ◌↔◌, ◌≢◌}
use mathlib.Core.Bool.{Bool, true, false, cond, ◌&&◌, ◌||◌, false≢true, true≢false}
use mathlib.Core.List.{List, [], ◌∷◌}
use lib.Dec.{eqb}
use Rattle.library.specs.Library.{has, Library, Entry, item, call, Item, step, check}
use Rattle.library.proofs.Decode.{has_none, has_one}
use Rattle.general.proofs.Bools.{and_parts, and_both, or_cases, or_left, or_right}
use Rattle.runs.specs.Domain.{action_of}
use Rattle.runs.specs.Touch.{Mark, present, absent, untouched, last}
use Rattle.runs.specs.View.{standing, view_mark, view_outcome}
use Rattle.runs.specs.Standing.{mentions, clears, LastItem, EndsStanding, EndsCleared, Unmentioned}
use Rattle.runs.specs.Algebra.{side_algebra, join_marks, same_mark, same_mark_refl, same_mark_eq}
use Rattle.runs.specs.Possible.{Table, can}
use Rattle.runs.specs.Reading.{entry_outcomes}
use Rattle.runs.specs.Rows.{Row, cleared_column, unmentioned_column, join_row, start_row, entry_row, fold_row, read_row}
use Rattle.runs.proofs.Outcome.{decider_iff, untouched_iff, present≢untouched, absent≢untouched, or_else_cases, or_else_none}
use Rattle.runs.proofs.Reading.{can_entry, entry_can}

-- ---- by the words

-- the mark of an item, by whether it sets, clears and needs the fact
marks_present : (sets clears needs : Bool) → (cond clears absent (cond (sets || needs) present untouched) ≡ present)
    ↔ ((sets || (clears || needs) ≡ true) × (clears ≡ false))
marks_present sets true needs = ((λ e. absurd (false≢true (ap (same_mark present) e))), λ p. absurd (true≢false p.1))
marks_present true false needs = ((λ e. (refl, refl)), λ p. refl)
marks_present false false true = ((λ e. (refl, refl)), λ p. refl)
marks_present false false false = ((λ e. absurd (false≢true (ap (same_mark present) e))), λ p. absurd (false≢true p.0))

marks_absent : (sets clears needs : Bool) → (cond clears absent (cond (sets || needs) present untouched) ≡ absent)
    ↔ ((sets || (clears || needs) ≡ true) × (clears ≡ true))
marks_absent true true needs = ((λ e. (refl, refl)), λ p. refl)
marks_absent false true needs = ((λ e. (refl, refl)), λ p. refl)
marks_absent true false needs = ((λ e. absurd (false≢true (ap (same_mark absent) e))), λ p. absurd (false≢true p.1))
marks_absent false false true = ((λ e. absurd (false≢true (ap (same_mark absent) e))), λ p. absurd (false≢true p.1))
marks_absent false false false = ((λ e. absurd (false≢true (ap (same_mark absent) e))), λ p. absurd (false≢true p.1))

marks_none : (sets clears needs : Bool) → (cond clears absent (cond (sets || needs) present untouched) ≡ untouched)
    ↔ (sets || (clears || needs) ≡ false)
marks_none true true needs = ((λ e. absurd (false≢true (ap (same_mark untouched) e))), λ p. absurd (true≢false p))
marks_none false true needs = ((λ e. absurd (false≢true (ap (same_mark untouched) e))), λ p. absurd (true≢false p))
marks_none true false needs = ((λ e. absurd (false≢true (ap (same_mark untouched) e))), λ p. absurd (true≢false p))
marks_none false false true = ((λ e. absurd (false≢true (ap (same_mark untouched) e))), λ p. absurd (true≢false p))
marks_none false false false = ((λ e. refl), λ p. refl)

check_present : (b : Bool) → (cond b present untouched ≡ present) ↔ ((b ≡ true) × (false ≡ false))
check_present true = ((λ e. (refl, refl)), λ p. refl)
check_present false = ((λ e. absurd (false≢true (ap (same_mark present) e))), λ p. absurd (false≢true p.0))

check_absent : (b : Bool) → (cond b present untouched ≡ absent) ↔ ((b ≡ true) × (false ≡ true))
check_absent true = ((λ e. absurd (false≢true (ap (same_mark absent) e))), λ p. absurd (false≢true p.1))
check_absent false = ((λ e. absurd (false≢true (ap (same_mark absent) e))), λ p. absurd (false≢true p.1))

check_none : (b : Bool) → (cond b present untouched ≡ untouched) ↔ (b ≡ false)
check_none true = ((λ e. absurd (false≢true (ap (same_mark untouched) e))), λ p. absurd (true≢false p))
check_none false = ((λ e. refl), λ p. refl)

module _ (L : Library) (f : ℕ) where
  item_present : (x : Item) → (view_mark L standing f x ≡ present) ↔ ((mentions L f x ≡ true) × (clears L f x ≡ false))
  item_present (step a) =
      let s = action_of L (step a) in
      marks_present (has f s.sets) (has f s.clears) (has f s.needs)
  item_present (check g) = rw (has_none f, has_one f g) (check_present (eqb g f))

  item_absent : (x : Item) → (view_mark L standing f x ≡ absent) ↔ ((mentions L f x ≡ true) × (clears L f x ≡ true))
  item_absent (step a) =
      let s = action_of L (step a) in
      marks_absent (has f s.sets) (has f s.clears) (has f s.needs)
  item_absent (check g) = rw (has_none f, has_one f g) (check_absent (eqb g f))

  item_none : (x : Item) → (view_mark L standing f x ≡ untouched) ↔ (mentions L f x ≡ false)
  item_none (step a) =
      let s = action_of L (step a) in
      marks_none (has f s.sets) (has f s.clears) (has f s.needs)
  item_none (check g) = rw (has_none f, has_one f g) (check_none (eqb g f))

  -- a run's outcome is a touch exactly where the last item that mentions the fact is there and gives it
  last_iff : (m : Mark) (clearing : Bool) → m ≢ untouched
      → ((x : Item) → (view_mark L standing f x ≡ m) ↔ ((mentions L f x ≡ true) × (clears L f x ≡ clearing))) → (w : List Item)
      → (view_outcome L standing f w ≡ m) ↔ LastItem L f clearing w
  last_iff m clearing touch marked w = (
    (λ e.
        let d = (decider_iff last (view_mark L standing f) m w touch).0 e in
        let given = (marked d.item).0 d.touches in
        record {
          before = d.before;
          item = d.item;
          after = d.after;
          there = d.split;
          mentioned = given.0;
          last = λ x at. (item_none x).0 (d.stays x at);
          effect = given.1;
        }),
    λ e. (decider_iff last (view_mark L standing f) m w touch).1
        (record {
          before = e.before;
          item = e.item;
          after = e.after;
          split = e.there;
          touches = (marked e.item).1 (e.mentioned, e.effect);
          stays = λ x at. (item_none x).1 (e.last x at);
        }),
  )

  -- that the fact stands: "the last item that sets, clears, needs or checks the fact is there and does not clear it"
  pub standing_iff : (w : List Item) → (view_outcome L standing f w ≡ present) ↔ EndsStanding L f w
  standing_iff w = last_iff present false present≢untouched item_present w

  -- that it does not: that "last item .. clears it"
  pub ends_cleared_iff : (w : List Item) → (view_outcome L standing f w ≡ absent) ↔ EndsCleared L f w
  ends_cleared_iff w = last_iff absent true absent≢untouched item_absent w

  -- and neither: the run "has no such item"
  pub unmentioned_iff : (w : List Item) → (view_outcome L standing f w ≡ untouched) ↔ Unmentioned L f w
  unmentioned_iff w =
      let none = untouched_iff last (view_mark L standing f) w in (
        (λ e x at. (item_none x).0 (none.0 e x at)),
        λ e. none.1 (λ x at. (item_none x).1 (e x at)),
      )

-- ---- by rows

module _ (L : Library) (f : ℕ) (B : ℕ → Row) (T : Table (side_algebra last)) where
  abbrev marking : Item → Mark
  marking = view_mark L standing f

  abbrev outcomes : Entry → Mark → Bool
  outcomes = entry_outcomes (side_algebra last) marking T

  abbrev reaches : List Entry → Mark → Mark → Bool
  reaches = can (side_algebra last) marking T

  fold_live : (es : List Entry) (X : Row) → fold_row L f B X es 0 ≡ true → X 0 ≡ true
  unfolding fold_row
  fold_live [] X e = e
  fold_live (d ∷ es) X e = (and_parts (X 0) (entry_row L f B d 0) (fold_live es (join_row X (entry_row L f B d)) e)).0

  -- a table that has what the rows have
  module _ (runs : (c : ℕ) → B c 0 ≡ true → (m : Mark) × (T c m ≡ true)) (cleared : (c : ℕ) → B c cleared_column ≡ true → T c absent ≡ true)
      (unmentioned : (c : ℕ) → B c unmentioned_column ≡ true → T c untouched ≡ true) where
    entry_runs : (e : Entry) → entry_row L f B e 0 ≡ true → (m : Mark) × (outcomes e m ≡ true)
    entry_runs (item a) p = (marking a, same_mark_refl (marking a))
    entry_runs (call c) p = runs c p

    entry_clears : (e : Entry) → entry_row L f B e cleared_column ≡ true → outcomes e absent ≡ true
    entry_clears (item a) p = p
    entry_clears (call c) p = cleared c p

    entry_passes_lem : (e : Entry) → entry_row L f B e unmentioned_column ≡ true → outcomes e untouched ≡ true
    entry_passes_lem (item a) p = p
    entry_passes_lem (call c) p = unmentioned c p

    -- what clears stands before the entries, and they leave it at that, or among them, and then it does not matter what stands before
    clears_reached : (es : List Entry) (X : Row) → fold_row L f B X es 0 ≡ true → fold_row L f B X es cleared_column ≡ true
        → ((X cleared_column ≡ true) × (reaches es absent absent ≡ true)) ⊎ ((x : Mark) → reaches es x absent ≡ true)
    unfolding fold_row can
    clears_reached [] X run e = inl (e, refl)
    clears_reached (d ∷ es) X run e =
        let Y = entry_row L f B d in
        let lives = and_parts (X 0) (Y 0) (fold_live es (join_row X Y) run) in
        ⊎_elim
        (λ p. ⊎_elim
        (λ q. let b = and_parts (X cleared_column) (Y unmentioned_column) q in
        inl (b.0, can_entry (side_algebra last) marking T d es absent untouched absent (entry_passes_lem d b.1) p.1))
        (λ q. inr (λ x. can_entry (side_algebra last) marking T d es x absent absent (entry_clears d q) p.1))
        (or_cases (X cleared_column && Y unmentioned_column) (Y cleared_column) p.0))
        (λ h. let y = entry_runs d lives.1 in
        inr (λ x. can_entry (side_algebra last) marking T d es x y.0 absent y.1 (h (join_marks last x y.0))))
        (clears_reached es (join_row X Y) run e)

    passes_reached : (es : List Entry) (X : Row) → fold_row L f B X es unmentioned_column ≡ true
        → (X unmentioned_column ≡ true) × (reaches es untouched untouched ≡ true)
    unfolding fold_row can
    passes_reached [] X e = (e, refl)
    passes_reached (d ∷ es) X e =
        let Y = entry_row L f B d in
        let p = passes_reached es (join_row X Y) e in
        let b = and_parts (X unmentioned_column) (Y unmentioned_column) p.0 in
        (b.0, can_entry (side_algebra last) marking T d es untouched untouched untouched (entry_passes_lem d b.1) p.1)

    pub cleared_reached : (es : List Entry) → read_row L f B es cleared_column ≡ true → reaches es untouched absent ≡ true
    cleared_reached es e =
        let p = and_parts (fold_row L f B start_row es 0) (fold_row L f B start_row es cleared_column) e in
        ⊎_elim (λ q. absurd (false≢true q.0)) (λ h. h untouched) (clears_reached es start_row p.0 p.1)

    pub unmentioned_reached : (es : List Entry) → read_row L f B es unmentioned_column ≡ true → reaches es untouched untouched ≡ true
    unmentioned_reached es e =
        (passes_reached es start_row (and_parts (fold_row L f B start_row es 0) (fold_row L f B start_row es unmentioned_column) e).1).1

  -- a table that has nothing but what the rows have
  module _ (runs : (c : ℕ) (m : Mark) → T c m ≡ true → B c 0 ≡ true) (cleared : (c : ℕ) → T c absent ≡ true → B c cleared_column ≡ true)
      (unmentioned : (c : ℕ) → T c untouched ≡ true → B c unmentioned_column ≡ true) where
    -- a row has a run, and what an outcome says of its two columns
    Has : Row → Mark → Type 0
    Has X x = (X 0 ≡ true) × (x ≡ absent → X cleared_column ≡ true) × (x ≡ untouched → X unmentioned_column ≡ true)

    entry_has : (e : Entry) (y : Mark) → outcomes e y ≡ true → Has (entry_row L f B e) y
    unfolding Has
    entry_has (item a) y p = (
      refl,
      (λ e. subst (λ m. same_mark (marking a) m ≡ true) e p),
      λ e. subst (λ m. same_mark (marking a) m ≡ true) e p,
    )
    entry_has (call c) y p = (
      runs c y p,
      (λ e. cleared c (subst (λ m. T c m ≡ true) e p)),
      λ e. unmentioned c (subst (λ m. T c m ≡ true) e p),
    )

    join_has : (X Y : Row) (x y : Mark) → Has X x → Has Y y → Has (join_row X Y) (join_marks last x y)
    unfolding Has
    join_has X Y x y h k = (
      and_both (X 0) (Y 0) h.0 k.0,
      (λ e. ⊎_elim
          (λ p. or_left (X cleared_column && Y unmentioned_column) (Y cleared_column)
          (and_both (X cleared_column) (Y unmentioned_column) (h.1 p.1) (k.2 p.0)))
          (λ p. or_right (X cleared_column && Y unmentioned_column) (Y cleared_column) (k.1 p))
          (or_else_cases y x absent e)),
      λ e. let p = or_else_none y x e in and_both (X unmentioned_column) (Y unmentioned_column) (h.2 p.1) (k.2 p.0),
    )

    fold_has : (es : List Entry) (X : Row) (x m : Mark) → Has X x → reaches es x m ≡ true → Has (fold_row L f B X es) m
    unfolding fold_row can
    fold_has [] X x m h e = subst (Has X) (same_mark_eq x m e) h
    fold_has (d ∷ es) X x m h e =
        let r = entry_can (side_algebra last) marking T d es x m e in
        fold_has es (join_row X (entry_row L f B d)) (join_marks last x r.0) m (join_has X (entry_row L f B d) x r.0 h (entry_has d r.0 r.1)) r.2

    start_has : (es : List Entry) (m : Mark) → reaches es untouched m ≡ true → Has (fold_row L f B start_row es) m
    unfolding Has
    start_has es m e = fold_has es start_row untouched m (refl, (λ q. absurd (false≢true (ap (same_mark absent) q))), λ q. refl) e

    pub cleared_covered : (es : List Entry) → reaches es untouched absent ≡ true → read_row L f B es cleared_column ≡ true
    unfolding Has
    cleared_covered es e =
        let h = start_has es absent e in
        and_both (fold_row L f B start_row es 0) (fold_row L f B start_row es cleared_column) h.0 (h.1 refl)

    pub unmentioned_covered : (es : List Entry) → reaches es untouched untouched ≡ true → read_row L f B es unmentioned_column ≡ true
    unfolding Has
    unmentioned_covered es e =
        let h = start_has es untouched e in
        and_both (fold_row L f B start_row es 0) (fold_row L f B start_row es unmentioned_column) h.0 (h.2 refl)
