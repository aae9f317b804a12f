-- Laws of an alternative read from left to right: reading comes to what the alternative can have; a part of the outcomes is read on
-- its own; and for the columns reading is by the formulas.
-- It has: `read_can`, for any outcomes; `read_agree`, for parts of them; and for a side, "a run exists" and "an empty run exists" `side_can`,
-- `run_can` and `empty_can`.
use Prim.Native.Nat.{ℕ}
use mathlib.Core.Path.{◌≡◌, refl, sym, ◌∙◌, subst}
use mathlib.Core.Logic.{⊎_elim, ◌≢◌}
use mathlib.Core.Bool.{Bool, true, false, ◌&&◌, ◌||◌, false≢true, and-false, or-false}
use mathlib.Core.List.{List, [], ◌∷◌}
use Rattle.library.specs.Library.{Entry, item, call, Item, step, check}
use Rattle.general.specs.Tests.{some}
use Rattle.general.proofs.Bools.{and_parts, and_both, or_cases, or_left, or_right, both_ways, passes_or_not}
use Rattle.runs.specs.Touch.{Mark, present, absent, untouched, Side, last, first}
use Rattle.runs.specs.Algebra.{Algebra, side_algebra, any_algebra, empty_algebra, join_marks, same_mark, same_mark_refl}
use Rattle.runs.specs.Possible.{Table, can, is_check}
use Rattle.runs.specs.Table.{Part, whole}
use Rattle.runs.specs.Reading.{joined, entry_outcomes, read}
use Rattle.runs.specs.Rows.{later_sets, join_sets}
use Rattle.general.proofs.Tests.{some_found, some_intro}
use Rattle.runs.proofs.Outcome.{or_else_cases, or_else_touch, or_else_none, present≢untouched, absent≢untouched}

module _ (A : Algebra) where
  -- a joined set has the joins of its members, and only those
  joined_intro : (X Y : A.Outcome → Bool) (x y m : A.Outcome) → X x ≡ true → Y y ≡ true → A.join x y ≡ m → joined A X Y m ≡ true
  unfolding joined
  joined_intro X Y x y m p q e =
      some_intro (λ x'. some (λ y'. X x' && (Y y' && A.same (A.join x' y') m)) A.all) (A.listed x)
      (some_intro (λ y'. X x && (Y y' && A.same (A.join x y') m)) (A.listed y)
      (and_both (X x) (Y y && A.same (A.join x y) m) p (and_both (Y y) (A.same (A.join x y) m) q (rw e (A.same_refl m)))))

  joined_found : (X Y : A.Outcome → Bool) (m : A.Outcome) → joined A X Y m ≡ true
      → (x : A.Outcome) × (y : A.Outcome) × (X x ≡ true) × (Y y ≡ true) × (A.join x y ≡ m)
  unfolding joined
  joined_found X Y m e =
      let p = some_found (λ x. some (λ y. X x && (Y y && A.same (A.join x y) m)) A.all) A.all e in
      let x = p.0 in
      let q = some_found (λ y. X x && (Y y && A.same (A.join x y) m)) A.all p.2 in
      let y = q.0 in
      let r = and_parts (X x) (Y y && A.same (A.join x y) m) q.2 in
      let t = and_parts (Y y) (A.same (A.join x y) m) r.1 in
      (x, y, r.0, t.0, A.same_eq (A.join x y) m t.1)

module _ (A : Algebra) (mark : Item → A.Outcome) (T : Table A) where
  -- one entry: what it and the entries after it can have
  pub can_entry : (e : Entry) (es : List Entry) (x y m : A.Outcome) → entry_outcomes A mark T e y ≡ true → can A mark T es (A.join x y) m ≡ true
      → can A mark T (e ∷ es) x m ≡ true
  unfolding can
  can_entry (item a) es x y m p q = rw (A.same_eq (mark a) y p) q
  can_entry (call c) es x y m p q =
      some_intro (λ z. T c z && can A mark T es (A.join x z) m) (A.listed y) (and_both (T c y) (can A mark T es (A.join x y) m) p q)

  pub entry_can : (e : Entry) (es : List Entry) (x m : A.Outcome) → can A mark T (e ∷ es) x m ≡ true
      → (y : A.Outcome) × (entry_outcomes A mark T e y ≡ true) × (can A mark T es (A.join x y) m ≡ true)
  unfolding can
  entry_can (item a) es x m q = (mark a, A.same_refl (mark a), q)
  entry_can (call c) es x m q =
      let f = some_found (λ z. T c z && can A mark T es (A.join x z) m) A.all q in
      let p = and_parts (T c f.0) (can A mark T es (A.join x f.0) m) f.2 in
      (f.0, p.0, p.1)

  -- reading on from a set is what the entries can have after one of its members
  read_found : (es : List Entry) (X : A.Outcome → Bool) (m : A.Outcome) → read A mark T X es m ≡ true
      → (x : A.Outcome) × (X x ≡ true) × (can A mark T es x m ≡ true)
  unfolding read can
  read_found [] X m e = (m, e, A.same_refl m)
  read_found (d ∷ es) X m e =
      let r = read_found es (joined A X (entry_outcomes A mark T d)) m e in
      let j = joined_found A X (entry_outcomes A mark T d) r.0 r.1 in
      (j.0, j.2, can_entry d es j.0 j.1 m j.3 (rw j.4 r.2))

  read_intro : (es : List Entry) (X : A.Outcome → Bool) (x m : A.Outcome) → X x ≡ true → can A mark T es x m ≡ true → read A mark T X es m ≡ true
  unfolding read can
  read_intro [] X x m p q = rw (A.same_eq x m q) at p
  read_intro (d ∷ es) X x m p q =
      let r = entry_can d es x m q in
      read_intro es (joined A X (entry_outcomes A mark T d)) (A.join x r.0) m
      (joined_intro A X (entry_outcomes A mark T d) x r.0 (A.join x r.0) p r.1 refl) r.2

  -- reading an alternative from its start comes to what it can have
  pub read_can : (es : List Entry) (m : A.Outcome) → read A mark T (A.same A.unit) es m ≡ can A mark T es A.unit m
  read_can es m =
      both_ways (read A mark T (A.same A.unit) es m) (can A mark T es A.unit m)
      (λ e. let r = read_found es (A.same A.unit) m e in
      subst (λ x. can A mark T es x m ≡ true) (sym (A.same_eq A.unit r.0 r.1)) r.2)
      (read_intro es (A.same A.unit) A.unit m (A.same_refl A.unit))

  -- sets that agree on a part are read on alike there
  module _ (D : Part A) where
    read_within : (es : List Entry) (X Y : A.Outcome → Bool) → ((m : A.Outcome) → D.holds m → X m ≡ true → Y m ≡ true)
        → (m : A.Outcome) → D.holds m → read A mark T X es m ≡ true → read A mark T Y es m ≡ true
    unfolding read
    read_within [] X Y within m h e = within m h e
    read_within (d ∷ es) X Y within m h e =
        read_within es (joined A X (entry_outcomes A mark T d)) (joined A Y (entry_outcomes A mark T d))
        (λ n k q.
        let j = joined_found A X (entry_outcomes A mark T d) n q in
        let g = D.factors j.0 j.1 (rw j.4 k) in
        joined_intro A Y (entry_outcomes A mark T d) j.0 j.1 n (within j.0 g.0 j.2) j.3 j.4)
        m h e

    pub read_agree : (es : List Entry) (X Y : A.Outcome → Bool) → ((m : A.Outcome) → D.holds m → X m ≡ Y m) → (m : A.Outcome) → D.holds m
        → read A mark T X es m ≡ read A mark T Y es m
    read_agree es X Y agree m h =
        both_ways (read A mark T X es m) (read A mark T Y es m) (read_within es X Y (λ n k e. sym (agree n k) ∙ e) m h)
        (read_within es Y X (λ n k e. agree n k ∙ e) m h)

-- Marks of a side joined by the formulas, on the last side; on the first the sets change places.
joined_later : (X Y : Mark → Bool) (x m : Mark) → X x ≡ true → m ≢ untouched → joined (side_algebra last) X Y m ≡ (X m && Y untouched || Y m)
joined_later X Y x m at touch =
    both_ways (joined (side_algebra last) X Y m) (X m && Y untouched || Y m)
    (λ e.
    let j = joined_found (side_algebra last) X Y m e in
    ⊎_elim
    (λ p. or_left (X m && Y untouched) (Y m)
    (and_both (X m) (Y untouched) (subst (λ n. X n ≡ true) p.1 j.2) (subst (λ n. Y n ≡ true) p.0 j.3)))
    (λ p. or_right (X m && Y untouched) (Y m) (subst (λ n. Y n ≡ true) p j.3))
    (or_else_cases j.1 j.0 m j.4))
    (λ e.
    ⊎_elim
    (λ p. let b = and_parts (X m) (Y untouched) p in joined_intro (side_algebra last) X Y m untouched m b.0 b.1 refl)
    (λ p. joined_intro (side_algebra last) X Y x m m at p (or_else_touch m x touch))
    (or_cases (X m && Y untouched) (Y m) e))

joined_none : (X Y : Mark → Bool) → joined (side_algebra last) X Y untouched ≡ (X untouched && Y untouched)
joined_none X Y =
    both_ways (joined (side_algebra last) X Y untouched) (X untouched && Y untouched)
    (λ e.
    let j = joined_found (side_algebra last) X Y untouched e in
    let g = or_else_none j.1 j.0 j.4 in
    and_both (X untouched) (Y untouched) (subst (λ n. X n ≡ true) g.1 j.2) (subst (λ n. Y n ≡ true) g.0 j.3))
    (λ e. let b = and_parts (X untouched) (Y untouched) e in joined_intro (side_algebra last) X Y untouched untouched untouched b.0 b.1 refl)

joined_later_sets : (X Y : Mark → Bool) (x : Mark) → X x ≡ true → (m : Mark) → joined (side_algebra last) X Y m ≡ later_sets X Y m
joined_later_sets X Y x at present = joined_later X Y x present at present≢untouched
joined_later_sets X Y x at absent = joined_later X Y x absent at absent≢untouched
joined_later_sets X Y x at untouched = joined_none X Y

joined_swap : (X Y : Mark → Bool) (m : Mark) → joined (side_algebra first) X Y m ≡ joined (side_algebra last) Y X m
joined_swap X Y m =
    both_ways (joined (side_algebra first) X Y m) (joined (side_algebra last) Y X m)
    (λ e. let j = joined_found (side_algebra first) X Y m e in joined_intro (side_algebra last) Y X j.1 j.0 m j.3 j.2 j.4)
    (λ e. let j = joined_found (side_algebra last) Y X m e in joined_intro (side_algebra first) X Y j.1 j.0 m j.3 j.2 j.4)

pub joined_join_sets : (s : Side) (X Y : Mark → Bool) (x y : Mark) → X x ≡ true → Y y ≡ true → (m : Mark)
    → joined (side_algebra s) X Y m ≡ join_sets s X Y m
joined_join_sets last X Y x y p q m = joined_later_sets X Y x p m
joined_join_sets first X Y x y p q m = joined_swap X Y m ∙ joined_later_sets Y X y q m

-- every sequence called has a run, by the column given
unfoldable pub all_run : (ℕ → Bool) → List Entry → Bool
all_run R [] = true
all_run R (item a ∷ es) = all_run R es
all_run R (call c ∷ es) = R c && all_run R es

-- every item is a check, and every sequence called has an empty run, by the column given
unfoldable pub all_empty : (ℕ → Bool) → List Entry → Bool
all_empty R [] = true
all_empty R (item a ∷ es) = is_check a && all_empty R es
all_empty R (call c ∷ es) = R c && all_empty R es

-- the outcomes after the entries on a side, by the formulas, where those of what stands before them are X
unfoldable pub read_sets : (s : Side) → (Item → Mark) → Table (side_algebra s) → (Mark → Bool) → List Entry → Mark → Bool
read_sets s t T X [] = X
read_sets s t T X (e ∷ es) = read_sets s t T (join_sets s X (entry_outcomes (side_algebra s) t T e)) es

-- the outcomes of an alternative on a side: none where a sequence called has no run
abbrev pub side_outcomes : (s : Side) → (Item → Mark) → (ℕ → Bool) → Table (side_algebra s) → List Entry → Mark → Bool
side_outcomes s t R T es m = all_run R es && read_sets s t T (same_mark untouched) es m

-- A side read by the formulas, where a sequence has an outcome exactly where it has a run.
module _ (s : Side) (t : Item → Mark) (R : ℕ → Bool) (T : Table (side_algebra s)) (alike : (c : ℕ) → some (T c) (side_algebra s).all ≡ R c) where
  Reads : List Entry → Type 0
  Reads es = (X : Mark → Bool) (x : Mark) → X x ≡ true → (m : Mark) → read (side_algebra s) t T X es m ≡ (all_run R es && read_sets s t T X es m)

  -- sets that are not empty, joined
  join_sets_some : (X Y : Mark → Bool) (x y : Mark) → X x ≡ true → Y y ≡ true → join_sets s X Y (join_marks s x y) ≡ true
  join_sets_some X Y x y p q = sym (joined_join_sets s X Y x y p q (join_marks s x y)) ∙ joined_intro (side_algebra s) X Y x y (join_marks s x y) p q refl

  -- an entry that has an outcome
  read_live : (e : Entry) (es : List Entry) (y : Mark) → entry_outcomes (side_algebra s) t T e y ≡ true → Reads es
      → (X : Mark → Bool) (x : Mark) → X x ≡ true → (m : Mark) → read (side_algebra s) t T X (e ∷ es) m ≡ (all_run R es && read_sets s t T X (e ∷ es) m)
  unfolding read read_sets Reads
  read_live e es y q rest X x p m =
      let Y = entry_outcomes (side_algebra s) t T e in
      read_agree (side_algebra s) t T (whole (side_algebra s)) es (joined (side_algebra s) X Y) (join_sets s X Y)
      (λ n h. joined_join_sets s X Y x y p q n) m tt
      ∙ rest (join_sets s X Y) (join_marks s x y) (join_sets_some X Y x y p q) m

  -- a call that has none
  read_dead : (c : ℕ) (es : List Entry) → some (T c) (side_algebra s).all ≡ false → (X : Mark → Bool) (m : Mark)
      → read (side_algebra s) t T X (call c ∷ es) m ≡ false
  unfolding read
  read_dead c es none X m =
      ⊎_elim
      (λ e.
      let r = read_found (side_algebra s) t T es (joined (side_algebra s) X (T c)) m e in
      let j = joined_found (side_algebra s) X (T c) r.0 r.1 in
      absurd (false≢true (sym none ∙ some_intro (T c) ((side_algebra s).listed j.1) j.3)))
      (λ e. e)
      (passes_or_not (read (side_algebra s) t T (joined (side_algebra s) X (T c)) es m))

  read_sets_lem : (es : List Entry) → Reads es
  unfolding Reads read read_sets all_run
  read_sets_lem [] X x p m = refl
  read_sets_lem (item a ∷ es) X x p m = read_live (item a) es (t a) (same_mark_refl (t a)) (read_sets_lem es) X x p m
  read_sets_lem (call c ∷ es) X x p m =
      ⊎_elim
      (λ e. let y = some_found (T c) (side_algebra s).all (alike c ∙ e) in rw e (read_live (call c) es y.0 y.2 (read_sets_lem es) X x p m))
      (λ e. rw e (read_dead c es (alike c ∙ e) X m))
      (passes_or_not (R c))

  -- what an alternative can have on a side
  pub side_can : (es : List Entry) (m : Mark) → can (side_algebra s) t T es untouched m ≡ side_outcomes s t R T es m
  unfolding Reads
  side_can es m = sym (read_can (side_algebra s) t T es m) ∙ read_sets_lem es (same_mark untouched) untouched refl m

  -- which has an outcome there where it has a run, and only there
  sets_live : (es : List Entry) (X : Mark → Bool) (x : Mark) → X x ≡ true → all_run R es ≡ true → (m : Mark) × (read_sets s t T X es m ≡ true)
  unfolding read_sets all_run
  sets_live [] X x p e = (x, p)
  sets_live (item a ∷ es) X x p e =
      sets_live es (join_sets s X (same_mark (t a))) (join_marks s x (t a)) (join_sets_some X (same_mark (t a)) x (t a) p (same_mark_refl (t a))) e
  sets_live (call c ∷ es) X x p e =
      let b = and_parts (R c) (all_run R es) e in
      let y = some_found (T c) (side_algebra s).all (alike c ∙ b.0) in
      sets_live es (join_sets s X (T c)) (join_marks s x y.0) (join_sets_some X (T c) x y.0 p y.2) b.1

  pub side_live : (es : List Entry) → some (side_outcomes s t R T es) (side_algebra s).all ≡ all_run R es
  side_live es =
      both_ways (some (side_outcomes s t R T es) (side_algebra s).all) (all_run R es)
      (λ e. let f = some_found (side_outcomes s t R T es) (side_algebra s).all e in
      (and_parts (all_run R es) (read_sets s t T (same_mark untouched) es f.0) f.2).0)
      (λ e. let l = sets_live es (same_mark untouched) untouched refl e in
      some_intro (side_outcomes s t R T es) ((side_algebra s).listed l.0)
      (and_both (all_run R es) (read_sets s t T (same_mark untouched) es l.0) e l.1))

-- an alternative has a run where every sequence it calls has one
pub run_can : (mark : Item → Unit {0}) (R : ℕ → Bool) (es : List Entry) → can any_algebra mark (λ c m. R c) es tt tt ≡ all_run R es
unfolding can all_run some
run_can mark R [] = refl
run_can mark R (item a ∷ es) = run_can mark R es
run_can mark R (call c ∷ es) = rw (or-false, run_can mark R es)

-- and an empty run where it has no step and every sequence it calls has an empty run
step_not_empty : (T : Table empty_algebra) (es : List Entry) → can empty_algebra is_check T es false true ≡ false
unfolding can some
step_not_empty T [] = refl
step_not_empty T (item a ∷ es) = step_not_empty T es
step_not_empty T (call c ∷ es) = rw (step_not_empty T es, and-false (T c true), and-false (T c false))

pub empty_can : (R : ℕ → Bool) (es : List Entry) → can empty_algebra is_check (λ c b. R c) es true true ≡ all_empty R es
unfolding can all_empty some
empty_can R [] = refl
empty_can R (item (step a) ∷ es) = step_not_empty (λ c b. R c) es
empty_can R (item (check f) ∷ es) = empty_can R es
empty_can R (call c ∷ es) = rw (step_not_empty (λ d b. R d) es, and-false (R c), or-false, empty_can R es)
