-- Laws of outcomes: of joined lists, and of the two sides, where the last or the first touch decides.
use mathlib.Core.Path.{◌≡◌, refl, sym, ◌∙◌, ap}
use mathlib.Core.Logic.{◌⊎◌, inl, inr, ⊎_elim, ◌≢◌, ◌↔◌}
use mathlib.Core.Bool.{false≢true}
use mathlib.Core.List.Memᴰ
use mathlib.Core.List.{List, [], ◌∷◌, ◌++◌, Memᴰ}
use Rattle.library.specs.Library.{Item}
use Rattle.runs.specs.Touch.{Mark, present, absent, untouched, or_else, Side, last, first, decided, overruling}
use Rattle.runs.specs.Algebra.{Algebra, outcome, side_algebra, join_marks, join_marks_left, same_mark}

-- the outcome of joined lists is the join of their outcomes
pub outcome_append : (A : Algebra) (mark : Item → A.Outcome) (u v : List Item)
    → outcome A mark (u ++ v) ≡ A.join (outcome A mark u) (outcome A mark v)
unfolding outcome
outcome_append A mark [] v = sym (A.unit_left (outcome A mark v))
outcome_append A mark (x ∷ u) v =
    ap (A.join (mark x)) (outcome_append A mark u v) ∙ sym (A.assoc (mark x) (outcome A mark u) (outcome A mark v))

-- the outcome on a side is the outcome in the side's algebra
pub decided_outcome : (s : Side) (t : Item → Mark) (w : List Item) → decided s t w ≡ outcome (side_algebra s) t w
unfolding decided outcome
decided_outcome last t [] = refl
decided_outcome last t (x ∷ w) = ap (λ m. or_else m (t x)) (decided_outcome last t w)
decided_outcome first t [] = refl
decided_outcome first t (x ∷ w) = ap (or_else (t x)) (decided_outcome first t w)

-- the outcome of joined lists on a side
pub decided_append : (s : Side) (t : Item → Mark) (u v : List Item) → decided s t (u ++ v) ≡ join_marks s (decided s t u) (decided s t v)
decided_append s t u v = rw (decided_outcome s t (u ++ v), decided_outcome s t u, decided_outcome s t v) (outcome_append (side_algebra s) t u v)

decided_nil : (s : Side) (t : Item → Mark) → decided s t [] ≡ untouched
unfolding decided
decided_nil last t = refl
decided_nil first t = refl

decided_cons : (s : Side) (t : Item → Mark) (x : Item) (w : List Item) → decided s t (x ∷ w) ≡ join_marks s (t x) (decided s t w)
unfolding decided
decided_cons last t x w = refl
decided_cons first t x w = refl

pub present≢untouched : present ≢ untouched
present≢untouched e = false≢true (ap (same_mark untouched) e)

pub absent≢untouched : absent ≢ untouched
absent≢untouched e = false≢true (ap (same_mark untouched) e)

-- of two marks, the one that touches is taken; where neither does, both are none
pub or_else_touch : (m n : Mark) → m ≢ untouched → or_else m n ≡ m
or_else_touch present n touches = refl
or_else_touch absent n touches = refl
or_else_touch untouched n touches = absurd (touches refl)

pub or_else_none : (m n : Mark) → or_else m n ≡ untouched → (m ≡ untouched) × (n ≡ untouched)
or_else_none present n e = absurd (present≢untouched e)
or_else_none absent n e = absurd (absent≢untouched e)
or_else_none untouched n e = (refl, e)

pub or_else_cases : (m n k : Mark) → or_else m n ≡ k → ((m ≡ untouched) × (n ≡ k)) ⊎ (m ≡ k)
or_else_cases present n k e = inr e
or_else_cases absent n k e = inr e
or_else_cases untouched n k e = inl (refl, e)

pub join_none : (s : Side) (m n : Mark) → join_marks s m n ≡ untouched → (m ≡ untouched) × (n ≡ untouched)
join_none last m n e = let p = or_else_none n m e in (p.1, p.0)
join_none first m n e = or_else_none m n e

-- no item touches the fact
abbrev pub Untouched : (Item → Mark) → List Item → Type 0
Untouched t w = (x : Item) → Memᴰ x w → t x ≡ untouched

Untouched-nil : (t : Item → Mark) → Untouched t []
Untouched-nil t x m = absurd (Memᴰ.not-nil m)

Untouched-cons : (t : Item → Mark) (x : Item) (w : List Item) → t x ≡ untouched → Untouched t w → Untouched t (x ∷ w)
Untouched-cons t x w e rest y m = ⊎_elim (λ q. ap t q ∙ e) (rest y) (Memᴰ.cases_cons m)

-- a run leaves the fact untouched exactly when none of its items touches it
decided_untouched : (s : Side) (t : Item → Mark) (w : List Item) → decided s t w ≡ untouched → Untouched t w
decided_untouched s t [] e = Untouched-nil t
decided_untouched s t (x ∷ w) e =
    let p = join_none s (t x) (decided s t w) (sym (decided_cons s t x w) ∙ e) in
    Untouched-cons t x w p.0 (decided_untouched s t w p.1)

untouched_decided : (s : Side) (t : Item → Mark) (w : List Item) → Untouched t w → decided s t w ≡ untouched
untouched_decided s t [] h = decided_nil s t
untouched_decided s t (x ∷ w) h =
    rw (decided_cons s t x w, h x (Memᴰ.head refl), untouched_decided s t w (λ y m. h y (Memᴰ.tail m))) (join_marks_left s untouched)

pub untouched_iff : (s : Side) (t : Item → Mark) (w : List Item) → (decided s t w ≡ untouched) ↔ Untouched t w
untouched_iff s t w = (decided_untouched s t w, untouched_decided s t w)

-- the item that decides: it has the touch, and those that could overrule it have none
pub record Decider (s : Side) (t : Item → Mark) (m : Mark) (w : List Item) : Type 0 where
  pub before : List Item
  pub item : Item
  pub after : List Item
  pub split : w ≡ before ++ item ∷ after
  pub touches : t item ≡ m
  pub stays : Untouched t (overruling s before after)

decider_decides : (s : Side) (t : Item → Mark) (m : Mark) (u : List Item) (x : Item) (v : List Item) → m ≢ untouched → t x ≡ m
    → Untouched t (overruling s u v) → decided s t (u ++ x ∷ v) ≡ m
decider_decides last t m u x v touch e stays =
    rw (decided_append last t u (x ∷ v), decided_cons last t x v, untouched_decided last t v stays, e) (or_else_touch m (decided last t u) touch)
decider_decides first t m u x v touch e stays =
    rw (decided_append first t u (x ∷ v), decided_cons first t x v, untouched_decided first t u stays, e) (or_else_touch m (decided first t v) touch)

decided_decider : (s : Side) (t : Item → Mark) (m : Mark) (w : List Item) → m ≢ untouched → decided s t w ≡ m → Decider s t m w
decided_decider s t m [] touch e = absurd (touch (sym e ∙ decided_nil s t))
decided_decider last t m (x ∷ w) touch e =
    ⊎_elim
    (λ p. record { before = []; item = x; after = w; split = refl; touches = p.1; stays = decided_untouched last t w p.0 })
    (λ q. let d = decided_decider last t m w touch q in
    record { before = x ∷ d.before; item = d.item; after = d.after; split = ap (λ l. x ∷ l) d.split; touches = d.touches; stays = d.stays })
    (or_else_cases (decided last t w) (t x) m (sym (decided_cons last t x w) ∙ e))
decided_decider first t m (x ∷ w) touch e =
    ⊎_elim
    (λ p. let d = decided_decider first t m w touch p.1 in
    record {
      before = x ∷ d.before;
      item = d.item;
      after = d.after;
      split = ap (λ l. x ∷ l) d.split;
      touches = d.touches;
      stays = Untouched-cons t x d.before p.0 d.stays;
    })
    (λ q. record { before = []; item = x; after = w; split = refl; touches = q; stays = Untouched-nil t })
    (or_else_cases (t x) (decided first t w) m (sym (decided_cons first t x w) ∙ e))

-- "the last touch decides", "the first touch decides": a run has a touch for its outcome exactly when one of its items has it and
-- no later item, on the first side no earlier one, touches the fact
pub decider_iff : (s : Side) (t : Item → Mark) (m : Mark) (w : List Item) → m ≢ untouched → (decided s t w ≡ m) ↔ Decider s t m w
decider_iff s t m w touch = (
  decided_decider s t m w touch,
  λ d. rw d.split (decider_decides s t m d.before d.item d.after touch d.touches d.stays),
)
