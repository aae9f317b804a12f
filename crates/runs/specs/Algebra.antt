-- The finite algebra of outcomes: what a list of items comes to, where the outcome of two lists joined depends on their outcomes
-- alone. Both sides of document 01, "a run exists" and "an empty run exists" are instances.
use Rattle.std.specs.Prelude.{◌≡◌, refl, Bool, true, false, ◌&&◌}
use Rattle.std.proofs.Common.{sym}
use Rattle.std.proofs.Math.Bool.{and_assoc, and-true}
use Rattle.std.specs.Bool.{beq}
use Rattle.std.proofs.lemmas.Bool.{false≢true}
use mathlib.Core.List.{List, [], ◌∷◌, Memᴰ}
use Rattle.library.specs.Library.{Item}
use Rattle.runs.specs.Touch.{Mark, present, absent, untouched, or_else, Side, last, first}

-- a finite monoid of marks with a Boolean equality
pub record Algebra : Type 1 where
  pub Outcome : Type 0
  pub unit : Outcome
  pub join : Outcome → Outcome → Outcome
  pub all : List Outcome
  pub same : Outcome → Outcome → Bool
  pub assoc : (x y z : Outcome) → join (join x y) z ≡ join x (join y z)
  pub unit_left : (x : Outcome) → join unit x ≡ x
  pub unit_right : (x : Outcome) → join x unit ≡ x
  pub listed : (x : Outcome) → Memᴰ x all
  pub same_refl : (x : Outcome) → same x x ≡ true
  pub same_eq : (x y : Outcome) → same x y ≡ true → x ≡ y

-- the outcome of a list of items, each marked by the marking
unfoldable pub outcome : (A : Algebra) → (Item → A.Outcome) → List Item → A.Outcome
outcome A mark [] = A.unit
outcome A mark (x ∷ w) = A.join (mark x) (outcome A mark w)

-- the marks of a side: their equality, and the laws of "the one that touches"
abbrev pub same_mark : Mark → Mark → Bool
same_mark present present = true
same_mark present absent = false
same_mark present untouched = false
same_mark absent present = false
same_mark absent absent = true
same_mark absent untouched = false
same_mark untouched present = false
same_mark untouched absent = false
same_mark untouched untouched = true

pub same_mark_refl : (m : Mark) → same_mark m m ≡ true
same_mark_refl present = refl
same_mark_refl absent = refl
same_mark_refl untouched = refl

pub same_mark_eq : (m n : Mark) → same_mark m n ≡ true → m ≡ n
same_mark_eq present present e = refl
same_mark_eq present absent e = absurd (false≢true e)
same_mark_eq present untouched e = absurd (false≢true e)
same_mark_eq absent present e = absurd (false≢true e)
same_mark_eq absent absent e = refl
same_mark_eq absent untouched e = absurd (false≢true e)
same_mark_eq untouched present e = absurd (false≢true e)
same_mark_eq untouched absent e = absurd (false≢true e)
same_mark_eq untouched untouched e = refl

pub marks_listed : (m : Mark) → Memᴰ m (present ∷ absent ∷ untouched ∷ [])
marks_listed present = Memᴰ.head refl
marks_listed absent = Memᴰ.tail (Memᴰ.head refl)
marks_listed untouched = Memᴰ.tail (Memᴰ.tail (Memᴰ.head refl))

-- Of two lists joined: "the last touch decides", the second's where it has one; "the first touch decides", the first's.
abbrev pub join_marks : Side → Mark → Mark → Mark
join_marks last x y = or_else y x
join_marks first x y = or_else x y

pub or_else_assoc : (x y z : Mark) → or_else (or_else x y) z ≡ or_else x (or_else y z)
or_else_assoc present y z = refl
or_else_assoc absent y z = refl
or_else_assoc untouched y z = refl

pub or_else_untouched : (x : Mark) → or_else x untouched ≡ x
or_else_untouched present = refl
or_else_untouched absent = refl
or_else_untouched untouched = refl

pub join_marks_assoc : (s : Side) (x y z : Mark) → join_marks s (join_marks s x y) z ≡ join_marks s x (join_marks s y z)
join_marks_assoc last x y z = sym (or_else_assoc z y x)
join_marks_assoc first x y z = or_else_assoc x y z

pub join_marks_left : (s : Side) (x : Mark) → join_marks s untouched x ≡ x
join_marks_left last x = or_else_untouched x
join_marks_left first x = refl

pub join_marks_right : (s : Side) (x : Mark) → join_marks s x untouched ≡ x
join_marks_right last x = refl
join_marks_right first x = or_else_untouched x

-- the outcomes on a side
abbrev pub side_algebra : Side → Algebra
side_algebra s =
    record {
      Outcome = Mark;
      unit = untouched;
      join = join_marks s;
      all = present ∷ absent ∷ untouched ∷ [];
      same = same_mark;
      assoc = join_marks_assoc s;
      unit_left = join_marks_left s;
      unit_right = join_marks_right s;
      listed = marks_listed;
      same_refl = same_mark_refl;
      same_eq = same_mark_eq;
    }

-- one outcome, which every run has
abbrev pub any_algebra : Algebra
any_algebra =
    record {
      Outcome = Unit {0};
      unit = tt;
      join = λ x y. tt;
      all = tt ∷ [];
      same = λ x y. true;
      assoc = λ x y z. refl;
      unit_left = λ x. refl;
      unit_right = λ x. refl;
      listed = λ x. Memᴰ.head refl;
      same_refl = λ x. refl;
      same_eq = λ x y e. refl;
    }

pub beq_refl : (b : Bool) → beq b b ≡ true
beq_refl true = refl
beq_refl false = refl

pub beq_eq : (a b : Bool) → beq a b ≡ true → a ≡ b
beq_eq true true e = refl
beq_eq true false e = absurd (false≢true e)
beq_eq false true e = absurd (false≢true e)
beq_eq false false e = refl

pub bools_listed : (b : Bool) → Memᴰ b (true ∷ false ∷ [])
bools_listed true = Memᴰ.head refl
bools_listed false = Memᴰ.tail (Memᴰ.head refl)

-- whether a list has no item: `true` where it has none
abbrev pub empty_algebra : Algebra
empty_algebra =
    record {
      Outcome = Bool;
      unit = true;
      join = ◌&&◌;
      all = true ∷ false ∷ [];
      same = beq;
      assoc = and_assoc;
      unit_left = λ x. refl;
      unit_right = and-true;
      listed = bools_listed;
      same_refl = beq_refl;
      same_eq = beq_eq;
    }
