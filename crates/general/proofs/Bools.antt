-- Laws of Booleans: what a conjunction, a disjunction and a count by `bool_byte` say, and tests against each other.
-- Assumes nothing.
use Prim.Native.Nat.{◌≤◌}
use native.Mathlib.Nat.{le_refl}
use mathlib.Core.Path.{◌≡◌, refl, sym}
use mathlib.Core.Bool.{Bool, true, false, ◌&&◌, ◌||◌, false≢true}
use mathlib.Core.Logic.{◌⊎◌, inl, inr}
use lib.Dec.{lit≤}
use mir.Val.{bool_byte}

pub byte_le : (b : Bool) → bool_byte b ≤ 1
byte_le true = le_refl 1
byte_le false = lit≤ tt

pub and_left : (a b : Bool) → a && b ≡ true → a ≡ true
and_left true b e = refl
and_left false b e = absurd (false≢true e)

pub and_right : (a b : Bool) → a && b ≡ true → b ≡ true
and_right true b e = e
and_right false b e = absurd (false≢true e)

pub or_left : (a b : Bool) → a ≡ true → a || b ≡ true
or_left true b e = refl
or_left false b e = absurd (false≢true e)

pub or_right : (a b : Bool) → b ≡ true → a || b ≡ true
or_right true b e = refl
or_right false b e = e

pub nor_left : (a b : Bool) → a || b ≡ false → a ≡ false
nor_left true b e = e
nor_left false b e = refl

pub nor_right : (a b : Bool) → a || b ≡ false → b ≡ false
nor_right true b e = absurd (false≢true (sym e))
nor_right false b e = e

pub or_cases : (a b : Bool) → a || b ≡ true → (a ≡ true) ⊎ (b ≡ true)
or_cases true b e = inl refl
or_cases false b e = inr e

pub or_five : (a b c d e : Bool) → a || b || c || d || e ≡ true → (a ≡ true) ⊎ (b ≡ true) ⊎ (c ≡ true) ⊎ (d ≡ true) ⊎ (e ≡ true)
or_five true b c d e q = inl refl
or_five false true c d e q = inr (inl refl)
or_five false false true d e q = inr (inr (inl refl))
or_five false false false true e q = inr (inr (inr (inl refl)))
or_five false false false false e q = inr (inr (inr (inr q)))

-- where a conjunction passes, so do its parts
pub and_parts : (a b : Bool) → (a && b) ≡ true → (a ≡ true) × (b ≡ true)
and_parts true b e = (refl, e)
and_parts false b e = absurd (false≢true e)

pub and_both : (a b : Bool) → a ≡ true → b ≡ true → (a && b) ≡ true
and_both true b p q = q
and_both false b p q = p

pub and_implied : (a b : Bool) → (b ≡ true → a ≡ true) → (a && b) ≡ b
and_implied true b h = refl
and_implied false true h = h refl
and_implied false false h = refl

-- a test either passes or fails
pub passes_or_not : (a : Bool) → (a ≡ true) ⊎ (a ≡ false)
passes_or_not true = inl refl
passes_or_not false = inr refl

-- two tests that pass together are equal
pub both_ways : (a b : Bool) → (a ≡ true → b ≡ true) → (b ≡ true → a ≡ true) → a ≡ b
both_ways true b there back = sym (there refl)
both_ways false true there back = back refl
both_ways false false there back = refl

-- the members of a longer conjunction, which groups to the left
pub and_six : (a b c d e f : Bool) → a && b && c && d && e && f ≡ true
    → (a ≡ true) × (b ≡ true) × (c ≡ true) × (d ≡ true) × (e ≡ true) × (f ≡ true)
and_six true true true true true f q = (refl, refl, refl, refl, refl, q)
and_six true true true true false f q = absurd (false≢true q)
and_six true true true false e f q = absurd (false≢true q)
and_six true true false d e f q = absurd (false≢true q)
and_six true false c d e f q = absurd (false≢true q)
and_six false b c d e f q = absurd (false≢true q)
