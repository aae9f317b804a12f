-- What "always stands" and the columns beside it say of a run, by the words of requests 4 and 5 (document 02).
use Rattle.std.specs.Prelude.{ℕ, ◌≡◌, Bool, true, false, ◌||◌, eqb}
use mathlib.Core.List.{List, ◌∷◌, ◌++◌, Memᴰ}
use Rattle.library.specs.Library.{has, Library, Item, step, check}
use Rattle.runs.specs.Domain.{action_of}

-- an "item that sets, clears, needs or checks the fact"
abbrev pub mentions : Library → ℕ → Item → Bool
mentions L f (step a) =
    has f (action_of L (step a)).sets || (has f (action_of L (step a)).clears || has f (action_of L (step a)).needs)
mentions L f (check g) = eqb g f

-- one that clears it. "A step that needs and clears counts as clearing."
abbrev pub clears : Library → ℕ → Item → Bool
clears L f (step a) = has f (action_of L (step a)).clears
clears L f (check g) = false

-- "the last item that sets, clears, needs or checks the fact is there", and clears it or does not
pub record LastItem (L : Library) (f : ℕ) (clearing : Bool) (w : List Item) : Type 0 where
  pub before : List Item
  pub item : Item
  pub after : List Item
  pub there : w ≡ before ++ item ∷ after
  pub mentioned : mentions L f item ≡ true
  pub last : (x : Item) → Memᴰ x after → mentions L f x ≡ false
  pub effect : clears L f item ≡ clearing

-- ".. is there and does not clear it"
abbrev pub EndsStanding : Library → ℕ → List Item → Type 0
EndsStanding L f w = LastItem L f false w

-- the "last item under Item 4's rule clears it" (request 5)
abbrev pub EndsCleared : Library → ℕ → List Item → Type 0
EndsCleared L f w = LastItem L f true w

-- the run "has no such item" (request 5)
abbrev pub Unmentioned : Library → ℕ → List Item → Type 0
Unmentioned L f w = (x : Item) → Memᴰ x w → mentions L f x ≡ false
