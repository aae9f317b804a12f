-- The runs of a sequence (document 01, "Runs"; in the papers a primitive refinement of a compound task).
--
-- They depend on the sequences alone, and not on what a step needs, sets or clears.
use Rattle.std.specs.Prelude.{ℕ, ◌<◌, ◌≡◌, length, get_or}
use mathlib.Core.List.{List, [], ◌∷◌, ◌++◌, Memᴰ}
use Rattle.library.specs.Library.{Library, Alternative, Sequence, Item, step, Entry, item, call}

-- the alternatives of sequence c, none where c is not the number of a sequence
abbrev pub alternatives_of : List Sequence → ℕ → List Alternative
alternatives_of S c = get_or S c []

-- alternative i of sequence c: "Alternatives count from 0 within their sequence."
abbrev pub alternative_of : List Sequence → ℕ → ℕ → Alternative
alternative_of S c i = get_or (alternatives_of S c) i []

-- Which lists the entries of an alternative give: "putting its steps, and a run of each of its sequences, in order". "A run holds its checks
-- in their places" (document 02, request 4).
-- The run u of the sequence called is given by its alternative i.
pub data Gives (S : List Sequence) : List Entry → List Item → Type 0 where
  nothing : Gives S [] []
  by_item : {a : Item} {es : List Entry} {w : List Item} → Gives S es w → Gives S (item a ∷ es) (a ∷ w)
  by_call : {c : ℕ} {es : List Entry} {u v w : List Item} (i : ℕ) → i < length (alternatives_of S c) → Gives S (alternative_of S c i) u
      → Gives S es v → w ≡ u ++ v → Gives S (call c ∷ es) w

-- "A run of a sequence is any finite list of steps got by choosing an alternative and putting its steps, and a run of each of its
-- sequences, in order. A run may be empty. A sequence may have no run."
pub record RunOf (S : List Sequence) (c : ℕ) (w : List Item) : Type 0 where
  pub alternative : ℕ
  pub listed : alternative < length (alternatives_of S c)
  pub given : Gives S (alternative_of S c alternative) w

-- w is a run of sequence c of the library
abbrev pub Run : Library → ℕ → List Item → Type 0
Run L c w = RunOf L.sequences c w

-- the sequence has a run, or none: "A sequence may have no run."
abbrev pub HasRun : Library → ℕ → Type 0
HasRun L c = (w : List Item) × Run L c w

abbrev pub NoRun : Library → ℕ → Type 0
NoRun L c = (w : List Item) → ¬ Run L c w

-- "a check is no step, .. and a run without steps is still called empty" (request 4)
abbrev pub Empty : List Item → Type 0
Empty w = (a : ℕ) → ¬ Memᴰ (step a) w
