-- Views: what is looked at of a run for a fact. The two sides are views, and so is what stands at the end (document 02, request 4). A view
-- marks each item, and on one of the two sides a mark decides.
use Rattle.std.specs.Prelude.{ℕ, cond, ◌||◌, List}
use Rattle.library.specs.Library.{has, Library, Step, Item}
use Rattle.runs.specs.Domain.{action_of}
use Rattle.runs.specs.Touch.{Side, last, Mark, present, absent, untouched, item_touch, decided}

pub data View : Type 0 where
  touches : Side → View
  standing : View

-- "the last item that sets, clears, needs or checks the fact is there and does not clear it": `absent` is "clears it", `present` that the item
-- is such a one and does not. "A step that needs and clears counts as clearing."
abbrev pub standing_mark : Step → ℕ → Mark
standing_mark a f = cond (has f a.clears) absent (cond (has f a.sets || has f a.needs) present untouched)

abbrev pub view_mark : Library → View → ℕ → Item → Mark
view_mark L (touches s) f x = item_touch L s f x
view_mark L standing f x = standing_mark (action_of L x) f

-- the side on which a mark decides: of `standing` the last, since "the last item" does
abbrev pub view_side : View → Side
view_side (touches s) = s
view_side standing = last

-- the outcome of run w for fact f in a view
abbrev pub view_outcome : Library → View → ℕ → List Item → Mark
view_outcome L v f w = decided (view_side v) (view_mark L v f) w
