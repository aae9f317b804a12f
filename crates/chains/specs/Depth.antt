-- The nesting depth of a derivation (document 01, "Chains").
use Rattle.std.specs.Prelude.{ℕ, suc, max, List}
use Rattle.library.specs.Library.{Sequence, Entry, Item}
use Rattle.runs.specs.Run.{Gives, nothing, by_item, by_call, RunOf}

-- "A step has depth 0, a sequence 1 plus the greatest depth among its entries, or 1 without entries.": the greatest depth among
-- the entries that a list is got from, 0 without entries
unfoldable pub deepest : (S : List Sequence) {es : List Entry} {w : List Item} → Gives S es w → ℕ
deepest S nothing = 0
deepest S (by_item g) = max 0 (deepest S g)
deepest S (by_call i lt g h e) = max (suc (deepest S g)) (deepest S h)

-- the depth of the derivation of a sequence's run
abbrev pub depth_of : (S : List Sequence) {c : ℕ} {w : List Item} → RunOf S c w → ℕ
depth_of S r = suc (deepest S r.given)
