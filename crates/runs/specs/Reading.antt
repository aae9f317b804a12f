-- An alternative read from left to right by a table: the outcomes of what is read so far are a set of outcomes, and each entry is
-- joined to it.
use Rattle.std.specs.Prelude.{Bool, ◌&&◌}
use mathlib.Core.List.{List, [], ◌∷◌}
use Rattle.library.specs.Library.{Entry, item, call, Item}
use Rattle.general.specs.Tests.{some}
use Rattle.runs.specs.Algebra.{Algebra}
use Rattle.runs.specs.Possible.{Table}

-- the outcomes of one list followed by another, for outcomes of the one in X and of the other in Y
unfoldable pub joined : (A : Algebra) → (A.Outcome → Bool) → (A.Outcome → Bool) → A.Outcome → Bool
unfolding some
joined A X Y m = some (λ x. some (λ y. X x && (Y y && A.same (A.join x y) m)) A.all) A.all

module _ (A : Algebra) (mark : Item → A.Outcome) where
  -- the outcomes of an entry, by the table
  abbrev pub entry_outcomes : Table A → Entry → A.Outcome → Bool
  entry_outcomes T (item a) m = A.same (mark a) m
  entry_outcomes T (call c) m = T c m

  -- the outcomes after the entries, where those of what stands before them are X
  unfoldable pub read : Table A → (A.Outcome → Bool) → List Entry → A.Outcome → Bool
  unfolding joined
  read T X [] = X
  read T X (e ∷ es) = read T (joined A X (entry_outcomes T e)) es
