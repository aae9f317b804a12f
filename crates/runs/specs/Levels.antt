-- The least table closed under a test, over finitely many keys: a table of what is found so far is gone over again, each time with
-- the test taken at the table as it stands, until nothing is added. Each level is a list of Booleans, computed once.
use Prim.Native.Nat.{ℕ, zero, suc}
use Rattle.std.specs.Prelude.{Bool, cond, ◌||◌, length, ltb}
use Rattle.std.proofs.Math.Bool.{true, false}
use mathlib.Core.List.{List, [], ◌∷◌}

-- a key, and whether it is found
pub data Cell (K : Type 0) : Type 0 where
  cell : K → Bool → Cell K

-- a table in which nothing is found
unfoldable pub blank : {K : Type 0} → List K → List (Cell K)
blank [] = []
blank (k ∷ ks) = cell k false ∷ blank ks

-- how many keys are not found
unfoldable pub missing : {K : Type 0} → List (Cell K) → ℕ
missing [] = 0
missing (cell k true ∷ t) = missing t
missing (cell k false ∷ t) = suc (missing t)

-- whether key k is found in the table
unfoldable pub found : {K : Type 0} → (K → K → Bool) → List (Cell K) → K → Bool
found same [] k = false
found same (cell j b ∷ t) k = let later : Bool = found same t k in cond (same j k) b later

-- the table with what passes the test added
unfoldable pub added : {K : Type 0} → (K → Bool) → List (Cell K) → List (Cell K)
added test [] = []
added test (cell k b ∷ t) = let more : Bool = test k in cell k (b || more) ∷ added test t

module _ {K : Type 0} (same : K → K → Bool) (look : (K → Bool) → K → Bool) where
  -- one level more, at most n times, as long as something is added
  unfoldable pub levels : ℕ → List (Cell K) → List (Cell K)
  unfolding missing found added
  levels zero t = t
  levels (suc n) t =
      let next : List (Cell K) = added (look (found same t)) t in
      elim (ltb (missing next) (missing t)) [ true ↦ levels n next | false ↦ t ]

  -- the least table that is closed under `look`, read at a key
  unfoldable pub least : List K → K → Bool
  unfolding levels blank found
  least keys k = found same (levels (length keys) (blank keys)) k
