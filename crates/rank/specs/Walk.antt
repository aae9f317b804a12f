-- Ranks and choices in the form that a loop follows: what the alternatives or entries from here on make of what is known so far, and the
-- link of the newest alternative that has one.
use Prim.Native.Nat.{ℕ, suc, min, max}
use Rattle.std.specs.Prelude.{Bool, ◌&&◌, length, get_or}
use Rattle.std.proofs.Math.Bool.{true, cond}
use mathlib.Core.List.{List, [], ◌∷◌}
use Rattle.std.proofs.Math.Dec.{leb, ltb}
use Rattle.library.specs.Library.{Alternative, Entry}
use Rattle.general.specs.Scan.{every}
use Rattle.chains.specs.Link.{Link, touch_link}
use Rattle.chains.specs.Answer.{newest}

-- the rank r of a sequence, lowered by the alternatives from here on
unfoldable pub lowered_from : (Alternative → ℕ) → ℕ → List Alternative → ℕ
lowered_from value r [] = r
lowered_from value r (es ∷ alts) = lowered_from value (min r (suc (value es))) alts

-- the greatest depth d so far, and of the entries from here on; no rank from the first entry on that has none
unfoldable pub depth_from : ℕ → (Entry → ℕ) → ℕ → List Entry → ℕ
depth_from none rank d [] = d
depth_from none rank d (e ∷ es) = cond (ltb (rank e) none) (depth_from none rank (max d (rank e)) es) none

-- what a link asks of the entries of an alternative: `none` stands for no rank, an entry has a rank, and those ahead of the position and
-- those behind it pass tests
module _ (none : ℕ) (rank : Entry → ℕ) (ahead behind : Entry → Bool) where
  -- the fewest links so far. `floor` is 0 as long as all entries pass as those ahead of a position, and `none` from the first that does not;
  -- an entry that fails as one behind rules out the positions so far
  unfoldable pub fewest_from : ℕ → ℕ → List Entry → ℕ
  fewest_from floor best [] = best
  fewest_from floor best (e ∷ es) = fewest_from (cond (ahead e) floor none) (min (cond (behind e) best none) (max (rank e) floor)) es

  -- the first position from here on, of which the first is i, that comes to no more than k; otherwise the position after the last
  unfoldable pub position_from : ℕ → Bool → ℕ → List Entry → ℕ
  unfolding every
  position_from k ok i [] = i
  position_from k ok i (e ∷ es) =
      let later : ℕ = position_from k (ok && ahead e) (suc i) es in
      cond ((ok && every behind es) && leb (rank e) k) i later

  -- the link of sequence c: the newest alternative that has such a position, and its first one
  unfoldable pub newest_link : ℕ → ℕ → List Alternative → Link
  unfolding newest position_from
  newest_link c k alts =
      let position : Alternative → ℕ = position_from k true 0 in
      let i : ℕ = newest (λ es. ltb (position es) (length es)) alts in
      touch_link c i (position (get_or alts i []))

-- the first index from which on all entries pass, where the entries so far are i and `start` is the index for those
unfoldable pub tail_from : (Entry → Bool) → ℕ → ℕ → List Entry → ℕ
tail_from test i start [] = start
tail_from test i start (e ∷ es) = tail_from test (suc i) (cond (test e) start (suc i)) es
