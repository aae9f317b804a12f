-- The two loops over a list's members: the answer is that from here on, and each turn takes one member.
-- Assumes nothing.
use Prim.Native.Nat.{ℕ, ◌+◌, ◌≤◌, ◌<◌}
use native.Mathlib.Numerals.{add-one}
use mathlib.Core.Path.{◌≡◌, refl, sym, ap, ◌∙◌}
use mathlib.Core.Bool.{Bool, ◌||◌}
use mathlib.Core.List.{List, [], ◌∷◌}
use lib.ListN.{length, get_or, drop, drop_of_length-le}
use lib.Seq.{drop-cons}
use Rattle.std.specs.List.{list_any}
use Rattle.general.specs.Tests.{some}
use Rattle.row.specs.declared.words.Row.{Row}
use Rattle.list.specs.Fold.{member_row, followed_row, folded_from, list_row}

-- the members from index i on
from : (ms : List ℕ) (i : ℕ) → i < length ms → drop i ms ≡ get_or ms i 0 ∷ drop (i + 1) ms
from ms i l = rw (add-one i, drop-cons ms i 0 l)

-- ---- the fold

pub record FoldAt (area : List ℕ) (k : ℕ) (ms : List ℕ) (x : Row) (i : ℕ) : Type 0 where
  pub rest : list_row area k ms ≡ folded_from area k x (drop i ms)

module _ (area : List ℕ) (k : ℕ) (ms : List ℕ) where
  pub fold_next : (x y : Row) (i : ℕ) → FoldAt area k ms x i → i < length ms → y ≡ followed_row x (member_row area k (get_or ms i 0))
      → FoldAt area k ms y (i + 1)
  unfolding folded_from
  fold_next x y i at l e =
      record { rest = at.rest ∙ ap (folded_from area k x) (from ms i l) ∙ ap (λ (r : Row). folded_from area k r (drop (i + 1) ms)) (sym e) }

  pub fold_end : (x : Row) (i : ℕ) → FoldAt area k ms x i → length ms ≤ i → x ≡ list_row area k ms
  unfolding folded_from
  fold_end x i at l = sym (at.rest ∙ ap (folded_from area k x) (drop_of_length-le ms {i = i} l))

-- ---- a member that is not below the number of sequences

-- `some` is std's `list_any`
pub any_some : (p : ℕ → Bool) (ms : List ℕ) → list_any p ms ≡ some p ms
unfolding some
any_some p [] = refl
any_some p (m ∷ ms) = ap (λ (b : Bool). p m || b) (any_some p ms)
