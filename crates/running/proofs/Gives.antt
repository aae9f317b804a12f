-- The loops over a sequence's words: which entries are dead, and what an alternative gives.
-- Assumes nothing.
use Rattle.std.proofs.Common.{◌≡◌, ℕ, Bool, true, false, cond, not, ◌&&◌, ◌||◌, List, ◌∷◌, sym, refl, ap, ◌∙◌, ap₂}
use mathlib.Core.Bool.{false≢true}
use Rattle.general.specs.Scan.{every}
use Rattle.general.specs.Tests.{some}
use Rattle.image.specs.Word.{payload, is_kind, is_entry}
use Rattle.library.specs.Library.{Entry, item, call, step, check, Alternative, entry_of}
use Rattle.library.proofs.Decode.{kind_is, call_entry}
use Rattle.walk.specs.Walk.{names_none}
use Rattle.callers.specs.Callers.{in_set}
use Rattle.running.specs.Runs.{is_dead, gives_by, runs_by}

-- ---- an entry

-- one that names a sequence is dead where that is not in the set
pub call_dead : (runs : List ℕ) (w : ℕ) → is_kind 9 w ≡ true → is_dead runs (entry_of w) ≡ not (in_set runs (payload w))
call_dead runs w e = ap (is_dead runs) (call_entry w (kind_is 9 w e))

-- a step or a check is never dead
pub item_alive : (runs : List ℕ) (w : ℕ) → is_entry w ≡ true → is_kind 9 w ≡ false → is_dead runs (entry_of w) ≡ false
item_alive runs w entry none = go (is_kind 8 w) (is_kind 13 w) refl refl
  where
    go : (a b : Bool) → is_kind 8 w ≡ a → is_kind 13 w ≡ b
        → is_dead runs (cond a (item (step (payload w))) (cond b (item (check (payload w))) (call (payload w)))) ≡ false
    go true b k m = refl
    go false true k m = refl
    go false false k m = absurd (false≢true (sym (ap₂ ◌||◌ (ap₂ ◌||◌ k none) m) ∙ entry))

-- ---- an alternative, and those after it

module _ (found : ℕ → Bool) where
  -- an entry that is not dead leaves the rest, and a dead one gives nothing
  pub gives_alive : (e : Entry) (es : Alternative) → names_none found e ≡ false → gives_by found (e ∷ es) ≡ gives_by found es
  unfolding every
  gives_alive e es alive = ap (λ (b : Bool). not b && gives_by found es) alive

  pub gives_dead : (e : Entry) (es : Alternative) → names_none found e ≡ true → gives_by found (e ∷ es) ≡ false
  unfolding every
  gives_dead e es dead = ap (λ (b : Bool). not b && gives_by found es) dead

  -- an alternative that gives a run is enough, and one that gives none leaves the rest
  pub runs_by_lem : (es : Alternative) (alts : List Alternative) (b : Bool) → gives_by found es ≡ b → runs_by found (es ∷ alts) ≡ (b || runs_by found alts)
  unfolding some
  runs_by_lem es alts b e = ap (λ (x : Bool). x || runs_by found alts) e
