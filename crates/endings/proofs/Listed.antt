-- The list of the sequences without a run that a sequence reaches: the one that is computed is that list, and no other list is.
-- It has: `listed_list`, `listed_is`; `list_short` and `list_starts`, between which its length is; `asked_listed`; `list_supports`.
-- Assumes nothing.
use Prim.Native.Nat.{ℕ, ◌≤◌, ◌<◌}
use mathlib.Core.Path.{◌≡◌, sym, subst}
use mathlib.Core.Logic.Iff
use mathlib.Core.Logic.{◌↔◌}
use mathlib.Core.List.Memᴰ
use mathlib.Core.List.{List, [], ◌∷◌, Memᴰ}
use native.Mathlib.Omega.{arith}
use lib.ListN.{length}
use Rattle.general.proofs.Rising.{passing_in, passing_rising, passing_short, rising_same}
use Rattle.library.specs.Library.{Library}
use Rattle.endings.specs.Endless.{Endless, Names, Reaches, itself, Listed, Supports}
use Rattle.endings.specs.Reached.{reaches, endless_list}
use Rattle.endings.proofs.Reached.{reaches_iff}
use Rattle.endings.proofs.Support.{reached_endless, listed_supports}

module _ (L : Library) (c : ℕ) where
  -- its members are what is reached, and it is in rising order
  list_exact : (d : ℕ) → Memᴰ d (endless_list L c) ↔ Reaches L c d
  unfolding endless_list
  list_exact d = (
    (λ m. (reaches_iff L c d).0 ((passing_in (reaches L c) (length L.sequences) d).0 m).1),
    λ r. (passing_in (reaches L c) (length L.sequences) d).1 ((reached_endless L r).sequence, (reaches_iff L c d).1 r),
  )

  pub listed_list : Listed L c (endless_list L c)
  unfolding endless_list
  listed_list = record { rising = passing_rising (reaches L c) (length L.sequences); exact = list_exact }

  -- the list is fixed by the sentence, and by nothing else
  pub listed_is : (xs : List ℕ) → Listed L c xs ↔ (xs ≡ endless_list L c)
  listed_is xs = (
    (λ listed. rising_same xs (endless_list L c) listed.rising listed_list.rising
        (λ d. Iff.trans (listed.exact d) (Iff.symm (list_exact d)))),
    λ e. subst (Listed L c) (sym e) listed_list,
  )

  -- at most as many members as there are sequences, and at least the asked one
  pub list_short : length (endless_list L c) ≤ length L.sequences
  unfolding endless_list
  list_short = passing_short _ _

  pub asked_listed : Endless L c → Memᴰ c (endless_list L c)
  asked_listed endless = (list_exact c).1 (itself endless)

  pub list_starts : Endless L c → 0 < length (endless_list L c)
  list_starts endless = go (endless_list L c) (asked_listed endless)
    where
      go : (xs : List ℕ) → Memᴰ c xs → 0 < length xs
      go [] m = absurd (Memᴰ.not-nil m)
      go (x ∷ xs) m = omega arith

  -- where every entry that names a sequence names one of the library, the list shows what it is held for
  pub list_supports : ((d e : ℕ) → Names L d e → e < length L.sequences) → Supports L (endless_list L c)
  list_supports below = listed_supports L below c (endless_list L c) listed_list
