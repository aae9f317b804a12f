-- The links of a chain that stands for a run of a small library have room in their words, and so the words tell the links.
use Prim.Native.Nat.{ℕ, zero, suc, ◌<◌}
use mathlib.Core.Path.{◌≡◌}
use mathlib.Core.List.{List, [], ◌∷◌}
use native.Mathlib.Omega.{arith}
use lib.ListN.{length}
use Rattle.general.specs.Tests.{All}
use Rattle.library.specs.Accepted.{Small}
use Rattle.rules.specs.Checked.{checked}
use Rattle.library.specs.Library.{Library, Sequence, Entry, item, call, library_of, Item, entry_at}
use Rattle.image.specs.declared.answer.Head.{Head}
use Rattle.library.proofs.Sizes.{small}
use Rattle.runs.specs.Run.{alternatives_of, alternative_of}
use Rattle.runs.specs.Touch.{Question}
use Rattle.chains.specs.Link.{touch_link, untouched_link, Chain, Fits}
use Rattle.chains.specs.Stands.{EntryTouches, StandsFor}
use Rattle.std.specs.Prelude.{Ok}

-- only a sequence of the library has an alternative
in_library : (S : List Sequence) (c i : ℕ) → i < length (alternatives_of S c) → c < length S
in_library [] c i l = absurd (omega arith)
in_library (s ∷ S) zero i l = omega arith
in_library (s ∷ S) (suc c) i l = omega (arith, in_library S c i l)

none_fits : (ls : Chain) → ls ≡ [] → All Fits ls
none_fits ls ends = rw ends tt

module _ (L : Library) (q : Question) (f : ℕ) (size : Small L) where
  after_fits : (ls : Chain) (after : List Item → Type 0) → ((u : List Item) → after u → All Fits ls) → (e : Entry) (u : List Item)
      → EntryTouches L q f ls after e u → All Fits ls
  after_fits ls after fit (item a) u (ends, one, touch) = none_fits ls ends
  after_fits ls after fit (call d) u (about, stands, touch) = fit u stands

  stands_fits : (ls : Chain) (w : List Item) → StandsFor L q f ls w → All Fits ls
  stands_fits [] w stands = absurd stands
  stands_fits (touch_link c i p ∷ ls) w (lt, k) =
      let room = size.entries c i in
      let here = k.listed in (
        (omega (arith, in_library L.sequences c i lt, size.sequences), omega (arith, size.alternatives c), omega arith),
        after_fits ls (λ u. StandsFor L q f ls u) (stands_fits ls) (entry_at (alternative_of L.sequences c i) p) k.given k.touching,
      )
  stands_fits (untouched_link c i ∷ ls) w (lt, ends, given, leaves) = (
    (omega (arith, in_library L.sequences c i lt, size.sequences), omega (arith, size.alternatives c)),
    none_fits ls ends,
  )

-- a chain for an accepted image
pub accepted_fits : (image : List ℕ) (h : Head) (q : Question) (f : ℕ) (ls : Chain) (w : List Item) → checked image ≡ Ok h
    → StandsFor (library_of image) q f ls w → All Fits ls
accepted_fits image h q f ls w accepted stands = stands_fits (library_of image) q f (small image h accepted) ls w stands
