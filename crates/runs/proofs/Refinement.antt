-- A primitive refinement of a compound task, as printed in 001, is exactly a run of its sequence.
use Prim.Native.Nat.{ℕ}
use mathlib.Core.Path.{refl}
use mathlib.Core.Logic.{◌↔◌}
use mathlib.Core.List.{List, [], ◌∷◌, ◌++◌, map, map-append, append_assoc, append-nil}
use Rattle.library.specs.Library.{Library, Sequence, Entry, item, Item}
use Rattle.runs.specs.Run.{Run, Gives, nothing, by_item, by_call, alternative_of}
use Rattle.runs.specs.Domain.{domain_of}
use Rattle.runs.specs.Refinement.{Network, Decomposes, Transforms, by_none, by_method, Refines}
use Rattle.runs.proofs.Run.{gives_append, gives_split, call_iff}

module _ (S : List Sequence) where
  -- what a network gives after a decomposition it gave before
  decomposed_gives : {c i : ℕ} {tn₁ tn₂ : Network} {w : List Item} → Decomposes S c i tn₁ tn₂ → Gives S tn₂ w → Gives S tn₁ w
  decomposed_gives {c} {i} d g =
      let p = gives_split S d.before (rw d.decomposed at g) in
      let q = gives_split S (alternative_of S c i) p.3 in
      rw (d.task, p.4) (gives_append S p.2 (by_call i d.method q.2 q.3 q.4))

  transformed_gives : {tn tn' : Network} {w : List Item} → Transforms S tn tn' → Gives S tn' w → Gives S tn w
  transformed_gives by_none g = g
  transformed_gives (by_method d t) g = decomposed_gives d (transformed_gives t g)

  -- steps give themselves
  steps_give : (w : List Item) → Gives S (map item w) w
  steps_give [] = nothing
  steps_give (a ∷ w) = by_item (steps_give w)

  -- entries are transformed into what they give, wherever they stand in a network
  gives_transforms : {es : List Entry} {w : List Item} → Gives S es w → (before after : Network) {tn : Network}
      → Transforms S (before ++ (map item w ++ after)) tn → Transforms S (before ++ (es ++ after)) tn
  gives_transforms nothing before after t = t
  gives_transforms (by_item {a = a} {es = es} {w = w} g) before after t =
      rw (← append_assoc before (item a ∷ []) (es ++ after))
      (gives_transforms g (before ++ (item a ∷ [])) after (rw (append_assoc before (item a ∷ []) (map item w ++ after)) t))
  gives_transforms (by_call {es = es} {u = u} {v = v} i lt g h e) before after {tn} t =
      by_method {tn₃ = tn} (record { method = lt; before = before; after = es ++ after; task = refl; decomposed = refl })
      (gives_transforms g before (es ++ after)
      (rw (← append_assoc before (map item u) (es ++ after))
      (gives_transforms h (before ++ map item u) after (simp append_assoc (simp (e, map-append, append_assoc) at t)))))

-- a primitive refinement of c is a run of c, and a run of c a primitive refinement
pub refinement_run : (L : Library) (c : ℕ) (w : List Item) → Refines (domain_of L) c w ↔ Run L c w
refinement_run L c w =
    let S = L.sequences in (
      (λ t. (call_iff S c w).0 (transformed_gives S t (steps_give S w))),
      λ r. gives_transforms S ((call_iff S c w).1 r) [] [] (rw append-nil by_none),
    )
