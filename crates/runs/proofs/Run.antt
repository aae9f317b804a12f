-- Laws of runs: what entries give, taken apart and put together, and one call.
use Prim.Native.Nat.{ℕ}
use mathlib.Core.Path.{◌≡◌, refl, sym, ◌∙◌, ap}
use mathlib.Core.Logic.{◌↔◌}
use mathlib.Core.List.{List, [], ◌∷◌, ◌++◌, append_assoc, append-nil}
use Rattle.library.specs.Library.{Sequence, Entry, item, call, Item}
use Rattle.runs.specs.Run.{RunOf, Gives, nothing, by_item, by_call}

-- entries joined give the lists joined, and nothing else
pub gives_append : (S : List Sequence) {es fs : List Entry} {u v : List Item} → Gives S es u → Gives S fs v → Gives S (es ++ fs) (u ++ v)
gives_append S nothing h = h
gives_append S (by_item g) h = by_item (gives_append S g h)
gives_append S {v = z} (by_call {u = u} {v = v} i lt g g' e) h =
    by_call i lt g (gives_append S g' h) (ap (λ l. l ++ z) e ∙ append_assoc u v z)

pub gives_split : (S : List Sequence) (es : List Entry) {fs : List Entry} {w : List Item} → Gives S (es ++ fs) w
    → (u : List Item) × (v : List Item) × Gives S es u × Gives S fs v × (w ≡ u ++ v)
gives_split S [] {w = w} g = ([], w, nothing, g, refl)
gives_split S (item a ∷ es) (by_item g) =
    let r = gives_split S es g in
    (a ∷ r.0, r.1, by_item r.2, r.3, ap (λ l. a ∷ l) r.4)
gives_split S (call c ∷ es) (by_call {u = u} i lt g g' e) =
    let r = gives_split S es g' in
    (u ++ r.0, r.1, by_call i lt g r.2 refl, r.3, e ∙ (ap (λ l. u ++ l) r.4 ∙ sym (append_assoc u r.0 r.1)))

-- a call alone gives the runs of its sequence
pub call_iff : (S : List Sequence) (c : ℕ) (w : List Item) → Gives S (call c ∷ []) w ↔ RunOf S c w
call_iff S c w = (there, λ r. by_call r.alternative r.listed r.given nothing (sym (append-nil w)))
  where
    there : Gives S (call c ∷ []) w → RunOf S c w
    there (by_call {u = u} i lt g nothing e) = record { alternative = i; listed = lt; given = rw (sym (append-nil u) ∙ sym e) at g }
