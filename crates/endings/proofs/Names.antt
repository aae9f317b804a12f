-- Which sequences a sequence names: the test is the sentence, and in an accepted image they are sequences of its library.
-- It has: `named_iff` for an alternative, `names_iff` for a sequence; `accepted_names`.
-- Assumes nothing.
use Prim.Native.Nat.{ℕ, ◌<◌}
use mathlib.Core.Path.{◌≡◌, refl, sym, ap, ◌∙◌}
use mathlib.Core.Logic.{◌↔◌}
use mathlib.Core.Bool.{true, false≢true}
use mathlib.Core.List.Memᴰ
use mathlib.Core.List.{List, [], Memᴰ}
use lib.ListN.{length, get_or}
use borrow.Author.Tests.{eq-eqb, eqb-true}
use Rattle.general.specs.Tests.{All, some}
use Rattle.general.proofs.Tests.{some_found, some_intro, some_place, some_at, all_default, all_in_lem}
use Rattle.image.specs.declared.answer.Head.{Head}
use Rattle.rules.specs.Checked.{checked}
use Rattle.library.specs.Library.{Library, Alternative, Sequence, Entry, item, call, library_of}
use Rattle.library.specs.Calls.{is_call_of, calls_of}
use Rattle.library.specs.Accepted.{Named}
use Rattle.library.proofs.Accepted.{counted}
use Rattle.runs.specs.Run.{alternatives_of}
use Rattle.endings.specs.Endless.{Names}
use Rattle.std.specs.Prelude.{Ok}

-- an entry, an alternative, a sequence
pub is_call_iff : (d : ℕ) (e : Entry) → (is_call_of d e ≡ true) ↔ (call d ≡ e)
is_call_iff d e = (there e, λ same. sym (ap (is_call_of d) same) ∙ eq-eqb d d refl)
  where
    there : (e : Entry) → is_call_of d e ≡ true → call d ≡ e
    there (item x) h = absurd (false≢true h)
    there (call c) h = ap call (sym (eqb-true c d h))

pub named_iff : (d : ℕ) (es : Alternative) → (some (is_call_of d) es ≡ true) ↔ Memᴰ (call d) es
named_iff d es = (
  (λ h. let (e, m, called) = some_found (is_call_of d) es h in Memᴰ.cast ((is_call_iff d e).0 called) m),
  λ m. some_intro (is_call_of d) m ((is_call_iff d (call d)).1 refl),
)

pub names_iff : (L : Library) (c d : ℕ) → (calls_of (alternatives_of L.sequences c) d ≡ true) ↔ Names L c d
names_iff L c d = (
  (λ h. let (i, lt, called) = some_place (some (is_call_of d)) alternatives [] h in
      record { alternative = i; listed = lt; named = (named_iff d (get_or alternatives i [])).0 called }),
  λ n. some_at (some (is_call_of d)) alternatives [] n.alternative n.listed ((named_iff d (get_or alternatives n.alternative [])).1 n.named),
)
  where
    alternatives : Sequence
    alternatives = alternatives_of L.sequences c

-- each entry of an accepted image that names a sequence names one of its library
pub accepted_names : (image : List ℕ) (h : Head) → checked image ≡ Ok h → (d e : ℕ) → Names (library_of image) d e
    → e < length (library_of image).sequences
accepted_names image h accepted d e names =
    let known = counted image h accepted in
    let alternatives = all_default (All (All (Named h))) [] tt (library_of image).sequences known.named d in
    let entries = all_default (All (Named h)) [] tt (alternatives_of (library_of image).sequences d) alternatives names.alternative in
    rw known.sequences (all_in_lem (Named h) _ entries (call e) names.named)
