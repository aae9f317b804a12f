-- "A step's clears are from then on simply its clear words" (document 02, request 1): in an accepted library a step clears a fact, as its
-- touch on the last side has it, exactly where one of its clear words names the fact.
-- Assumes nothing.
use Prim.Native.Nat.{ℕ}
use mathlib.Core.Path.{◌≡◌, refl, sym, ap, ◌∙◌}
use mathlib.Core.Logic.{◌↔◌}
use mathlib.Core.Bool.{Bool, true, false, cond, ◌&&◌, false≢true}
use mathlib.Core.List.{List, []}
use Rattle.general.proofs.Tests.{all_default}
use Rattle.image.specs.declared.answer.Head.{Head}
use Rattle.rules.specs.Checked.{Accepts}
use Rattle.library.specs.Library.{has, Step, Item, step, check, library_of}
use Rattle.library.specs.Accepted.{Apart}
use Rattle.library.proofs.Decode.{has_none}
use Rattle.library.proofs.Accepted.{counted}
use Rattle.runs.specs.Domain.{action_of, check_of, no_step}
use Rattle.runs.specs.Touch.{present, absent, untouched, last, touch, item_touch}
use Rattle.runs.specs.Algebra.{same_mark}

mark_absent : (sets clears : Bool) → sets && clears ≡ false → (cond sets present (cond clears absent untouched) ≡ absent) ↔ (clears ≡ true)
mark_absent true true apart = absurd (false≢true (sym apart))
mark_absent true false apart = ((λ e. absurd (false≢true (ap (same_mark absent) e))), λ e. absurd (false≢true e))
mark_absent false true apart = ((λ e. refl), λ e. refl)
mark_absent false false apart = ((λ e. absurd (false≢true (ap (same_mark absent) e))), λ e. absurd (false≢true e))

step_cleared : (a : Step) (f : ℕ) → Apart a → (touch last a f ≡ absent) ↔ (has f a.clears ≡ true)
step_cleared a f apart = mark_absent (has f a.sets) (has f a.clears) (apart f)

-- what sets nothing clears nothing that it sets
unset_apart : (a : Step) → a.sets ≡ [] → Apart a
unset_apart a none f = ap (λ (b : Bool). b && has f a.clears) (ap (has f) none ∙ has_none f)

pub cleared_iff : (image : List ℕ) (h : Head) → Accepts image h → (x : Item) (f : ℕ)
    → (item_touch (library_of image) last f x ≡ absent) ↔ (has f (action_of (library_of image) x).clears ≡ true)
cleared_iff image h accepted (step a) f =
    step_cleared (action_of (library_of image) (step a)) f
    (all_default Apart no_step (unset_apart no_step refl) (library_of image).steps (counted image h accepted).apart a)
cleared_iff image h accepted (check g) f = step_cleared (check_of g) f (unset_apart (check_of g) refl)
