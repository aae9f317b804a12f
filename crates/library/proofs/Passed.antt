-- What an answer that is no refusal says of the test that it passed, and of the next word of the walk.
-- Assumes nothing.
use Prim.Native.Nat.{ℕ, suc, ◌≤◌}
use native.Mathlib.Omega.{arith}
use mathlib.Core.Path.{◌≡◌, refl}
use mathlib.Core.Bool.{Bool, true, false, cond, ◌||◌}
use mathlib.Core.List.{List, [], ◌∷◌}
use lib.Dec.{ltb}
use borrow.Author.Tests.{ltb-false}
use Rattle.rules.specs.Rules.{Before, fault_at}
use Rattle.rules.specs.Quick.{after}
use Rattle.rules.specs.Checked.{at_word}
use Rattle.rules.specs.Walk.{walk}
use Rattle.image.specs.declared.answer.Head.{Head}
use Rattle.image.specs.declared.answer.Refusal.{Refusal}
use Rattle.image.specs.declared.answer.Refusal.TheVariants.{Missing}
use Rattle.general.proofs.Bools.{nor_left, nor_right}
use Rattle.std.specs.Prelude.{Option, Some, None, Ok, Err}
use Rattle.image.specs.Answer.{Checked}

refused_accepted : {r : Refusal} {h : Head} → ◌≡◌ {A = Checked} (Err r) (Ok h) → ⊥
refused_accepted {r} {h} e = let z : ◌≡◌ {A = ℕ} 0 1 = cc in omega arith

same_head : {h g : Head} → ◌≡◌ {A = Checked} (Ok h) (Ok g) → h ≡ g
same_head e = cc

-- a test that refuses where it fails
pub passed : (b : Bool) (x : Checked) (r : Refusal) (h : Head) → cond b x (Err r) ≡ Ok h → (b ≡ true) × (x ≡ Ok h)
passed true x r h e = (refl, e)
passed false x r h e = absurd (refused_accepted e)

passed_not : (b : Bool) (r : Refusal) (g h : Head) → cond b (Err r) (Ok g) ≡ Ok h → (b ≡ false) × (g ≡ h)
passed_not true r g h e = absurd (refused_accepted e)
passed_not false r g h e = (refl, same_head e)

pub passed_word : (f : Option Refusal) (x : Checked) (h : Head) → at_word f x ≡ Ok h → (f ≡ None) × (x ≡ Ok h)
passed_word (Some r) x h e = absurd (refused_accepted e)
passed_word None x h e = (refl, e)

pub walk_cons : (h : Head) (e : Before) (p w : ℕ) (ws : List ℕ) (g : Head) → walk h e p (w ∷ ws) ≡ Ok g
    → (fault_at h e p w ≡ None) × (walk h (after e w) (suc p) ws ≡ Ok g)
unfolding walk
walk_cons h e p w ws g a = passed_word (fault_at h e p w) (walk h (after e w) (suc p) ws) g a

pub walk_nil : (h : Head) (e : Before) (p : ℕ) (g : Head) → walk h e p [] ≡ Ok g
    → (h ≡ g) × (h.steps ≤ e.steps) × (h.sequences ≤ e.sequences)
unfolding walk
walk_nil h e p g a =
    let n = passed_not (ltb e.steps h.steps || ltb e.sequences h.sequences) (Missing p) h g a in
    let steps = ltb e.steps h.steps in
    let sequences = ltb e.sequences h.sequences in
    (n.1, ltb-false _ _ (nor_left steps sequences n.0), ltb-false _ _ (nor_right steps sequences n.0))
