-- What a count as the card call's answer says.
-- Assumes nothing.
use Prim.Native.Nat.{ℕ, ◌*◌, ◌≤◌}
use native.Mathlib.Omega.{arith}
use mathlib.Core.Path.{◌≡◌, refl}
use mathlib.Core.Bool.{Bool, true, false, cond}
use lib.Dec.{ltb}
use borrow.Author.Tests.{ltb-false}
use Rattle.std.specs.Prelude.{Ok, Err}
use Rattle.image.specs.declared.answer.Head.{Head}
use Rattle.image.specs.declared.answer.Refusal.TheVariants.{CardArea}
use Rattle.cards.specs.Layout.{card_words}
use Rattle.card.specs.Answer.{cards_given}
use Rattle.image.specs.Answer.{Checked}

-- where the call answers a count, the image is accepted with that count, and the area has room
pub filled : (found : Checked) (room n : ℕ) → cards_given found room ≡ Ok n
    → (h : Head) × (found ≡ Ok h) × (h.sequences ≡ n) × (card_words * n ≤ room)
filled (Err r) room n e = let no : ◌≡◌ {A = ℕ} 0 1 = cc in absurd (omega arith)
filled (Ok h) room n e = go (ltb room (card_words * h.sequences)) refl e
  where
    go : (b : Bool) → ltb room (card_words * h.sequences) ≡ b → cond b (Err CardArea) (Ok h.sequences) ≡ Ok n
        → (g : Head) × (◌≡◌ {A = Checked} (Ok h) (Ok g)) × (g.sequences ≡ n) × (card_words * n ≤ room)
    go true t q = let no : ◌≡◌ {A = ℕ} 0 1 = cc in absurd (omega arith)
    go false t q =
        let same : h.sequences ≡ n = cc in
        (h, refl, same, omega (arith, ltb-false room (card_words * h.sequences) t))
