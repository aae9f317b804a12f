-- The sum word's payload as a sum over the words, each with its weight: that it is the payload, and what another word makes of it.
-- Assumes nothing.
use Prim.Native.Nat.{ℕ, zero, suc, ◌+◌, ◌*◌, ◌/◌, ◌%◌, ◌^◌, ◌<◌}
use native.Mathlib.Nat.{zero-mul, suc-mul, mul-zero, mul-add, mod-add-mod}
use native.Mathlib.Omega.{arith}
use mathlib.Core.Path.{◌≡◌, ap, ◌∙◌}
use mathlib.Core.List.{List, [], ◌∷◌}
use lib.ListN.{length, get_or, set, drop, length-set}
use Rattle.general.specs.Numbers.{total}
use Rattle.general.proofs.Numbers.{same_remainder}
use Rattle.image.specs.Word.{counts_as, running_sums, ordered_sum}

-- b without wrap: a word counts once in its own running sum and in each after it, so as often as there are words from it on
unfoldable pub weighted : List ℕ → ℕ
weighted [] = 0
weighted (w ∷ ws) = length (w ∷ ws) * counts_as w + weighted ws

-- the running sums with the wraps, where s is the running sum before the words and b the sum of its values
weighted_wraps : (s b : ℕ) (ws : List ℕ) → (b + total (running_sums (s % 2 ^ 32) ws)) % 2 ^ 32 ≡ (b + length ws * s + weighted ws) % 2 ^ 32
unfolding total running_sums weighted
weighted_wraps s b [] = omega (arith, zero-mul s)
weighted_wraps s b (w ∷ ws) =
    let m = 2 ^ 32 in
    let v = counts_as w in
    let rest = total (running_sums ((s + v) % m) ws) in
    rw (mod-add-mod s m v)
    (same_remainder m (b + ((s + v) % m + rest)) (b + (s + v) + rest) ((s + v) / m) 0 (omega arith)
    ∙ weighted_wraps (s + v) (b + (s + v)) ws
    ∙ ap (λ (x : ℕ). x % m) (omega (arith, mul-add (length ws) s v, suc-mul (length ws) s, suc-mul (length ws) v)))

-- "b mod 2^28": the wrap at 2^32 makes no difference to it
pub payload_weighted : (ws : List ℕ) → ordered_sum ws ≡ weighted ws % 2 ^ 28
payload_weighted ws = omega (arith, weighted_wraps 0 0 ws, mul-zero (length ws))

-- with another word at p
pub weighted_set : (ws : List ℕ) (p w : ℕ) → p < length ws
    → weighted (set ws p w) + length (drop p ws) * counts_as (get_or ws p 0) ≡ weighted ws + length (drop p ws) * counts_as w
unfolding weighted
weighted_set [] p w l = absurd (omega arith)
weighted_set (v ∷ ws) zero w l = omega arith
weighted_set (v ∷ ws) (suc p) w l = rw (length-set ws p w) (omega (arith, weighted_set ws p w (omega arith)))
