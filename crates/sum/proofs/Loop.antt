-- The two sums that the code carries from word to word give the payload of the sum word.
-- Assumes nothing.
use Rattle.std.proofs.Common.{◌≡◌, ℕ, ◌+◌, ◌%◌, ◌^◌, ◌<◌, List, [], ◌∷◌, arith}
use Rattle.general.specs.Numbers.{total}
use Rattle.image.specs.Word.{running_sums, ordered_sum}
use Rattle.sum.specs.Sums.{with_word, sums_after}
use Rattle.sum.specs.declared.sums.Sums.{Sums}

values_after : (sums : Sums) (ws : List ℕ) → sums.values < 2 ^ 32
    → (sums_after sums ws).values ≡ (sums.values + total (running_sums sums.running ws)) % 2 ^ 32
unfolding running_sums total
values_after sums [] l = omega arith
values_after sums (w ∷ ws) l = omega (arith, values_after (with_word sums w) ws (omega arith))

pub sums_payload : (ws : List ℕ) → (sums_after (record { running = 0; values = 0 }) ws).values % 2 ^ 28 ≡ ordered_sum ws
sums_payload ws = omega (arith, values_after (record { running = 0; values = 0 }) ws (omega arith))
