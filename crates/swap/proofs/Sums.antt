-- Two words of a list change places: the sum word's payload is then another, if what they count as is different and close (`payload_apart`).
-- Assumes nothing.
use Prim.Native.Nat.{ℕ, ◌+◌, ◌*◌, ◌-◌, ◌%◌, ◌^◌, ◌≤◌, ◌<◌}
use native.Mathlib.Nat.{mul-add, add-mul, mul-pos, mul-le-mul}
use native.Mathlib.Decide.{dec_lt}
use native.Mathlib.Omega.{arith}
use mathlib.Core.Path.{◌≡◌, sym, ap, ◌∙◌}
use mathlib.Core.Logic.{by_cases}
use mathlib.Core.List.{List}
use lib.ListN.{length, get_or, set, length-set, length-drop}
use lib.Seq.{get_or-set_other}
use Rattle.image.specs.Word.{counts_as, ordered_sum}
use Rattle.image.proofs.Sum.{weighted, payload_weighted, weighted_set}
use Rattle.swap.specs.Swapped.{swapped}

-- ---- numbers

-- different numbers, neither of which is 8,192 or more above the other: the product of two such differences is below 2^28
pub record Close (x y : ℕ) : Type 0 where
  pub differ : x ≡ y → ⊥
  pub one_low : x < y + 8192
  pub other_low : y < x + 8192

-- p is q, but with a and c times each other's weight, x and y
abbrev Crossed : (p q x y a c : ℕ) → Type 0
Crossed p q x y a c = p + (x * a + y * c) ≡ q + (x * c + y * a)

-- the difference is a product
crossed_ahead : (p q y d a e : ℕ) → Crossed p q (y + d) y a (a + e) → p ≡ q + d * e
crossed_ahead p q y d a e same = omega (arith, add-mul y d a, add-mul y d (a + e), mul-add y a e, mul-add d a e)

product_apart : (p q d e : ℕ) → p ≡ q + d * e → 0 < d → 0 < e → d < 8192 → e < 8192 → p % 2 ^ 28 ≡ q % 2 ^ 28 → ⊥
product_apart p q d e is d_some e_some d_low e_low equal = omega (arith, mul-pos d_some e_some, mul-le-mul d_low e_low)

-- where the first weight is the greater, and the first number the lesser
ordered_apart : (p q x y a c : ℕ) → y < x → a < c → Close x y → Close a c → Crossed p q x y a c → p % 2 ^ 28 ≡ q % 2 ^ 28 → ⊥
ordered_apart p q x y a c l u xy ac same =
    let x_is : y + (x - y) ≡ x = omega arith in
    let c_is : a + (c - a) ≡ c = omega arith in
    product_apart p q (x - y) (c - a) (crossed_ahead p q y (x - y) a (c - a) (rw (x_is, c_is) same)) (omega arith) (omega arith) (omega arith) (omega arith)

-- the numbers in either order: p and q change places with them
falling_apart : (p q x y a c : ℕ) → y < x → Close x y → Close a c → Crossed p q x y a c → p % 2 ^ 28 ≡ q % 2 ^ 28 → ⊥
falling_apart p q x y a c l xy ac same equal =
    by_cases (dec_lt a c) (λ u. ordered_apart p q x y a c l u xy ac same equal)
    (λ u. ordered_apart q p x y c a l (omega arith) xy (omega arith) (sym same) (sym equal))

-- the weights in either order: the numbers change places with them
crossed_apart : (p q x y a c : ℕ) → Close x y → Close a c → Crossed p q x y a c → p % 2 ^ 28 ≡ q % 2 ^ 28 → ⊥
crossed_apart p q x y a c xy ac same equal =
    by_cases (dec_lt y x) (λ l. falling_apart p q x y a c l xy ac same equal)
    (λ l. falling_apart p q y x c a (omega arith) (omega arith) (omega arith) (omega arith) equal)

-- ---- the payload

-- two words that change places get each other's weights
weighted_swapped : (ws : List ℕ) (i j : ℕ) → i < length ws → j < length ws → (i ≡ j → ⊥)
    → Crossed (weighted (swapped ws i j)) (weighted ws) (length ws - i) (length ws - j) (counts_as (get_or ws i 0)) (counts_as (get_or ws j 0))
weighted_swapped ws i j l u other =
    let once = set ws i (get_or ws j 0) in
    let first = weighted_set ws i (get_or ws j 0) l in
    let second = weighted_set once j (get_or ws i 0) (omega (arith, length-set ws i (get_or ws j 0))) in
    let kept = get_or-set_other ws i j (get_or ws j 0) 0 (λ e. other (sym e)) in
    omega (arith, rw (length-drop i ws) at first, rw (length-drop j once, length-set ws i (get_or ws j 0), kept) at second)

pub payload_apart : (ws : List ℕ) (i j : ℕ) → i < length ws → j < length ws → length ws ≤ 8192
    → Close (counts_as (get_or ws i 0)) (counts_as (get_or ws j 0)) → ordered_sum (swapped ws i j) ≡ ordered_sum ws → ⊥
payload_apart ws i j l u high close same =
    let other : i ≡ j → ⊥ = λ e. close.differ (ap (λ (p : ℕ). counts_as (get_or ws p 0)) e) in
    crossed_apart (weighted (swapped ws i j)) (weighted ws) (length ws - i) (length ws - j) _ _ (omega arith) close (weighted_swapped ws i j l u other)
    (sym (payload_weighted (swapped ws i j)) ∙ same ∙ payload_weighted ws)
