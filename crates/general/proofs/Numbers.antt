-- Lists of numbers: an area that is made of zeros, a slice that goes to the end. Numbers that have the same remainder.
-- Assumes nothing.
use Prim.Native.Nat.{ℕ, zero, suc, ◌+◌, ◌*◌, ◌-◌, ◌%◌}
use native.Mathlib.Omega.{arith}
use native.Mathlib.Nat.{add-mul-mod_self_right}
use mathlib.Core.Path.{◌≡◌, refl, sym, ap, ◌∙◌}
use mathlib.Core.List.{List}
use lib.ListN.{length, replicate, take, drop, length-drop}
use lib.Seq.{take_all}
use Rattle.general.specs.Numbers.{Zeros}

pub zeros : (n : ℕ) → Zeros (replicate n 0)
zeros zero k = refl
zeros (suc n) zero = refl
zeros (suc n) (suc k) = zeros n k

-- a slice from i on is the whole rest
pub whole_rest : (i : ℕ) (ws : List ℕ) → take (length ws - i) (drop i ws) ≡ drop i ws
whole_rest i ws = take_all (length ws - i) (drop i ws) (omega (arith, length-drop i ws))

-- numbers that differ by multiples of m have the same remainder
pub same_remainder : (m x y j k : ℕ) → x + j * m ≡ y + k * m → x % m ≡ y % m
same_remainder m x y j k e = sym (add-mul-mod_self_right x j m) ∙ ap (λ (n : ℕ). n % m) e ∙ add-mul-mod_self_right y k m
