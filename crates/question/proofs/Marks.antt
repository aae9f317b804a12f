-- A mark that is given as a number is asked for as the number is.
-- It has: a number above 3 (`mark_above`); the mark's number (`number_mark`); what stands by a number (`number_by`); whether it is the number of a
-- mark (`number_same`).
-- Assumes nothing.
use Prim.Native.Nat.{ℕ, zero, suc, min}
use native.Mathlib.Omega.{arith}
use mathlib.Core.Path.{◌≡◌, refl, sym, ap, ◌∙◌}
use mathlib.Core.Bool.{false, cond}
use mathlib.Core.Logic.{◌≢◌}
use lib.Dec.{eqb}
use borrow.Author.Tests.{ne_eqb}
use Rattle.question.specs.Asked.{mark_number, mark_from, same_mark, by_mark}
use Rattle.question.specs.declared.asked.Mark.{Mark}
use Rattle.question.specs.declared.asked.Mark.TheVariants.{Present, Absent, Untouched, Run, Other}

-- no number above 3 is that of one of the four marks
module _ (n : ℕ) where
  abbrev above : ℕ
  above = suc (suc (suc (suc n)))

  not_0 : eqb above 0 ≡ false
  not_0 = ne_eqb above 0 (λ e. omega arith)

  not_1 : eqb above 1 ≡ false
  not_1 = ne_eqb above 1 (λ e. omega arith)

  not_2 : eqb above 2 ≡ false
  not_2 = ne_eqb above 2 (λ e. omega arith)

  not_3 : eqb above 3 ≡ false
  not_3 = ne_eqb above 3 (λ e. omega arith)

  pub mark_above : mark_from above ≡ Other
  mark_above = rw (not_0, not_1, not_2, not_3) refl

-- the number of its mark: 4 for each number above 3
pub number_mark : (n : ℕ) → mark_number (mark_from n) ≡ min n 4
number_mark zero = refl
number_mark (suc zero) = refl
number_mark (suc (suc zero)) = refl
number_mark (suc (suc (suc zero))) = refl
number_mark (suc (suc (suc (suc n)))) = ap mark_number (mark_above n) ∙ omega arith

-- 2 asks for "untouched", 3 for a rank alone, and each other number for a touch
pub number_by : {A : Type 0} (n : ℕ) (untouched run touch : A) → by_mark (mark_from n) untouched run touch ≡ cond (eqb n 2) untouched (cond (eqb n 3) run touch)
number_by zero untouched run touch = refl
number_by (suc zero) untouched run touch = refl
number_by (suc (suc zero)) untouched run touch = refl
number_by (suc (suc (suc zero))) untouched run touch = refl
number_by (suc (suc (suc (suc n)))) untouched run touch = rw (not_0 n, not_1 n, not_2 n, not_3 n) refl

-- one of the four marks is that of a number exactly where it has this number
pub number_same : (m : Mark) → m ≢ Other → (n : ℕ) → same_mark m (mark_from n) ≡ eqb (mark_number m) n
number_same Present o zero = refl
number_same Present o (suc zero) = refl
number_same Present o (suc (suc zero)) = refl
number_same Present o (suc (suc (suc zero))) = refl
number_same Present o (suc (suc (suc (suc n)))) = ap (λ (x : Mark). same_mark Present x) (mark_above n) ∙ sym (ne_eqb 0 (above n) (λ e. omega arith))
number_same Absent o zero = refl
number_same Absent o (suc zero) = refl
number_same Absent o (suc (suc zero)) = refl
number_same Absent o (suc (suc (suc zero))) = refl
number_same Absent o (suc (suc (suc (suc n)))) = ap (λ (x : Mark). same_mark Absent x) (mark_above n) ∙ sym (ne_eqb 1 (above n) (λ e. omega arith))
number_same Untouched o zero = refl
number_same Untouched o (suc zero) = refl
number_same Untouched o (suc (suc zero)) = refl
number_same Untouched o (suc (suc (suc zero))) = refl
number_same Untouched o (suc (suc (suc (suc n)))) = ap (λ (x : Mark). same_mark Untouched x) (mark_above n) ∙ sym (ne_eqb 2 (above n) (λ e. omega arith))
number_same Run o zero = refl
number_same Run o (suc zero) = refl
number_same Run o (suc (suc zero)) = refl
number_same Run o (suc (suc (suc zero))) = refl
number_same Run o (suc (suc (suc (suc n)))) = ap (λ (x : Mark). same_mark Run x) (mark_above n) ∙ sym (ne_eqb 3 (above n) (λ e. omega arith))
number_same Other o n = absurd (o refl)
