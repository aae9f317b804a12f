-- Rows of words, bit by bit: each formula on whole columns is the formula of `Rows` for each fact.
-- Assumes nothing.
use Prim.Native.Nat.{ℕ, zero, suc, ◌+◌, ◌-◌, ◌*◌, ◌^◌, ◌≤◌, ◌<◌, max, min}
use native.Mathlib.Nat.{sub-zero}
use native.Mathlib.Omega.{arith}
use mathlib.Core.Path.{◌≡◌, refl, sym, ap, ◌∙◌}
use mathlib.Core.Bool.{Bool, true, false, not, ◌&&◌, ◌||◌, and-true, or-false}
use lib.Bits.{bit_and, bit_or, or_lt}
use lib.Dec.{eqb}
use lib.Pow.{pow_pos}
use Rattle.column.specs.Column.{bit}
use Rattle.column.specs.Sets.{difference, in_column}
use Rattle.column.specs.Words.{with_fact_in}
use Rattle.column.proofs.Bits.{bit_le, bit_or_lem, bit_and_lem, bit_not, bit_none, all_bits_lem}
use Rattle.column.proofs.Words.{with_in, with_lt}
use Rattle.runs.specs.Touch.{Mark, present, absent, untouched, Side, last, first}
use Rattle.runs.specs.Rows as rows
use Rattle.runs.specs.Rows.{column_number, join_row, touch_row}
use Rattle.row.specs.Words.{row_words, all_facts, all_bits, start_row, not_word, step_row, check_row, join_rows, or_rows, is_set, bit_row}
use Rattle.row.specs.declared.words.Row.{Row}
use Rattle.runs.proofs.Rows.{by_column}

-- ---- one bit of an operation

set_max : (x y : ℕ) → x ≤ 1 → y ≤ 1 → eqb (max x y) 1 ≡ (eqb x 1 || eqb y 1)
set_max zero zero l u = refl
set_max zero (suc zero) l u = refl
set_max (suc zero) zero l u = refl
set_max (suc zero) (suc zero) l u = refl
set_max zero (suc (suc y)) l u = absurd (omega arith)
set_max (suc zero) (suc (suc y)) l u = absurd (omega arith)
set_max (suc (suc x)) y l u = absurd (omega arith)

set_min : (x y : ℕ) → x ≤ 1 → y ≤ 1 → eqb (min x y) 1 ≡ (eqb x 1 && eqb y 1)
set_min zero zero l u = refl
set_min zero (suc zero) l u = refl
set_min (suc zero) zero l u = refl
set_min (suc zero) (suc zero) l u = refl
set_min zero (suc (suc y)) l u = absurd (omega arith)
set_min (suc zero) (suc (suc y)) l u = absurd (omega arith)
set_min (suc (suc x)) y l u = absurd (omega arith)

set_other : (x : ℕ) → x ≤ 1 → eqb (1 - x) 1 ≡ not (eqb x 1)
set_other zero l = refl
set_other (suc zero) l = refl
set_other (suc (suc x)) l = absurd (omega arith)

pub or_set : (a b f : ℕ) → is_set (bit_or a b) f ≡ (is_set a f || is_set b f)
or_set a b f = ap (λ (n : ℕ). eqb n 1) (bit_or_lem a b f) ∙ set_max (bit a f) (bit b f) (bit_le a f) (bit_le b f)

pub and_set : (a b f : ℕ) → is_set (bit_and a b) f ≡ (is_set a f && is_set b f)
and_set a b f = ap (λ (n : ℕ). eqb n 1) (bit_and_lem a b f) ∙ set_min (bit a f) (bit b f) (bit_le a f) (bit_le b f)

pub not_set : (a f : ℕ) → a < 2 ^ 64 → f < 64 → is_set (not_word a) f ≡ not (is_set a f)
not_set a f l u = ap (λ (n : ℕ). eqb n 1) (bit_not 64 a f l u) ∙ set_other (bit a f) (bit_le a f)

pub none_set : (f : ℕ) → is_set 0 f ≡ false
none_set f = ap (λ (n : ℕ). eqb n 1) (bit_none f)

-- ---- rows, bit by bit

-- what either row has
pub or_bits : (x y : Row) (f j : ℕ) → j < row_words → bit_row (or_rows x y) f j ≡ (bit_row x f j || bit_row y f j)
or_bits x y f =
    by_column (λ (j : ℕ). bit_row (or_rows x y) f j ≡ (bit_row x f j || bit_row y f j)) (or_set x.run y.run f) (or_set x.empty y.empty f) side
    (or_set x.cleared y.cleared f) (or_set x.unmentioned y.unmentioned f)
  where
    side : (s : Side) (m : Mark) → bit_row (or_rows x y) f (column_number s m) ≡ (bit_row x f (column_number s m) || bit_row y f (column_number s m))
    side last present = or_set x.last.present y.last.present f
    side last absent = or_set x.last.absent y.last.absent f
    side last untouched = or_set x.last.untouched y.last.untouched f
    side first present = or_set x.first.present y.first.present f
    side first absent = or_set x.first.absent y.first.absent f
    side first untouched = or_set x.first.untouched y.first.untouched f

-- one list followed by another that has a run
pub later_set : (a b c f : ℕ) → is_set (bit_or (bit_and a b) c) f ≡ (is_set a f && is_set b f || is_set c f)
later_set a b c f = or_set (bit_and a b) c f ∙ ap (λ (t : Bool). t || is_set c f) (and_set a b f)

-- the columns of a side
pub side_bits : (x y : Row) (f : ℕ) (s : Side) (m : Mark)
    → bit_row (join_rows x y) f (column_number s m) ≡ join_row (bit_row x f) (bit_row y f) (column_number s m)
side_bits x y f last present = later_set x.last.present y.last.untouched y.last.present f
side_bits x y f last absent = later_set x.last.absent y.last.untouched y.last.absent f
side_bits x y f last untouched = and_set x.last.untouched y.last.untouched f
side_bits x y f first present = later_set y.first.present x.first.untouched x.first.present f
side_bits x y f first absent = later_set y.first.absent x.first.untouched x.first.absent f
side_bits x y f first untouched = and_set y.first.untouched x.first.untouched f

pub join_bits : (x y : Row) (f : ℕ) → is_set y.run f ≡ true → (j : ℕ) → j < row_words
    → bit_row (join_rows x y) f j ≡ join_row (bit_row x f) (bit_row y f) j
join_bits x y f runs =
    by_column (λ (j : ℕ). bit_row (join_rows x y) f j ≡ join_row (bit_row x f) (bit_row y f) j)
    (sym (ap (λ (t : Bool). is_set x.run f && t) runs ∙ and-true (is_set x.run f)))
    (and_set x.empty y.empty f) (side_bits x y f) (later_set x.cleared y.unmentioned y.cleared f)
    (and_set x.unmentioned y.unmentioned f)

-- the facts below F are all set
pub all_set : (n f : ℕ) → f < n → is_set (all_facts n) f ≡ true
all_set n f l =
    ap (λ (k : ℕ). is_set k f) (sym (sub-zero (2 ^ n - 1)))
    ∙ ap (λ (k : ℕ). eqb k 1) (bit_not n 0 f (pow_pos n) l ∙ ap (λ (k : ℕ). 1 - k) (bit_none f))

-- no entry
pub start_bits : (n f : ℕ) → f < n → (j : ℕ) → j < row_words → bit_row (start_row (all_facts n)) f j ≡ rows.start_row j
start_bits n f l =
    by_column (λ (j : ℕ). bit_row (start_row (all_facts n)) f j ≡ rows.start_row j) (all_set n f l) (all_set n f l) side (none_set f) (all_set n f l)
  where
    side : (s : Side) (m : Mark) → bit_row (start_row (all_facts n)) f (column_number s m) ≡ rows.start_row (column_number s m)
    side last present = none_set f
    side last absent = none_set f
    side last untouched = all_set n f l
    side first present = none_set f
    side first absent = none_set f
    side first untouched = all_set n f l

-- a step
module _ (n one other f : ℕ) (l : f < n) (u : n ≤ 64) (a : one < 2 ^ 64) (b : other < 2 ^ 64) where
  absent_set : is_set (bit_and other (not_word one)) f ≡ (is_set other f && not (is_set one f))
  absent_set = and_set other (not_word one) f ∙ ap (λ (t : Bool). is_set other f && t) (not_set one f a (omega arith))

  untouched_set : is_set (bit_and (all_facts n) (not_word (bit_or one other))) f ≡ not (is_set one f || is_set other f)
  untouched_set =
      and_set (all_facts n) (not_word (bit_or one other)) f ∙ ap (λ (t : Bool). t && is_set (not_word (bit_or one other)) f) (all_set n f l)
      ∙ not_set (bit_or one other) f (or_lt 64 one other a b) (omega arith) ∙ ap not (or_set one other f)

pub step_bits : (n needs sets clears f : ℕ) → f < n → n ≤ 64 → needs < 2 ^ 64 → sets < 2 ^ 64 → clears < 2 ^ 64 → (j : ℕ) → j < row_words
    → bit_row (step_row (all_facts n) needs sets clears) f j ≡ touch_row false (is_set needs f) (is_set sets f) (is_set clears f) j
step_bits n needs sets clears f l u a b c =
    by_column (λ (j : ℕ). bit_row (step_row (all_facts n) needs sets clears) f j ≡ touch_row false (is_set needs f) (is_set sets f) (is_set clears f) j)
    (all_set n f l) (none_set f) side refl
    (untouched_set n (bit_or needs sets) clears f l u (or_lt 64 needs sets a b) c ∙ ap (λ (t : Bool). not (t || is_set clears f)) (or_set needs sets f))
  where
    side : (s : Side) (m : Mark)
        → bit_row (step_row (all_facts n) needs sets clears) f (column_number s m)
        ≡ touch_row false (is_set needs f) (is_set sets f) (is_set clears f) (column_number s m)
    side last present = refl
    side last absent = absent_set n sets clears f l u b c
    side last untouched = untouched_set n sets clears f l u b c
    side first present = refl
    side first absent = absent_set n needs sets f l u a b
    side first untouched = untouched_set n needs sets f l u a b

-- a check of fact g, for block k
module _ (k g b : ℕ) (l : b < 64) where
  fact_set : is_set (with_fact_in k 0 g) b ≡ eqb g (64 * k + b)
  unfolding in_column
  fact_set = with_in k 0 g b l ∙ ap (λ (t : Bool). eqb g (64 * k + b) || t) (none_set b) ∙ or-false (eqb g (64 * k + b))

  others_set : is_set (difference 64 all_bits (with_fact_in k 0 g)) b ≡ not (eqb g (64 * k + b))
  others_set =
      and_set all_bits (not_word (with_fact_in k 0 g)) b ∙ ap (λ (t : Bool). t && is_set (not_word (with_fact_in k 0 g)) b) (all_set 64 b l)
      ∙ not_set (with_fact_in k 0 g) b (with_lt k 0 g (omega arith)) l ∙ ap not fact_set

pub check_bits : (k g b : ℕ) → b < 64 → (j : ℕ) → j < row_words → bit_row (check_row k g) b j ≡ touch_row true (eqb g (64 * k + b)) false false j
check_bits k g b l =
    by_column (λ (j : ℕ). bit_row (check_row k g) b j ≡ touch_row true here false false j) (all_set 64 b l) (all_set 64 b l) side (none_set b)
    (others_set k g b l ∙ ap not (sym (or-false (here || false) ∙ or-false here)))
  where
    here : Bool
    here = eqb g (64 * k + b)

    side : (s : Side) (m : Mark) → bit_row (check_row k g) b (column_number s m) ≡ touch_row true here false false (column_number s m)
    side last present = none_set b
    side last absent = none_set b
    side last untouched = all_set 64 b l
    side first present = fact_set k g b l
    side first absent = none_set b
    side first untouched = others_set k g b l ∙ ap not (sym (or-false here))

-- what is united again is there already
or_again : (a b : ℕ) → bit_or (bit_or a b) b ≡ bit_or a b
or_again a b = all_bits_lem (bit_or (bit_or a b) b) (bit_or a b) (λ k. omega (arith, bit_or_lem (bit_or a b) b k, bit_or_lem a b k))

pub rows_again : (x y : Row) → or_rows (or_rows x y) y ≡ or_rows x y
rows_again x y = simp or_again
