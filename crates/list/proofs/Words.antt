-- The fold on whole words of a block, bit by bit: each bit of the row that comes out is what the rules say of the members' bits.
-- Assumes nothing.
use Prim.Native.Nat.{ℕ, zero, suc, ◌+◌, ◌-◌, ◌*◌, ◌/◌, ◌%◌, ◌≤◌, ◌<◌}
use native.Mathlib.Omega.{arith}
use mathlib.Core.Path.{◌≡◌, refl, sym, ap, ap₂, ◌∙◌, fun_ext, subst}
use mathlib.Core.Logic.{⊎_elim}
use mathlib.Core.Bool.{Bool}
use Rattle.std.proofs.lemmas.Bool.{cases_lt}
use mathlib.Core.List.{List, [], ◌∷◌}
use lib.Dec.{eqb}
use mir.Val.{bool_byte}
use Rattle.column.specs.Column.{bit}
use Rattle.column.specs.Sets.{in_column}
use Rattle.column.proofs.Bits.{bit_le, bit_zero, bit_suc}
use Rattle.general.specs.Scan.{every}
use Rattle.cards.specs.Area.{part_word}
use Rattle.runs.specs.Touch.{Mark, present, absent, untouched, Side, last, first}
use Rattle.runs.specs.Rows as rows
use Rattle.runs.specs.Rows.{column_number, join_row}
use Rattle.runs.proofs.Rows.{by_column}
use Rattle.row.specs.Words.{row_words, start_row, all_bits, is_set, bit_row}
use Rattle.row.specs.declared.words.Row.{Row}
use Rattle.row.proofs.Bits.{and_set, none_set, later_set, side_bits, start_bits}
use Rattle.cards.specs.Composed.{has_run, has_empty_run}
use Rattle.list.specs.Fold.{member_row, followed_row, folded_from, list_row}
use Rattle.cards.proofs.Joined.{join_all, Joined, joined_rows}

-- rows that agree in their ten columns and past them are the same
same_rows : (X Y : rows.Row) → ((j : ℕ) → j < row_words → X j ≡ Y j)
    → ((j : ℕ)
    → X (suc (suc (suc (suc (suc (suc (suc (suc (suc (suc j)))))))))) ≡ Y (suc (suc (suc (suc (suc (suc (suc (suc (suc (suc j)))))))))))
    → X ≡ Y
same_rows X Y low high =
    fun_ext
    (λ j. ⊎_elim (low j) (λ past. subst (λ (k : ℕ). X k ≡ Y k) (omega arith) (high (j - row_words))) (cases_lt j row_words))

-- no entry
start_row_lem : (f : ℕ) → f < 64 → bit_row (start_row all_bits) f ≡ rows.start_row
start_row_lem f l = same_rows (bit_row (start_row all_bits) f) rows.start_row (start_bits 64 f l) (λ j. none_set f)

-- one list followed by another
followed_row_lem : (x y : Row) (f : ℕ) → bit_row (followed_row x y) f ≡ join_row (bit_row x f) (bit_row y f)
followed_row_lem x y f = same_rows (bit_row (followed_row x y) f) (join_row (bit_row x f) (bit_row y f)) low (λ j. none_set f)
  where
    side : (s : Side) (m : Mark) → bit_row (followed_row x y) f (column_number s m) ≡ join_row (bit_row x f) (bit_row y f) (column_number s m)
    side last present = side_bits x y f last present
    side last absent = side_bits x y f last absent
    side last untouched = side_bits x y f last untouched
    side first present = side_bits x y f first present
    side first absent = side_bits x y f first absent
    side first untouched = side_bits x y f first untouched

    low : (j : ℕ) → j < row_words → bit_row (followed_row x y) f j ≡ join_row (bit_row x f) (bit_row y f) j
    low =
        by_column (λ (j : ℕ). bit_row (followed_row x y) f j ≡ join_row (bit_row x f) (bit_row y f) j) (and_set x.run y.run f)
        (and_set x.empty y.empty f) side (later_set x.cleared y.unmentioned y.cleared f) (and_set x.unmentioned y.unmentioned f)

-- a bit as a number
pub set_byte : (a f : ℕ) → bit a f ≡ bool_byte (is_set a f)
set_byte a f = low (bit a f) (bit_le a f)
  where
    low : (b : ℕ) → b ≤ 1 → b ≡ bool_byte (eqb b 1)
    low zero u = refl
    low (suc zero) u = refl
    low (suc (suc b)) u = absurd (omega arith)

module _ (area : List ℕ) where
  -- the members' bits of fact b of block k
  abbrev member_bits : ℕ → ℕ → ℕ → rows.Row
  member_bits k b m = bit_row (member_row area k m) b

  fold_bits : (k b : ℕ) (x : Row) (ms : List ℕ) → bit_row (folded_from area k x ms) b ≡ join_all (member_bits k b) (bit_row x b) ms
  unfolding folded_from join_all
  fold_bits k b x [] = refl
  fold_bits k b x (m ∷ ms) =
      fold_bits k b (followed_row x (member_row area k m)) ms
      ∙ ap (λ (X : rows.Row). join_all (member_bits k b) X ms) (followed_row_lem x (member_row area k m) b)

  row_bits : (k : ℕ) (ms : List ℕ) (b : ℕ) → b < 64 → Joined (member_bits k b) ms (bit_row (list_row area k ms) b)
  row_bits k ms b l =
      subst (Joined (member_bits k b) ms)
      (sym (fold_bits k b (start_row all_bits) ms ∙ ap (λ (X : rows.Row). join_all (member_bits k b) X ms) (start_row_lem b l)))
      (joined_rows (member_bits k b) ms)

  -- the same of fact 64 k + b, by where its bit stands in a card
  pub list_bits : (k : ℕ) (ms : List ℕ) (b : ℕ) → b < 64
      → Joined (member_bits ((64 * k + b) / 64) ((64 * k + b) % 64)) ms (bit_row (list_row area k ms) b)
  list_bits k ms b l =
      let word : k ≡ (64 * k + b) / 64 = omega arith in
      let at : b ≡ (64 * k + b) % 64 = omega arith in
      subst (λ (B : ℕ → rows.Row). Joined B ms (bit_row (list_row area k ms) b)) (ap₂ member_bits word at) (row_bits k ms b l)

  -- the flags, which are the lowest bits in every block
  pub list_run : (k : ℕ) (ms : List ℕ) → (list_row area k ms).run % 2 ≡ bool_byte (every (has_run area) ms)
  unfolding in_column
  list_run k ms =
      sym (bit_zero (list_row area k ms).run) ∙ set_byte (list_row area k ms).run 0 ∙ ap bool_byte (row_bits k ms 0 (omega arith)).run

  pub list_empty : (k : ℕ) (ms : List ℕ) → (list_row area k ms).empty % 2 ≡ bool_byte (every (has_empty_run area) ms)
  unfolding in_column
  list_empty k ms =
      sym (bit_zero (list_row area k ms).empty) ∙ set_byte (list_row area k ms).empty 0
      ∙ ap bool_byte
      ((row_bits k ms 0 (omega arith)).empty
      ∙ ap (λ (p : ℕ → Bool). every p ms) (fun_ext (λ m. ap (λ (b : ℕ). eqb b 1) (sym (bit_suc (part_word area m 0) 0)))))
