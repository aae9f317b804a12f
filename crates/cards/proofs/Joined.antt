-- Rows joined from left to right, from the row of no entry: each column of what comes out is what the rules say of the members' columns. It
-- holds of any rows, and so of a library's rows read along an alternative of calls.
-- It has: `joined_rows` and, for `fold_row`, `called_rows`.
-- Assumes nothing.
use Prim.Native.Nat.{ℕ}
use mathlib.Core.Path.{◌≡◌, refl, sym, ap, ap₂, ◌∙◌, subst}
use mathlib.Core.Bool.{Bool, true, false, ◌&&◌, ◌||◌, and-true, and_assoc, and_comm, or-false}
use mathlib.Core.List.{List, [], ◌∷◌, map}
use Rattle.general.specs.Scan.{every}
use Rattle.library.specs.Library.{Library, call}
use Rattle.runs.specs.Touch.{present, absent, untouched, last, first}
use Rattle.runs.specs.Rows.{Row, column_number, cleared_column, unmentioned_column, join_row, start_row, fold_row}
use Rattle.cards.specs.Composed.{one_then_all, all_then_one}

-- the row after the members, where that of what stands before them is X
unfoldable pub join_all : (ℕ → Row) → Row → List ℕ → Row
join_all B X [] = X
join_all B X (m ∷ ms) = join_all B (join_row X (B m)) ms

-- ---- what two steps come to, by the values

later_law : (x r y e o : Bool) → ((x && r || y) && e || o) ≡ (x && (r && e) || (y && e || o))
later_law false r y e o = refl
later_law true false y e o = refl
later_law true true y true o = refl
later_law true true true false o = refl
later_law true true false false o = refl

earlier_law : (u y r x a : Bool) → ((y && u || x) || (r && u) && a) ≡ (x || u && (y || r && a))
earlier_law true true r true a = refl
earlier_law true true r false a = refl
earlier_law true false true x a = refl
earlier_law true false false x a = refl
earlier_law false true true x a = refl
earlier_law false true false x a = refl
earlier_law false false true x a = refl
earlier_law false false false x a = refl

no_member : (x u : Bool) → x ≡ (x || u && false)
no_member true u = refl
no_member false true = refl
no_member false false = refl

module _ (B : ℕ → Row) where
  -- a column that all members have
  all_column : (j : ℕ) → ((X Y : Row) → join_row X Y j ≡ (X j && Y j)) → (X : Row) (ms : List ℕ) → join_all B X ms j ≡ (X j && every (λ (m : ℕ). B m j) ms)
  unfolding join_all every
  all_column j step X [] = sym (and-true (X j))
  all_column j step X (m ∷ ms) =
      all_column j step (join_row X (B m)) ms ∙ ap (λ (b : Bool). b && every (λ (k : ℕ). B k j) ms) (step X (B m))
      ∙ and_assoc (X j) (B m j) (every (λ (k : ℕ). B k j) ms)

  -- a column j that one has, and column r of every later member
  later_column : (j r : ℕ) → ((X Y : Row) → join_row X Y j ≡ (X j && Y r || Y j)) → (X : Row) (ms : List ℕ)
      → join_all B X ms j ≡ (X j && every (λ (m : ℕ). B m r) ms || one_then_all (λ (m : ℕ). B m j) (λ (m : ℕ). B m r) ms)
  unfolding join_all every one_then_all
  later_column j r step X [] = sym (or-false (X j && true) ∙ and-true (X j))
  later_column j r step X (m ∷ ms) =
      let E = every (λ (k : ℕ). B k r) ms in
      let O = one_then_all (λ (k : ℕ). B k j) (λ (k : ℕ). B k r) ms in
      later_column j r step (join_row X (B m)) ms ∙ ap (λ (b : Bool). b && E || O) (step X (B m)) ∙ later_law (X j) (B m r) (B m j) E O

  -- a column j that one has, and column r of every earlier member
  earlier_column : (j r : ℕ) → ((X Y : Row) → join_row X Y j ≡ (Y j && X r || X j)) → ((X Y : Row) → join_row X Y r ≡ (Y r && X r)) → (X : Row) (ms : List ℕ)
      → join_all B X ms j ≡ (X j || X r && all_then_one (λ (m : ℕ). B m j) (λ (m : ℕ). B m r) ms)
  unfolding join_all all_then_one
  earlier_column j r step rest X [] = no_member (X j) (X r)
  earlier_column j r step rest X (m ∷ ms) =
      let A = all_then_one (λ (k : ℕ). B k j) (λ (k : ℕ). B k r) ms in
      earlier_column j r step rest (join_row X (B m)) ms ∙ ap₂ (λ (a b : Bool). a || b && A) (step X (B m)) (rest X (B m))
      ∙ earlier_law (X r) (B m j) (B m r) (X j) A

  -- what the rules say of the members' columns
  pub record Joined (ms : List ℕ) (R : Row) : Type 0 where
    pub run : R 0 ≡ every (λ (m : ℕ). B m 0) ms
    pub empty : R 1 ≡ every (λ (m : ℕ). B m 1) ms
    pub set : R (column_number last present) ≡ one_then_all (λ (m : ℕ). B m (column_number last present)) (λ (m : ℕ). B m (column_number last untouched)) ms
    pub clear : R (column_number last absent) ≡ one_then_all (λ (m : ℕ). B m (column_number last absent)) (λ (m : ℕ). B m (column_number last untouched)) ms
    pub last_untouched_lem : R (column_number last untouched) ≡ every (λ (m : ℕ). B m (column_number last untouched)) ms
    pub need : R (column_number first present) ≡ all_then_one (λ (m : ℕ). B m (column_number first present)) (λ (m : ℕ). B m (column_number first untouched)) ms
    pub first_set_lem : R (column_number first absent) ≡ all_then_one (λ (m : ℕ). B m (column_number first absent)) (λ (m : ℕ). B m (column_number first untouched)) ms
    pub first_untouched_lem : R (column_number first untouched) ≡ every (λ (m : ℕ). B m (column_number first untouched)) ms
    pub end_cleared : R cleared_column ≡ one_then_all (λ (m : ℕ). B m cleared_column) (λ (m : ℕ). B m unmentioned_column) ms
    pub unmentioned : R unmentioned_column ≡ every (λ (m : ℕ). B m unmentioned_column) ms

  pub joined_rows : (ms : List ℕ) → Joined ms (join_all B start_row ms)
  joined_rows ms =
      record {
        run = all_column 0 (λ X Y. refl) start_row ms;
        empty = all_column 1 (λ X Y. refl) start_row ms;
        set = later_column 2 4 (λ X Y. refl) start_row ms;
        clear = later_column 3 4 (λ X Y. refl) start_row ms;
        last_untouched_lem = all_column 4 (λ X Y. refl) start_row ms;
        need = earlier_column 5 7 (λ X Y. refl) (λ X Y. refl) start_row ms;
        first_set_lem = earlier_column 6 7 (λ X Y. refl) (λ X Y. refl) start_row ms;
        first_untouched_lem = all_column 7 (λ X Y. and_comm (Y 7) (X 7)) start_row ms;
        end_cleared = later_column 8 9 (λ X Y. refl) start_row ms;
        unmentioned = all_column 9 (λ X Y. refl) start_row ms;
      }

  calls_joined : (L : Library) (f : ℕ) (X : Row) (ms : List ℕ) → fold_row L f B X (map call ms) ≡ join_all B X ms
  unfolding fold_row join_all
  calls_joined L f X [] = refl
  calls_joined L f X (m ∷ ms) = calls_joined L f (join_row X (B m)) ms

  -- the row of an alternative that calls the members in their order
  pub called_rows : (L : Library) (f : ℕ) (ms : List ℕ) → Joined ms (fold_row L f B start_row (map call ms))
  called_rows L f ms = subst (Joined ms) (sym (calls_joined L f start_row ms)) (joined_rows ms)
