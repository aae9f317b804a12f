-- The columns of the outcome table together, for one fact: a row is what they say of one sequence. What reading an alternative
-- from left to right adds to a row, by formulas; and what is said of the rows while they are worked out.
use Rattle.std.specs.Prelude.{ℕ, ◌<◌, ◌≡◌, Bool, true, false, not, ◌&&◌, ◌||◌, List, [], ◌∷◌, length, get_or}
use Rattle.library.specs.Library.{Library, Entry, item, call, Item}
use Rattle.general.specs.Tests.{some}
use Rattle.runs.specs.Run.{alternatives_of, alternative_of}
use Rattle.runs.specs.Touch.{Mark, present, absent, untouched, Side, last, first, item_touch}
use Rattle.runs.specs.Algebra.{side_algebra, same_mark}
use Rattle.runs.specs.View.{standing, view_mark}
use Rattle.runs.specs.Possible.{column_of, column_count, is_check}
use Rattle.runs.specs.Table.{Occurs}

-- whether each column has the fact
abbrev pub Row : Type 0
Row = ℕ → Bool

-- a row by its columns, in the order of `column_of`
abbrev pub row_of : Bool → Bool → (Side → Mark → Bool) → Bool → Bool → Row
row_of run empty side cleared unmentioned j =
    get_or
    (run ∷ empty ∷ side last present ∷ side last absent ∷ side last untouched ∷ side first present ∷ side first absent ∷ side first untouched
    ∷ cleared ∷ unmentioned ∷ [])
    j false

-- the column of a side's outcome, and the outcomes of a row on a side
abbrev pub column_number : Side → Mark → ℕ
column_number last present = 2
column_number last absent = 3
column_number last untouched = 4
column_number first present = 5
column_number first absent = 6
column_number first untouched = 7

-- the columns of the view `standing`: some run's last item that mentions the fact clears it; some run has no such item
abbrev pub cleared_column : ℕ
cleared_column = 8

abbrev pub unmentioned_column : ℕ
unmentioned_column = 9

abbrev pub row_side : Side → Row → Mark → Bool
row_side s r m = r (column_number s m)

-- Two sets of marks joined, neither of them empty. On the last side the later list has the touch, or leaves it as it was; on the
-- first side the other way round.
abbrev pub later_sets : (Mark → Bool) → (Mark → Bool) → Mark → Bool
later_sets X Y present = X present && Y untouched || Y present
later_sets X Y absent = X absent && Y untouched || Y absent
later_sets X Y untouched = X untouched && Y untouched

abbrev pub join_sets : Side → (Mark → Bool) → (Mark → Bool) → Mark → Bool
join_sets last X Y = later_sets X Y
join_sets first X Y = later_sets Y X

-- the row of what stands before, with what comes next joined to it
abbrev pub join_row : Row → Row → Row
join_row X Y =
    row_of (X 0 && Y 0) (X 1 && Y 1) (λ s m. join_sets s (row_side s X) (row_side s Y) m)
    (X cleared_column && Y unmentioned_column || Y cleared_column) (X unmentioned_column && Y unmentioned_column)

-- the row of no entry, and of an item for fact f
abbrev pub start_row : Row
start_row = row_of true true (λ s m. same_mark untouched m) false true

abbrev pub item_row : Library → ℕ → Item → Row
item_row L f a =
    row_of true (is_check a) (λ s m. same_mark (item_touch L s f a) m) (same_mark (view_mark L standing f a) absent)
    (same_mark (view_mark L standing f a) untouched)

-- the row of an item by whether it is a check, and whether it needs, sets and clears the fact
abbrev pub touch_row : Bool → Bool → Bool → Bool → Row
touch_row check needs sets clears j =
    get_or
    (true ∷ check ∷ sets ∷ (clears && not sets) ∷ not (sets || clears) ∷ needs ∷ (sets && not needs) ∷ not (needs || sets)
    ∷ clears ∷ not (needs || sets || clears) ∷ [])
    j false

-- the row of an entry, by the rows of the sequences
abbrev pub entry_row : Library → ℕ → (ℕ → Row) → Entry → Row
entry_row L f B (item a) = item_row L f a
entry_row L f B (call c) = B c

-- the row after the entries, where that of what stands before them is X
unfoldable pub fold_row : Library → ℕ → (ℕ → Row) → Row → List Entry → Row
fold_row L f B X [] = X
fold_row L f B X (e ∷ es) = fold_row L f B (join_row X (entry_row L f B e)) es

-- the row of an alternative: nothing where a sequence called has no run
abbrev pub read_row : Library → ℕ → (ℕ → Row) → List Entry → Row
read_row L f B es j = fold_row L f B start_row es 0 && fold_row L f B start_row es j

-- some run of sequence c has the outcome of column j for fact f
abbrev pub OccursIn : Library → ℕ → ℕ → ℕ → Type 0
OccursIn L f c j = Occurs L.sequences (column_of j).algebra ((column_of j).marking L f) c (column_of j).asked

-- The row says only what occurs; it has an outcome on each side where it has a run, and only there; and an empty run is a run.
pub record GoodRow (L : Library) (f c : ℕ) (r : Row) : Type 0 where
  pub sound : (j : ℕ) → j < column_count → r j ≡ true → OccursIn L f c j
  pub live : (s : Side) → some (row_side s r) (side_algebra s).all ≡ r 0
  pub empty : r 1 ≡ true → r 0 ≡ true

-- the rows of all sequences are good
abbrev pub GoodRows : Library → ℕ → (ℕ → Row) → Type 0
GoodRows L f B = (c : ℕ) → GoodRow L f c (B c)

-- the row of sequence c has all that reading the entries gives
abbrev pub Covers : Library → ℕ → (ℕ → Row) → ℕ → List Entry → Type 0
Covers L f B c es = (j : ℕ) → j < column_count → read_row L f B es j ≡ true → B c j ≡ true

-- reading any alternative of any sequence adds nothing to its row
abbrev pub ClosedRows : Library → ℕ → (ℕ → Row) → Type 0
ClosedRows L f B = (c i : ℕ) → i < length (alternatives_of L.sequences c) → Covers L f B c (alternative_of L.sequences c i)
