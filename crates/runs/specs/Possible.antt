-- What is possible: whether some run of a sequence has an outcome, as a Boolean function that computes. That it says so of runs is
-- proved in `proofs/`.
use Rattle.std.specs.Prelude.{ℕ, zero, suc, true, false, not, ◌&&◌, ◌||◌, length, get_or, eqb}
use Rattle.std.proofs.Math.Bool.{Bool}
use mathlib.Core.List.{List, [], ◌∷◌, ◌++◌, map}
use Rattle.library.specs.Library.{Library, Sequence, Entry, item, call, Item, step, check}
use Rattle.general.specs.Tests.{some}
use Rattle.runs.specs.Run.{alternatives_of}
use Rattle.runs.specs.Touch.{Mark, absent, untouched, other_touch, Question, last_set, last_cleared, last_untouched, first_needed, first_set}
use Rattle.runs.specs.Touch.{first_untouched}
use Rattle.runs.specs.View.{View, touches, standing, view_mark, view_side}
use Rattle.runs.specs.Algebra.{Algebra, side_algebra, any_algebra, empty_algebra}
use Rattle.runs.specs.Levels.{least}

-- a table says which sequence has which outcome
abbrev pub Table : Algebra → Type 0
Table A = ℕ → A.Outcome → Bool

module _ (A : Algebra) (mark : Item → A.Outcome) where
  -- after items with outcome x, and with runs of sequences whose outcomes the table has, the entries can end in outcome m
  unfoldable pub can : Table A → List Entry → A.Outcome → A.Outcome → Bool
  unfolding some
  can T [] x m = A.same x m
  can T (item a ∷ es) x m = can T es (A.join x (mark a)) m
  can T (call c ∷ es) x m = some (λ y. let rest : Bool = can T es (A.join x y) m in T c y && rest) A.all

  -- one look at sequence c: one of its alternatives can have outcome m
  unfoldable pub look : List Sequence → Table A → ℕ → A.Outcome → Bool
  unfolding some can
  look S T c m = some (λ es. can T es A.unit m) (alternatives_of S c)

-- the keys of a table: a sequence and an outcome
pub data Key (M : Type 0) : Type 0 where
  key : ℕ → M → Key M

abbrev pub same_key : {M : Type 0} → (M → M → Bool) → Key M → Key M → Bool
same_key same (key c m) (key d n) = eqb c d && same m n

-- the keys of the sequences below n
unfoldable pub keys_below : {M : Type 0} → List M → ℕ → List (Key M)
keys_below ms zero = []
keys_below ms (suc n) = map (key n) ms ++ keys_below ms n

module _ (S : List Sequence) (A : Algebra) (mark : Item → A.Outcome) where
  -- `look` at a key
  unfoldable pub look_at : (Key A.Outcome → Bool) → Key A.Outcome → Bool
  unfolding look
  look_at t (key c m) = look A mark S (λ d n. t (key d n)) c m

  -- some run of sequence c has outcome m
  unfoldable pub possible : ℕ → A.Outcome → Bool
  unfolding least look_at keys_below
  possible c m = least (same_key A.same) look_at (keys_below A.all (length S)) (key c m)

-- A column of the outcome table: an algebra, the marks of the items for a library and a fact, and the outcome asked for.
pub record Column : Type 1 where
  pub algebra : Algebra
  pub marking : Library → ℕ → Item → algebra.Outcome
  pub asked : algebra.Outcome

-- "a run exists"
abbrev pub run_column : Column
run_column = record { algebra = any_algebra; marking = λ L f x. tt; asked = tt }

-- "a check is no step" (document 02, request 4)
abbrev pub is_check : Item → Bool
is_check (step a) = false
is_check (check f) = true

-- "an empty run exists": every item of it is a check
abbrev pub empty_column : Column
empty_column = record { algebra = empty_algebra; marking = λ L f. is_check; asked = true }

-- some run has an outcome in a view
abbrev pub view_column : View → Mark → Column
view_column v m = record { algebra = side_algebra (view_side v); marking = λ L f. view_mark L v f; asked = m }

-- some run has the outcome of question q
abbrev pub question_column : Question → Column
question_column q = view_column (touches q.side) q.mark

-- The columns in their order: a run exists; an empty run exists; last set, last cleared, last untouched; first needed, first set, first
-- untouched; some run's last item that mentions the fact clears it, some run has no such item. That some run's last such item leaves the fact
-- standing is no column: neither a card nor two rows joined ask for it.
abbrev pub column_of : ℕ → Column
column_of j =
    get_or
    (run_column ∷ empty_column ∷ question_column last_set ∷ question_column last_cleared ∷ question_column last_untouched
    ∷ question_column first_needed ∷ question_column first_set ∷ question_column first_untouched ∷ view_column standing absent
    ∷ view_column standing untouched ∷ [])
    j run_column

abbrev pub column_count : ℕ
column_count = 10

-- some run of sequence c has the outcome of the column for fact f
abbrev pub column_has : Column → Library → ℕ → ℕ → Bool
column_has K L c f = possible L.sequences K.algebra (K.marking L f) c K.asked

abbrev pub column_possible : Library → ℕ → ℕ → ℕ → Bool
column_possible L j c f = column_has (column_of j) L c f

-- "a run exists", "an empty run exists"
abbrev pub has_run : Library → ℕ → Bool
has_run L c = column_has run_column L c 0

abbrev pub has_empty_run : Library → ℕ → Bool
has_empty_run L c = column_has empty_column L c 0

-- some run has outcome m in a view; some run has another one than m, which is no touch's absence; a run exists and every run has outcome m
abbrev pub possible_in : Library → View → Mark → ℕ → ℕ → Bool
possible_in L v m c f = column_has (view_column v m) L c f

abbrev pub broken_in : Library → View → Mark → ℕ → ℕ → Bool
broken_in L v m c f = possible_in L v (other_touch m) c f || possible_in L v untouched c f

abbrev pub always_in : Library → View → Mark → ℕ → ℕ → Bool
always_in L v m c f = has_run L c && not (broken_in L v m c f)

-- some run of sequence c has the outcome of question q for fact f
abbrev pub possible_outcome : Library → Question → ℕ → ℕ → Bool
possible_outcome L q c f = possible_in L (touches q.side) q.mark c f

-- some run breaks the rule of a touch: one of the touch's two questions, `rival q` and `untouched_on q`, is possible
abbrev pub broken_rule : Library → Question → ℕ → ℕ → Bool
broken_rule L q c f = broken_in L (touches q.side) q.mark c f

-- "Always needed: a run exists, and every run first touches the fact by a need." "Always set: a run exists, and every run's last touch
-- sets it." "Always cleared: likewise."
abbrev pub always_outcome : Library → Question → ℕ → ℕ → Bool
always_outcome L q c f = always_in L (touches q.side) q.mark c f
