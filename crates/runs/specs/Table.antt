-- What is said of a table of outcomes while it is worked out: which outcomes occur, that it is sound, and that it is closed.
use Rattle.std.specs.Prelude.{ℕ, ◌≡◌, true, List}
use Rattle.library.specs.Library.{Sequence, Item}
use Rattle.general.proofs.Bools.{and_parts}
use Rattle.runs.specs.Run.{RunOf}
use Rattle.runs.specs.Algebra.{Algebra, outcome, empty_algebra}
use Rattle.runs.specs.Possible.{Table, look}

-- A part of the outcomes that holds the factors of what it holds: a table can do without the others.
pub record Part (A : Algebra) : Type 1 where
  pub holds : A.Outcome → Type 0
  pub factors : (x y : A.Outcome) → holds (A.join x y) → holds x × holds y

-- all outcomes
abbrev pub whole : (A : Algebra) → Part A
whole A = record { holds = λ m. Unit {0}; factors = λ x y h. (tt, tt) }

-- "no item" alone
abbrev pub no_item : Part empty_algebra
no_item = record { holds = λ b. b ≡ true; factors = and_parts }

module _ (S : List Sequence) (A : Algebra) (mark : Item → A.Outcome) where
  -- some run of sequence c has outcome m
  abbrev pub Occurs : ℕ → A.Outcome → Type 0
  Occurs c m = (w : List Item) × RunOf S c w × (outcome A mark w ≡ m)

  module _ (D : Part A) where
    -- each outcome that the table has is one that occurs
    abbrev pub Sound : Table A → Type 0
    Sound T = (c : ℕ) (m : A.Outcome) → D.holds m → T c m ≡ true → Occurs c m

    -- one more look adds nothing to the table
    abbrev pub Closed : Table A → Type 0
    Closed T = (c : ℕ) (m : A.Outcome) → D.holds m → look A mark S T c m ≡ true → T c m ≡ true
