-- What a card says (demands 2 and 3), of every library and of any numbers, wherever they were found: each column against the published
-- definitions or the words of the request that added it, the flags, the count, the blank card, and what the numbers say of every run. A card is its
-- numbers: number 0 is the flags, and number k is column k, in which bit f is fact f.
use Rattle.std.specs.Prelude.{ℕ, ◌/◌, ◌^◌, ◌≤◌, ◌<◌, ◌≡◌, ◌↔◌, ◌⊎◌, true, false, ◌||◌, List}
use Rattle.column.specs.Column.{bit}
use Rattle.column.specs.Sets.{in_column, count_below}
use Rattle.library.specs.Library.{Library, Item}
use Rattle.runs.specs.Run.{Run, HasRun, NoRun, Empty}
use Rattle.runs.specs.Domain.{domain_of}
use Rattle.runs.specs.Execution.{Fact, State, Executes, end}
use Rattle.runs.specs.Touch.{Question, HasOutcome, last_set, last_cleared, last_untouched, first_needed, first_set, first_untouched}
use Rattle.runs.specs.Standing.{EndsStanding, EndsCleared, Unmentioned}
use Rattle.runs.specs.Published.{prec∅, poss_prec∅, eff*∅+, eff*∅-, poss_eff*∅+, poss_eff*∅-}
use Rattle.cards.specs.Layout.{CardColumn, always_needed, may_need, may_set, may_clear, always_set, always_cleared, always_stands}
use Rattle.cards.specs.Layout.{may_first_set, may_first_untouched, may_last_untouched, may_end_cleared, may_end_unmentioned}
use Rattle.cards.specs.Layout.{place, card_numbers}

-- "fact f is bit f": the column holds the fact, or the fact is missing from it
abbrev pub Holds : (ℕ → ℕ) → CardColumn → ℕ → Type 0
Holds word k f = bit (word (place k)) f ≡ 1

abbrev pub Lacks : (ℕ → ℕ) → CardColumn → ℕ → Type 0
Lacks word k f = bit (word (place k)) f ≡ 0

-- some run of the sequence is such
abbrev pub SomeRun : Library → ℕ → (List Item → Type 0) → Type 0
SomeRun L c P = (w : List Item) × Run L c w × P w

-- what puts a fact into a column: the published definition that it stands for (001). "Demand 2 judges a column that a request adds by that
-- request's words": a run exists, and "in every run the last item that sets, clears, needs or checks the fact is there and does not clear it"
-- (document 02, request 4)
abbrev pub Puts : CardColumn → (L : Library) → ℕ → Fact L → Type 0
Puts always_needed L c f = prec∅ (domain_of L) c f
Puts may_need L c f = poss_prec∅ (domain_of L) c f
Puts may_set L c f = poss_eff*∅+ (domain_of L) c f
Puts may_clear L c f = poss_eff*∅- (domain_of L) c f
Puts always_set L c f = eff*∅+ (domain_of L) c f
Puts always_cleared L c f = eff*∅- (domain_of L) c f
Puts always_stands L c f = (w : List Item) → Run L c w → EndsStanding L f.0 w
-- request 5: "some run first sets it; some run leaves it untouched on the first side; on the last side"
Puts may_first_set L c f = SomeRun L c (HasOutcome L first_set f.0)
Puts may_first_untouched L c f = SomeRun L c (HasOutcome L first_untouched f.0)
Puts may_last_untouched L c f = SomeRun L c (HasOutcome L last_untouched f.0)
-- "some run's last item under Item 4's rule clears it; some run has no such item"
Puts may_end_cleared L c f = SomeRun L c (EndsCleared L f.0)
Puts may_end_unmentioned L c f = SomeRun L c (Unmentioned L f.0)

-- Demand 2: "each card's columns hold a fact if the published definition of relaxed preconditions and effects puts it there, and only
-- then, over all finite runs"
abbrev pub Columns : (L : Library) → ℕ → (ℕ → ℕ) → Fact L → Type 0
Columns L c word f = (k : CardColumn) → Holds word k f.0 ↔ Puts k L c f

-- "flags and count are those of document 01"
pub record Flags (L : Library) (c : ℕ) (word : ℕ → ℕ) : Type 0 where
  -- "bit 0, a run exists"
  pub run : (bit (word 0) 0 ≡ 1) ↔ HasRun L c
  -- "bit 1, an empty run exists"; "a run without steps is still called empty" (document 02, request 4)
  pub empty_run : (bit (word 0) 1 ≡ 1) ↔ ((w : List Item) × Run L c w × Empty w)
  -- "bits 8 to 14, the number of facts that are in "may set" or in "may clear""; "The count of changeable facts takes bits 8 to 16." (document
  -- 02, request 8)
  pub count : word 0 / 2 ^ 8 ≡ count_below L.facts (λ (f : ℕ). in_column (word (place may_set)) f || in_column (word (place may_clear)) f)
  -- and no other bit
  pub between : (k : ℕ) → 2 ≤ k → k < 8 → bit (word 0) k ≡ 0
  pub above : (k : ℕ) → 17 ≤ k → bit (word 0) k ≡ 0

-- "Without a run all .. words are 0"
abbrev pub Blank : (ℕ → ℕ) → Type 0
Blank word = (k : ℕ) → k < card_numbers → word k ≡ 0

-- the numbers are the card of sequence c, whole
pub record Card (L : Library) (c : ℕ) (word : ℕ → ℕ) : Type 0 where
  pub columns : HasRun L c → (f : Fact L) → Columns L c word f
  -- a column holds no bit from F upward
  pub facts_only : (k : CardColumn) (f : ℕ) → L.facts ≤ f → Lacks word k f
  -- "a sequence without a run has a blank card", and no other has
  pub blank : Blank word ↔ NoRun L c
  -- "flags and count are those of document 01"
  pub flags : Flags L c word

-- Demand 3, "for every run of a sequence and whichever facts stand at the start: if the run executes from there, .."
pub record Kept (L : Library) (word : ℕ → ℕ) (w : List Item) (s : State L) (f : Fact L) : Type 0 where
  -- "each fact in "always needed" stood at the start"
  pub needed : Holds word always_needed f.0 → s f ≡ true
  -- "each in "always set" stands at the end"
  pub set : Holds word always_set f.0 → end L w s f ≡ true
  -- "and none in "always cleared" does"
  pub cleared : Holds word always_cleared f.0 → end L w s f ≡ false
  -- "Whoever runs such a sequence to its end finds each of these facts standing." (document 02, request 4)
  pub stands : Holds word always_stands f.0 → end L w s f ≡ true

-- of every run, executing or not, and whichever facts stand at the start
pub record Changed (L : Library) (word : ℕ → ℕ) (w : List Item) (s : State L) (f : Fact L) : Type 0 where
  -- "A fact that stands at the end and not at the start is in "may set""
  pub gained : end L w s f ≡ true → s f ≡ false → Holds word may_set f.0
  -- "one that stands at the start and not at the end in "may clear""
  pub lost : s f ≡ true → end L w s f ≡ false → Holds word may_clear f.0

-- the three "always" columns of demand 3
pub data Always : Type 0 where
  needed set cleared : Always

abbrev pub column_of : Always → CardColumn
column_of needed = always_needed
column_of set = always_set
column_of cleared = always_cleared

-- "The rule of an "always" column is what it says of each run: for "always needed", that the run first touches the fact by a need; for
-- "always set", that its last touch sets it; for "always cleared", that its last touch clears it."
abbrev pub rule : Always → Question
rule needed = first_needed
rule set = last_set
rule cleared = last_cleared

-- "A run breaks the rule where that is not so."
abbrev pub Breaks : Library → Always → ℕ → List Item → Type 0
Breaks L a f w = ¬ HasOutcome L (rule a) f w

-- "A fact is missing from one of these three "always" columns exactly when the sequence has no run, or has one, executing or not, that
-- breaks the column's rule."
abbrev pub Missing : (L : Library) → ℕ → (ℕ → ℕ) → Always → Fact L → Type 0
Missing L c word a f = Lacks word (column_of a) f.0 ↔ (NoRun L c ⊎ ((w : List Item) × Run L c w × Breaks L a f.0 w))

-- what the numbers say of the runs of sequence c
pub record Runs (L : Library) (c : ℕ) (word : ℕ → ℕ) : Type 0 where
  pub kept : (w : List Item) → Run L c w → (s : State L) → Executes L w s → (f : Fact L) → Kept L word w s f
  pub changed : (w : List Item) → Run L c w → (s : State L) → (f : Fact L) → Changed L word w s f
  pub missing : (a : Always) (f : Fact L) → Missing L c word a f
