-- What a card says, proved: the columns against the published definitions, the flags, the count and the blank card of demand 2, and
-- the sentences of demand 3 over the numbers of a card.
-- It has: `card_right` (demand 2), `runs_right` (demand 3), and that numbers which are the same mean the same (`card_same`, `runs_same`). That
-- no other numbers are a card is in Unique.
-- Assumes nothing.
use Prim.Native.Nat.{ℕ, zero, suc, ◌+◌, ◌*◌, ◌/◌, ◌^◌, ◌≤◌, ◌<◌}
use native.Mathlib.Omega.{arith}
use mathlib.Core.Path.{◌≡◌, refl, sym, ap, ap₂, ◌∙◌}
use mathlib.Core.Logic.Iff
use mathlib.Core.Logic.{◌↔◌, ◌≢◌}
use mathlib.Core.Bool.{Bool, true, false, not, ◌&&◌, ◌||◌, true≢false}
use mathlib.Core.List.{List}
use lib.Dec.{eqb}
use mir.Val.{bool_byte}
use borrow.Author.Count.{below_none, below_more}
use Rattle.column.specs.Column.{bit}
use Rattle.column.specs.Sets.{in_column, count_below}
use Rattle.column.proofs.Bits.{bit_zero, bit_suc, bit_none, bit_high, column_same, column_none}
use Rattle.column.proofs.Operations.{bit_one, bit_null, in_column_lem, column_high, count_le, count_same, count_none}
use Rattle.library.specs.Library.{Library, Item}
use Rattle.runs.specs.Run.{Run, HasRun}
use Rattle.runs.specs.Domain.{domain_of}
use Rattle.runs.specs.Execution.{Fact, State, Executes}
use Rattle.runs.specs.Touch.{Mark, present, absent, untouched, last, first, last_set, last_cleared}
use Rattle.runs.specs.View.{View, touches, standing, view_outcome}
use Rattle.runs.specs.Possible.{possible_in, always_in, broken_in, possible_outcome, has_run, has_empty_run, view_column, question_column, empty_column}
use Rattle.runs.proofs.Outcome.{present≢untouched, absent≢untouched}
use Rattle.runs.proofs.Columns.{view_iff, has_run_iff, no_run_iff, has_empty_run_iff, blank_columns, always_iff, missing_iff}
use Rattle.runs.proofs.Published.{PublishedColumns, published_columns}
use Rattle.runs.proofs.Execution.{needed_stood, set_stands, cleared_falls, gained_set, lost_cleared, end_standing}
use Rattle.runs.proofs.Standing.{standing_iff, ends_cleared_iff, unmentioned_iff}
use Rattle.cards.specs.Layout.{CardColumn, always_needed, may_need, may_set, may_clear, always_set, always_cleared, always_stands}
use Rattle.cards.specs.Layout.{may_first_set, may_first_untouched, may_last_untouched, may_end_cleared, may_end_unmentioned}
use Rattle.cards.specs.Layout.{place, card_numbers, column_width}
use Rattle.cards.specs.Card.{Claim, some_run, every_run, claim, claimed, claim_word, column_word, changeable, flags, card, card_number}
use Rattle.cards.specs.Meaning.{Lacks, SomeRun, Puts, Columns, Flags, Blank, Card, Kept, Changed, Always, needed, set, cleared, column_of, Missing, Runs}

-- ---- the numbers of a card

-- what holds of the flags and of each column holds of every number of a card
pub by_number : (P : ℕ → Type 0) → P 0 → ((k : CardColumn) → P (place k)) → (j : ℕ) → j < card_numbers → P j
by_number P zeroth column =
    let need = below_more P 2 (below_more P 1 (below_more P 0 (below_none P) zeroth) (column always_needed)) (column may_need) in
    let may = below_more P 4 (below_more P 3 need (column may_set)) (column may_clear) in
    let always = below_more P 7 (below_more P 6 (below_more P 5 may (column always_set)) (column always_cleared)) (column always_stands) in
    let first = below_more P 9 (below_more P 8 always (column may_first_set)) (column may_first_untouched) in
    below_more P 12 (below_more P 11 (below_more P 10 first (column may_last_untouched)) (column may_end_cleared)) (column may_end_unmentioned)

-- a column stands in its place
pub card_column : (L : Library) (c : ℕ) (k : CardColumn) → card_number L c (place k) ≡ column_word L k c
unfolding card
card_column L c always_needed = refl
card_column L c may_need = refl
card_column L c may_set = refl
card_column L c may_clear = refl
card_column L c always_set = refl
card_column L c always_cleared = refl
card_column L c always_stands = refl
card_column L c may_first_set = refl
card_column L c may_first_untouched = refl
card_column L c may_last_untouched = refl
card_column L c may_end_cleared = refl
card_column L c may_end_unmentioned = refl

-- ---- a column, one fact at a time

module _ (L : Library) (p : Claim) (c : ℕ) where
  claim_holds : (f : Fact L) → (bit (claim_word L p c) f.0 ≡ 1) ↔ (claimed L p c f.0 ≡ true)
  unfolding claim_word
  claim_holds f = bit_one L.facts (λ (g : ℕ). claimed L p c g) f.0 f.1

  claim_lacks : (f : Fact L) → (bit (claim_word L p c) f.0 ≡ 0) ↔ (claimed L p c f.0 ≡ false)
  unfolding claim_word
  claim_lacks f = bit_null L.facts (λ (g : ℕ). claimed L p c g) f.0 f.1

  claim_high : (f : ℕ) → L.facts ≤ f → bit (claim_word L p c) f ≡ 0
  unfolding claim_word
  claim_high f u = column_high L.facts (λ (g : ℕ). claimed L p c g) f u

-- ---- demand 2

columns_right : (L : Library) (c : ℕ) → HasRun L c → (f : Fact L) → Columns L c (card_number L c) f
columns_right L c run f k = rw (card_column L c k) (Iff.trans (claim_holds L (claim k) c f) (go k))
  where
    p : PublishedColumns L c f
    p = published_columns L c f ((has_run_iff L c).1 run)

    -- a claim of some run, by what the run's mark says
    some_iff : {P : List Item → Type 0} (v : View) (m : Mark) → ((w : List Item) → (view_outcome L v f.0 w ≡ m) ↔ P w)
        → (possible_in L v m c f.0 ≡ true) ↔ SomeRun L c P
    some_iff v m says =
        Iff.trans (view_iff L v m c f.0)
        ((λ (w, r, o). (w, r, (says w).0 o)), λ (w, r, o). (w, r, (says w).1 o))

    every_iff : {P : List Item → Type 0} (v : View) (m : Mark) → m ≢ untouched → ((w : List Item) → (view_outcome L v f.0 w ≡ m) ↔ P w)
        → (always_in L v m c f.0 ≡ true) ↔ ((w : List Item) → Run L c w → P w)
    every_iff v m touch says = (
      (λ e w r. (says w).0 (((always_iff L v m c f.0 touch).0 e).1 w r)),
      λ h. (always_iff L v m c f.0 touch).1 (run, λ w r. (says w).1 (h w r)),
    )

    go : (k : CardColumn) → (claimed L (claim k) c f.0 ≡ true) ↔ Puts k L c f
    go always_needed = p.always_needed
    go may_need = p.may_need
    go may_set = p.may_set
    go may_clear = p.may_clear
    go always_set = p.always_set
    go always_cleared = p.always_cleared
    go always_stands = every_iff standing present present≢untouched (standing_iff L f.0)
    go may_first_set = view_iff L (touches first) absent c f.0
    go may_first_untouched = view_iff L (touches first) untouched c f.0
    go may_last_untouched = view_iff L (touches last) untouched c f.0
    go may_end_cleared = some_iff standing absent (ends_cleared_iff L f.0)
    go may_end_unmentioned = some_iff standing untouched (unmentioned_iff L f.0)

facts_only : (L : Library) (c : ℕ) (k : CardColumn) (f : ℕ) → L.facts ≤ f → Lacks (card_number L c) k f
facts_only L c k f u = rw (card_column L c k) (claim_high L (claim k) c f u)

byte_bound : (b : Bool) → bool_byte b ≤ 1
byte_bound true = omega arith
byte_bound false = omega arith

byte_true : (b : Bool) → (bool_byte b ≡ 1) ↔ (b ≡ true)
byte_true true = ((λ e. refl), λ e. refl)
byte_true false = ((λ e. absurd (omega arith)), λ e. absurd (true≢false (sym e)))

-- a bit of a word with two bits below and a number from bit 8 on
middle_bits : (a b n k : ℕ) → a ≤ 1 → b ≤ 1 → 2 ≤ k → k < 8 → bit (a + 2 * b + 2 ^ 8 * n) k ≡ 0
unfolding bit
middle_bits a b n zero p q l u = absurd (omega arith)
middle_bits a b n (suc zero) p q l u = absurd (omega arith)
middle_bits a b n (suc (suc zero)) p q l u = omega arith
middle_bits a b n (suc (suc (suc zero))) p q l u = omega arith
middle_bits a b n (suc (suc (suc (suc zero)))) p q l u = omega arith
middle_bits a b n (suc (suc (suc (suc (suc zero))))) p q l u = omega arith
middle_bits a b n (suc (suc (suc (suc (suc (suc zero)))))) p q l u = omega arith
middle_bits a b n (suc (suc (suc (suc (suc (suc (suc zero))))))) p q l u = omega arith
middle_bits a b n (suc (suc (suc (suc (suc (suc (suc (suc k)))))))) p q l u = absurd (omega arith)

changeable_count : (L : Library) (c : ℕ)
    → changeable L c ≡ count_below L.facts (λ (f : ℕ). in_column (column_word L may_set c) f || in_column (column_word L may_clear c) f)
unfolding changeable claim_word
changeable_count L c =
    count_same L.facts (λ (f : ℕ). possible_outcome L last_set c f || possible_outcome L last_cleared c f) _
    (λ f l. ap₂ ◌||◌ (sym (in_column_lem L.facts (λ (g : ℕ). possible_outcome L last_set c g) f l))
    (sym (in_column_lem L.facts (λ (g : ℕ). possible_outcome L last_cleared c g) f l)))

-- "bits 8 to 16"
pub flags_count : (L : Library) (c : ℕ) → card_number L c 0 / 2 ^ 8 ≡ changeable L c
unfolding card flags
flags_count L c = omega (arith, byte_bound (has_run L c), byte_bound (has_empty_run L c))

-- the two bits below them
run_bit : (L : Library) (c : ℕ) → bit (flags L c) 0 ≡ bool_byte (has_run L c)
unfolding flags
run_bit L c = bit_zero (flags L c) ∙ omega (arith, byte_bound (has_run L c), byte_bound (has_empty_run L c))

empty_bit : (L : Library) (c : ℕ) → bit (flags L c) 1 ≡ bool_byte (has_empty_run L c)
unfolding flags
empty_bit L c = bit_suc (flags L c) 0 ∙ bit_zero (flags L c / 2) ∙ omega (arith, byte_bound (has_run L c), byte_bound (has_empty_run L c))

byte_test : (b : Bool) → eqb (bool_byte b) 1 ≡ b
byte_test true = refl
byte_test false = refl

pub run_flag : (L : Library) (c : ℕ) → in_column (card_number L c 0) 0 ≡ has_run L c
unfolding card in_column
run_flag L c = ap (λ (n : ℕ). eqb n 1) (run_bit L c) ∙ byte_test (has_run L c)

pub empty_flag : (L : Library) (c : ℕ) → in_column (card_number L c 0) 1 ≡ has_empty_run L c
unfolding card in_column
empty_flag L c = ap (λ (n : ℕ). eqb n 1) (empty_bit L c) ∙ byte_test (has_empty_run L c)

-- "The count of changeable facts takes bits 8 to 16."
pub flags_low : (L : Library) → L.facts ≤ column_width → (c : ℕ) → card_number L c 0 < 2 ^ 17
unfolding card flags changeable
flags_low L high c =
    omega (arith, count_le L.facts (λ (f : ℕ). possible_outcome L last_set c f || possible_outcome L last_cleared c f), byte_bound (has_run L c), byte_bound (has_empty_run L c))

flags_right : (L : Library) → L.facts ≤ column_width → (c : ℕ) → Flags L c (card_number L c)
unfolding card flags
flags_right L high c =
    let run = has_run L c in
    let empty = has_empty_run L c in
    let n = changeable L c in
    let low = run_bit L c in
    let second = empty_bit L c in
    record {
      run = Iff.trans ((λ e. (byte_true run).0 (sym low ∙ e)), λ e. low ∙ (byte_true run).1 e) (has_run_iff L c);
      empty_run = Iff.trans ((λ e. (byte_true empty).0 (sym second ∙ e)), λ e. second ∙ (byte_true empty).1 e) (has_empty_run_iff L c);
      count = flags_count L c ∙ changeable_count L c;
      between = λ k l u. middle_bits (bool_byte run) (bool_byte empty) n k (byte_bound run) (byte_bound empty) l u;
      above = λ k l. bit_high 17 (flags L c) k (flags_low L high c) l;
    }

-- ---- the blank card

module _ (L : Library) (c : ℕ) (none : has_run L c ≡ false) where
  claim_blank : (p : Claim) (f : ℕ) → claimed L p c f ≡ false
  claim_blank (some_run v m) f = blank_columns (view_column v m) L c f none
  claim_blank (every_run v m) f = ap (λ (b : Bool). b && not (broken_in L v m c f)) none

  word_blank : (p : Claim) → claim_word L p c ≡ 0
  unfolding claim_word
  word_blank p =
      column_same L.facts (λ (f : ℕ). claimed L p c f) (λ (f : ℕ). false) (λ f l. claim_blank p f) ∙ column_none L.facts

  flags_blank : flags L c ≡ 0
  unfolding flags changeable
  flags_blank =
      let empty = blank_columns empty_column L c 0 none in
      let count : changeable L c ≡ 0 =
      count_same L.facts (λ (f : ℕ). possible_outcome L last_set c f || possible_outcome L last_cleared c f) (λ (f : ℕ). false)
      (λ f l. ap₂ ◌||◌ (blank_columns (question_column last_set) L c f none) (blank_columns (question_column last_cleared) L c f none))
      ∙ count_none L.facts in
      omega (arith, ap bool_byte none, ap bool_byte empty, count)

  pub card_blank : Blank (card_number L c)
  unfolding card
  card_blank = by_number (λ j. card_number L c j ≡ 0) flags_blank (λ k. card_column L c k ∙ word_blank (claim k))

pub card_right : (L : Library) → L.facts ≤ column_width → (c : ℕ) → Card L c (card_number L c)
card_right L high c =
    record {
      columns = columns_right L c;
      facts_only = facts_only L c;
      blank = (
        (λ e w r. let one = (flags_right L high c).run.1 (w, r) in
            let zero_bit : bit (card_number L c 0) 0 ≡ 0 = ap (λ (n : ℕ). bit n 0) (e 0 (omega arith)) ∙ bit_none 0 in
            omega arith),
        λ none. card_blank L c ((no_run_iff L c).1 none),
      );
      flags = flags_right L high c;
    }

-- ---- demand 3 over the numbers of a card

module _ (L : Library) (c : ℕ) where
  always_run : (v : View) (m : Mark) → m ≢ untouched → (w : List Item) → Run L c w → (f : Fact L)
      → bit (claim_word L (every_run v m) c) f.0 ≡ 1 → view_outcome L v f.0 w ≡ m
  always_run v m touch w r f e = ((always_iff L v m c f.0 touch).0 ((claim_holds L (every_run v m) c f).0 e)).1 w r

  may_run : (v : View) (m : Mark) (w : List Item) → Run L c w → (f : Fact L) → view_outcome L v f.0 w ≡ m
      → bit (claim_word L (some_run v m) c) f.0 ≡ 1
  may_run v m w r f o = (claim_holds L (some_run v m) c f).1 ((view_iff L v m c f.0).1 (w, r, o))

  runs_kept : (w : List Item) → Run L c w → (s : State L) → Executes L w s → (f : Fact L) → Kept L (card_number L c) w s f
  unfolding card
  runs_kept w r s ex f =
      record {
        needed = λ e. needed_stood (domain_of L) f w s ex (always_run (touches first) present present≢untouched w r f e);
        set = λ e. set_stands (domain_of L) f w s (always_run (touches last) present present≢untouched w r f e);
        cleared = λ e. cleared_falls (domain_of L) f w s (always_run (touches last) absent absent≢untouched w r f e);
        stands = λ e. (end_standing (domain_of L) f w s ex).stands (always_run standing present present≢untouched w r f e);
      }

  runs_changed : (w : List Item) → Run L c w → (s : State L) → (f : Fact L) → Changed L (card_number L c) w s f
  unfolding card
  runs_changed w r s f =
      record {
        gained = λ e q. may_run (touches last) present w r f (gained_set (domain_of L) f w s e q);
        lost = λ q e. may_run (touches last) absent w r f (lost_cleared (domain_of L) f w s q e);
      }

  missing_right : (a : Always) (f : Fact L) → Missing L c (card_number L c) a f
  unfolding card
  missing_right needed f =
      Iff.trans (claim_lacks L (claim always_needed) c f) (missing_iff L (touches first) present c f.0 present≢untouched)
  missing_right set f = Iff.trans (claim_lacks L (claim always_set) c f) (missing_iff L (touches last) present c f.0 present≢untouched)
  missing_right cleared f =
      Iff.trans (claim_lacks L (claim always_cleared) c f) (missing_iff L (touches last) absent c f.0 absent≢untouched)

  pub runs_right : Runs L c (card_number L c)
  runs_right = record { kept = runs_kept; changed = runs_changed; missing = missing_right }

-- ---- numbers found elsewhere that are the same

pub place_low : (k : CardColumn) → place k < card_numbers
place_low always_needed = omega arith
place_low may_need = omega arith
place_low may_set = omega arith
place_low may_clear = omega arith
place_low always_set = omega arith
place_low always_cleared = omega arith
place_low always_stands = omega arith
place_low may_first_set = omega arith
place_low may_first_untouched = omega arith
place_low may_last_untouched = omega arith
place_low may_end_cleared = omega arith
place_low may_end_unmentioned = omega arith

module _ (L : Library) (c : ℕ) (word : ℕ → ℕ) (same : (k : ℕ) → k < card_numbers → word k ≡ card_number L c k) where
  same_column : (k : CardColumn) → word (place k) ≡ card_number L c (place k)
  same_column k = same (place k) (place_low k)

  pub card_same : Card L c (card_number L c) → Card L c word
  card_same card =
      let flags = card.flags in
      record {
        columns = λ run f k. rw (same_column k) (card.columns run f k);
        facts_only = λ k f u. rw (same_column k) (card.facts_only k f u);
        blank = (
          (λ none. card.blank.0 (λ k l. sym (same k l) ∙ none k l)),
          λ none k l. same k l ∙ card.blank.1 none k l,
        );
        flags =
            record {
              run = rw (same 0 (omega arith)) flags.run;
              empty_run = rw (same 0 (omega arith)) flags.empty_run;
              count = rw (same 0 (omega arith), same_column may_set, same_column may_clear) flags.count;
              between = rw (same 0 (omega arith)) flags.between;
              above = rw (same 0 (omega arith)) flags.above;
            };
      }

  pub runs_same : Runs L c (card_number L c) → Runs L c word
  runs_same runs =
      record {
        kept = λ w r s ex f.
            let kept = runs.kept w r s ex f in
            record {
              needed = rw (same_column always_needed) kept.needed;
              set = rw (same_column always_set) kept.set;
              cleared = rw (same_column always_cleared) kept.cleared;
              stands = rw (same_column always_stands) kept.stands;
            };
        changed = λ w r s f.
            let changed = runs.changed w r s f in
            record { gained = rw (same_column may_set) changed.gained; lost = rw (same_column may_clear) changed.lost };
        missing = λ a f. rw (same_column (column_of a)) (runs.missing a f);
      }
