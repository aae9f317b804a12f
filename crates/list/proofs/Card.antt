-- What is written for the rows of a list, a block after the other, is the list's card: blank where a member has no run, and otherwise word by
-- word.
-- Assumes nothing.
use Prim.Native.Nat.{ℕ, suc, ◌+◌, ◌-◌, ◌*◌, ◌%◌, ◌^◌, ◌≤◌, ◌<◌, min}
use native.Mathlib.Numerals.{add-one}
use native.Mathlib.Omega.{arith}
use mathlib.Core.Path.{◌≡◌, refl, sym, ap, ap₂, ◌∙◌}
use mathlib.Core.Logic.{⊎_elim}
use mathlib.Core.Bool.{Bool, true, false, not, cond, ◌||◌, true≢false}
use mathlib.Core.List.{List, [], ◌∷◌}
use lib.ListN.{replicate}
use lib.Bits.{bit_and, bit_or, and_le_r}
use lib.Count.{ones}
use lib.Dec.{eqb}
use lib.Pow.{pow_pos}
use mir.Val.{bool_byte}
use Rattle.column.specs.Column.{bit, column}
use Rattle.column.specs.Sets.{in_column, difference, count_below}
use Rattle.column.specs.Words.{block, facts_in, all_in}
use Rattle.column.proofs.Bits.{byte_le, bit_le, bit_and_lem, bit_column, column_is}
use Rattle.column.proofs.Operations.{column_or, column_difference, column_all, ones_column}
use Rattle.general.specs.Scan.{every}
use Rattle.general.proofs.Bools.{passes_or_not}
use Rattle.cards.specs.Layout.{CardColumn, column_words, card_words, laid, may_need, may_set, may_clear}
use Rattle.cards.specs.Layout.{may_first_set, may_first_untouched, may_last_untouched, may_end_cleared, may_end_unmentioned}
use Rattle.row.specs.Words.{is_set}
use Rattle.row.specs.declared.words.Row.{Row}
use Rattle.writer.specs.Card.{flags_of, always_of, row_numbers}
use Rattle.writer.specs.Block.{with_block}
use Rattle.writer.proofs.Blocks.{Test, tests_of, changes_of, numbers_below, numbers_in, Written, written_none, written_laid, block_written}
use Rattle.cards.specs.Composed.{has_run, has_empty_run, list_has, kept, list_column, list_count, list_flags, composed_numbers, blank_numbers, list_numbers, list_card}
use Rattle.list.specs.Fold.{list_row, row_written, row_added}
use Rattle.list.proofs.Words.{list_bits, set_byte, list_run, list_empty}

-- ---- words of which the bits from n upward are dropped

module _ (n : ℕ) where
  kept_column : (a : ℕ) (p : ℕ → Bool) → ((f : ℕ) → f < n → is_set a f ≡ p f) → bit_and a (2 ^ n - 1) ≡ column n p
  kept_column a p same =
      column_is n (bit_and a (2 ^ n - 1)) p (omega (arith, and_le_r a (2 ^ n - 1), pow_pos n))
      (λ f l.
      let full : bit (2 ^ n - 1) f ≡ 1 = ap (λ (w : ℕ). bit w f) (sym (column_all n)) ∙ bit_column n (λ (k : ℕ). true) f l in
      omega (arith, bit_and_lem a (2 ^ n - 1) f, full, bit_le a f, set_byte a f, ap bool_byte (same f l)))

  -- no rival outcome
  always_column : n ≤ 64 → (a b : ℕ) (p q : ℕ → Bool) → a ≡ column n p → b ≡ column n q
      → always_of (2 ^ n - 1) a b ≡ column n (λ (f : ℕ). not (p f || q f))
  always_column u a b p q e d =
      ap₂ (difference 64) (sym (column_all n)) (ap₂ bit_or e d ∙ column_or n p q)
      ∙ column_difference 64 n (λ (f : ℕ). true) (λ (f : ℕ). p f || q f) u

module _ (facts : ℕ) (area ms : List ℕ) where
  -- what each column says
  abbrev says : CardColumn → Test
  says c f = list_has area ms f c

  -- the two flag bits
  abbrev bits : ℕ
  bits = bool_byte (every (has_run area) ms) + 2 * bool_byte (every (has_empty_run area) ms)

  bits_low : bits < 2 ^ 8
  bits_low = omega (arith, byte_le (every (has_run area) ms), byte_le (every (has_empty_run area) ms))

  -- the numbers of the facts below n
  abbrev below : ℕ → List ℕ
  below n = numbers_below n bits (changes_of says) (tests_of says)

  -- ---- a block

  module _ (k : ℕ) where
    abbrev n : ℕ
    n = facts_in facts k

    abbrev row : Row
    row = list_row area k ms

    few : n ≤ 64
    few = omega arith

    need_word : bit_and row.first.present (all_in facts k) ≡ column n (block k (says may_need))
    unfolding in_column
    need_word = kept_column n row.first.present (block k (says may_need)) (λ b l. (list_bits area k ms b (omega arith)).need)

    set_word : bit_and row.last.present (all_in facts k) ≡ column n (block k (says may_set))
    unfolding in_column
    set_word = kept_column n row.last.present (block k (says may_set)) (λ b l. (list_bits area k ms b (omega arith)).set)

    clear_word : bit_and row.last.absent (all_in facts k) ≡ column n (block k (says may_clear))
    unfolding in_column
    clear_word = kept_column n row.last.absent (block k (says may_clear)) (λ b l. (list_bits area k ms b (omega arith)).clear)

    first_set_word : bit_and row.first.absent (all_in facts k) ≡ column n (block k (says may_first_set))
    unfolding in_column
    first_set_word = kept_column n row.first.absent (block k (says may_first_set)) (λ b l. (list_bits area k ms b (omega arith)).first_set_lem)

    first_untouched_word : bit_and row.first.untouched (all_in facts k) ≡ column n (block k (says may_first_untouched))
    unfolding in_column
    first_untouched_word =
        kept_column n row.first.untouched (block k (says may_first_untouched)) (λ b l. (list_bits area k ms b (omega arith)).first_untouched_lem)

    last_untouched_word : bit_and row.last.untouched (all_in facts k) ≡ column n (block k (says may_last_untouched))
    unfolding in_column
    last_untouched_word =
        kept_column n row.last.untouched (block k (says may_last_untouched)) (λ b l. (list_bits area k ms b (omega arith)).last_untouched_lem)

    end_cleared_word : bit_and row.cleared (all_in facts k) ≡ column n (block k (says may_end_cleared))
    unfolding in_column
    end_cleared_word = kept_column n row.cleared (block k (says may_end_cleared)) (λ b l. (list_bits area k ms b (omega arith)).end_cleared)

    unmentioned_word_lem : bit_and row.unmentioned (all_in facts k) ≡ column n (block k (says may_end_unmentioned))
    unfolding in_column
    unmentioned_word_lem =
        kept_column n row.unmentioned (block k (says may_end_unmentioned)) (λ b l. (list_bits area k ms b (omega arith)).unmentioned)

    count_word : ones (bit_or (bit_and row.last.present (all_in facts k)) (bit_and row.last.absent (all_in facts k)))
        ≡ count_below n (block k (changes_of says))
    count_word =
        ap ones (ap₂ bit_or set_word clear_word ∙ column_or n (block k (says may_set)) (block k (says may_clear)))
        ∙ ones_column n (block k (changes_of says))

    flags_word : flags_of row.run row.empty (bit_and row.last.present (all_in facts k)) (bit_and row.last.absent (all_in facts k))
        ≡ bits + 2 ^ 8 * count_below n (block k (changes_of says))
    flags_word = omega (arith, list_run area k ms, list_empty area k ms, count_word)

    block_numbers_lem : row_written row (all_in facts k) ≡ numbers_in facts k bits (changes_of says) (tests_of says)
    unfolding row_numbers
    block_numbers_lem i =
        flags_word i
        ∷ always_column n few _ _ (block k (says may_first_set)) (block k (says may_first_untouched)) first_set_word first_untouched_word i
        ∷ need_word i ∷ set_word i ∷ clear_word i
        ∷ always_column n few _ _ (block k (says may_clear)) (block k (says may_last_untouched)) clear_word last_untouched_word i
        ∷ always_column n few _ _ (block k (says may_set)) (block k (says may_last_untouched)) set_word last_untouched_word i
        ∷ always_column n few _ _ (block k (says may_end_cleared)) (block k (says may_end_unmentioned)) end_cleared_word unmentioned_word_lem i
        ∷ first_set_word i ∷ first_untouched_word i ∷ last_untouched_word i ∷ end_cleared_word i ∷ unmentioned_word_lem i ∷ []

  -- ---- the blocks one after the other

  -- the blocks below k are written: nothing where a member has no run
  pub record ListAt (card : List ℕ) (k : ℕ) : Type 0 where
    pub blank : every (has_run area) ms ≡ false → card ≡ replicate card_words 0
    pub blocks : every (has_run area) ms ≡ true → Written facts k (changes_of says) (tests_of says) card
    pub whole : every (has_run area) ms ≡ true → 0 < k → card ≡ laid (below (min facts (64 * k)))

  pub list_start : (card : List ℕ) → card ≡ replicate card_words 0 → ListAt card 0
  list_start card clear =
      record {
        blank = λ none. clear;
        blocks = λ runs. rw clear (written_none facts (changes_of says) (tests_of says) card_words refl);
        whole = λ runs some. absurd (omega arith);
      }

  module _ (card : List ℕ) (k : ℕ) (at : ListAt card k) where
    pub list_next : k < column_words → (after : List ℕ) → after ≡ row_added facts k (list_row area k ms) card → ListAt after (k + 1)
    list_next low after e = ⊎_elim live dead (passes_or_not (every (has_run area) ms))
      where
        live : every (has_run area) ms ≡ true → ListAt after (k + 1)
        live runs =
            let odd : eqb ((list_row area k ms).run % 2) 0 ≡ false = ap (λ (m : ℕ). eqb m 0) (list_run area k ms ∙ ap bool_byte runs) in
            let written : after ≡ laid (below (min facts (64 * suc k))) =
            e ∙ ap (λ (b : Bool). cond b card (with_block k (row_written (list_row area k ms) (all_in facts k)) card)) odd
            ∙ ap (λ (ns : List ℕ). with_block k ns card) (block_numbers_lem k)
            ∙ block_written facts (changes_of says) (tests_of says) bits bits_low k low card (at.blocks runs) in
            let next : after ≡ laid (below (min facts (64 * (k + 1)))) = written ∙ ap (λ (j : ℕ). laid (below (min facts (64 * j)))) (sym (add-one k)) in
            record {
              blank = λ none. absurd (true≢false (sym runs ∙ none));
              blocks = λ so. written_laid facts (changes_of says) (tests_of says) bits bits_low (k + 1) after next;
              whole = λ so some. next;
            }

        dead : every (has_run area) ms ≡ false → ListAt after (k + 1)
        dead none =
            let even : eqb ((list_row area k ms).run % 2) 0 ≡ true = ap (λ (m : ℕ). eqb m 0) (list_run area k ms ∙ ap bool_byte none) in
            let same : after ≡ card = e ∙ ap (λ (b : Bool). cond b card (with_block k (row_written (list_row area k ms) (all_in facts k)) card)) even in
            record {
              blank = λ so. same ∙ at.blank none;
              blocks = λ runs. absurd (true≢false (sym runs ∙ none));
              whole = λ runs. absurd (true≢false (sym runs ∙ none));
            }

    pub list_end : 0 < k → min facts (64 * k) ≡ kept facts → card ≡ list_card facts area ms
    unfolding list_card list_numbers composed_numbers list_flags list_count list_column laid
    list_end some all = ⊎_elim live dead (passes_or_not (every (has_run area) ms))
      where
        live : every (has_run area) ms ≡ true → card ≡ list_card facts area ms
        live runs =
            at.whole runs some ∙ ap (λ (m : ℕ). laid (below m)) all
            ∙ sym (ap (λ (b : Bool). laid (cond b (composed_numbers facts area ms) blank_numbers)) runs)

        dead : every (has_run area) ms ≡ false → card ≡ list_card facts area ms
        dead none = at.blank none ∙ sym (ap (λ (b : Bool). laid (cond b (composed_numbers facts area ms) blank_numbers)) none)
