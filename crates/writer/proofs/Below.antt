-- The cards of a library, one block of 64 facts after the other. What is possible for the facts of a block is a table of rows; a row's numbers are
-- the block's, and when every block that has facts is written the area has the cards.
-- It has: `outcome_row`, `parts_below`; `row_numbers_lem`; `blocks_start`, `blocks_next`, `blocks_end`.
-- Assumes nothing.
use Rattle.std.proofs.Common.{◌≡◌, ℕ, zero, suc, ◌+◌, ◌*◌, ◌%◌, ◌^◌, ◌<◌, ◌≤◌, min, List, [], ◌∷◌, ◌++◌, length, take, drop, replicate, sym, refl, ap, ◌∙◌, ap₂, append_assoc, arith, length-append, drop-drop, take_at, drop_at}
use lib.ListN.{length-replicate, replicate-append-replicate}
use lib.Bits.{bit_or}
use lib.Count.{ones}
use mir.Val.{bool_byte}
use Rattle.column.specs.Column.{column}
use Rattle.column.specs.Sets.{difference, count_below}
use Rattle.column.specs.Words.{block, facts_in}
use Rattle.column.proofs.Bits.{byte_le, bit_zero, bit_column}
use Rattle.column.proofs.Operations.{column_or, column_difference, ones_column}
use Rattle.library.specs.Library.{Library}
use Rattle.runs.specs.Touch.{Mark, present, absent, untouched, other_touch, last, first}
use Rattle.runs.specs.View.{View, touches, standing}
use Rattle.runs.specs.Possible.{column_possible, possible_in, always_in, broken_in, has_run, has_empty_run}
use Rattle.cards.specs.Layout.{CardColumn, column_words, card_words, laid}
use Rattle.cards.specs.Card.{claim, claimed, claim_word, changeable, flags, card, cards_from, cards}
use Rattle.cards.proofs.Laid.{length_laid}
use Rattle.writer.specs.Card.{flags_of, always_of, row_numbers}
use Rattle.writer.specs.Block.{with_block, row_at, part_at, cards_with}
use Rattle.writer.proofs.Blocks.{Test, tests_of, changes_of, numbers_below, numbers_in, Written, written_none, written_laid, block_written, all_written}

module _ (L : Library) (c : ℕ) where
  -- what each column says
  abbrev says : CardColumn → Test
  says k f = claimed L (claim k) c f

  abbrev tests : List Test
  tests = tests_of says

  abbrev changes : Test
  changes = changes_of says

  -- the two flag bits
  abbrev bits : ℕ
  bits = bool_byte (has_run L c) + 2 * bool_byte (has_empty_run L c)

  bits_low : bits < 2 ^ 8
  bits_low = omega (arith, byte_le (has_run L c), byte_le (has_empty_run L c))

  -- the numbers of the facts below n
  abbrev pub card_below : ℕ → List ℕ
  card_below n = numbers_below n bits changes tests

  pub card_below_lem : card L c ≡ card_below L.facts
  unfolding card flags changeable claim_word
  card_below_lem = refl

  -- the numbers of block k
  abbrev pub block_numbers : ℕ → List ℕ
  block_numbers k = numbers_in L.facts k bits changes tests

  -- ---- the numbers of a row

  -- what is possible in block k: word j of the sequence's row
  abbrev pub outcome_in : ℕ → ℕ → ℕ
  outcome_in k j = column (facts_in L.facts k) (block k (λ (f : ℕ). column_possible L j c f))

  abbrev pub outcome_row : ℕ → List ℕ
  outcome_row k =
      outcome_in k 0 ∷ outcome_in k 1 ∷ outcome_in k 2 ∷ outcome_in k 3 ∷ outcome_in k 4 ∷ outcome_in k 5 ∷ outcome_in k 6 ∷ outcome_in k 7
      ∷ outcome_in k 8 ∷ outcome_in k 9 ∷ []

  module _ (k : ℕ) (some : 64 * k < L.facts) where
    abbrev n : ℕ
    n = facts_in L.facts k

    -- the lowest bit of a column says of the block's first fact what the column says
    lowest : (j : ℕ) → outcome_in k j % 2 ≡ bool_byte (column_possible L j c (64 * k + 0))
    lowest j = sym (bit_zero (outcome_in k j)) ∙ bit_column n (block k (λ (f : ℕ). column_possible L j c f)) 0 (omega arith)

    flags_in : flags_of (outcome_in k 0) (outcome_in k 1) (outcome_in k 2) (outcome_in k 3) ≡ bits + 2 ^ 8 * count_below n (block k changes)
    flags_in =
        let count : ones (bit_or (outcome_in k 2) (outcome_in k 3)) ≡ count_below n (block k changes) =
        ap ones (column_or n (block k (λ (f : ℕ). column_possible L 2 c f)) (block k (λ (f : ℕ). column_possible L 3 c f)))
        ∙ ones_column n (block k changes) in
        omega (arith, lowest 0, lowest 1, count)

    always_in_lem : (v : View) (m : Mark)
        → always_of (outcome_in k 0) (column n (block k (λ (f : ℕ). possible_in L v (other_touch m) c f))) (column n (block k (λ (f : ℕ). possible_in L v untouched c f)))
        ≡ column n (block k (λ (f : ℕ). always_in L v m c f))
    always_in_lem v m =
        let rivals = column_or n (block k (λ (f : ℕ). possible_in L v (other_touch m) c f)) (block k (λ (f : ℕ). possible_in L v untouched c f)) in
        ap (difference 64 (outcome_in k 0)) rivals
        ∙ column_difference 64 n (λ (b : ℕ). has_run L c) (block k (λ (f : ℕ). broken_in L v m c f)) (omega arith)

    pub row_numbers_lem : row_numbers (outcome_row k) ≡ block_numbers k
    unfolding row_numbers
    row_numbers_lem i =
        flags_in i ∷ always_in_lem (touches first) present i ∷ outcome_in k 5 ∷ outcome_in k 2 ∷ outcome_in k 3 ∷ always_in_lem (touches last) present i
        ∷ always_in_lem (touches last) absent i ∷ always_in_lem standing present i ∷ outcome_in k 6 ∷ outcome_in k 7 ∷ outcome_in k 4 ∷ outcome_in k 8
        ∷ outcome_in k 9 ∷ []

  -- ---- a part

  -- a part in which the blocks below k are written: before the first it is clear
  abbrev pub part_below : ℕ → List ℕ
  part_below zero = replicate card_words 0
  part_below (suc k) = laid (card_below (min L.facts (64 * suc k)))

  length_below : (k : ℕ) → length (part_below k) ≡ card_words
  length_below zero = length-replicate {A = ℕ} card_words 0
  length_below (suc k) = length_laid (card_below (min L.facts (64 * suc k))) 12 refl

  part_written : (k : ℕ) → Written L.facts k changes tests (part_below k)
  part_written zero = written_none L.facts changes tests card_words refl
  part_written (suc k) = written_laid L.facts changes tests bits bits_low (suc k) (part_below (suc k)) refl

  pub part_next : (k : ℕ) → k < column_words → with_block k (block_numbers k) (part_below k) ≡ part_below (suc k)
  part_next k low = block_written L.facts changes tests bits bits_low k low (part_below k) (part_written k)

-- ---- the area

module _ (L : Library) where
  -- the parts of n sequences from sequence c on, in which the blocks below k are written
  unfoldable pub parts_below : ℕ → ℕ → ℕ → List ℕ
  parts_below k c zero = []
  parts_below k c (suc n) = part_below L c k ++ parts_below k (suc c) n

  pub length_parts : (k c n : ℕ) → length (parts_below k c n) ≡ card_words * n
  unfolding parts_below
  length_parts k c zero = refl
  length_parts k c (suc n) = omega (arith, length-append (part_below L c k) (parts_below k (suc c) n), length_below L c k, length_parts k (suc c) n)

  clear_parts : (c n : ℕ) → replicate (card_words * n) 0 ≡ parts_below 0 c n
  unfolding parts_below
  clear_parts c zero = refl
  clear_parts c (suc n) =
      let more : card_words * suc n ≡ card_words + card_words * n = omega arith in
      ap (λ (m : ℕ). replicate m 0) more ∙ sym (replicate-append-replicate card_words (card_words * n) 0)
      ∙ ap (λ (r : List ℕ). replicate card_words 0 ++ r) (clear_parts (suc c) n)

  -- a clear area
  pub blocks_start : (n : ℕ) (area rest : List ℕ) → area ≡ replicate (card_words * n) 0 ++ rest → area ≡ parts_below 0 0 n ++ rest
  blocks_start n area rest e = e ∙ ap (λ (r : List ℕ). r ++ rest) (clear_parts 0 n)

  module _ (k : ℕ) (low : k < column_words) (some : 64 * k < L.facts) (table area rest : List ℕ) (all : ℕ)
      (rows : (d : ℕ) → d < all → row_at table d ≡ outcome_row L d k) where
    parts_next : (c n : ℕ) → c + n ≤ all → drop (card_words * c) area ≡ parts_below k c n ++ rest → cards_with k table area c n ≡ parts_below (suc k) c n
    unfolding cards_with parts_below
    parts_next c zero u e = refl
    parts_next c (suc n) u e =
        let after = parts_below k (suc c) n ++ rest in
        let from : drop (card_words * c) area ≡ part_below L c k ++ after = e ∙ append_assoc (part_below L c k) (parts_below k (suc c) n) rest in
        let here : part_at area c ≡ part_below L c k = ap (take card_words) from ∙ take_at (part_below L c k) after card_words (length_below L c k) in
        let seam : card_words * c + card_words ≡ card_words * suc c = omega arith in
        let next : drop (card_words * suc c) area ≡ after =
        ap (λ (i : ℕ). drop i area) (sym seam) ∙ sym (drop-drop card_words (card_words * c) area) ∙ ap (drop card_words) from
        ∙ drop_at (part_below L c k) after card_words (length_below L c k) in
        ap₂ (λ (x y : List ℕ). x ++ y)
        (ap₂ (with_block k) (ap row_numbers (rows c (omega arith)) ∙ row_numbers_lem L c k some) here ∙ part_next L c k low)
        (parts_next (suc c) n (omega arith) next)

    -- block k of every card written, by the rows of its table
    pub blocks_next : area ≡ parts_below k 0 all ++ rest
        → cards_with k table area 0 all ++ drop (card_words * all) area ≡ parts_below (suc k) 0 all ++ rest
    blocks_next e =
        ap₂ (λ (x y : List ℕ). x ++ y) (parts_next 0 all (omega arith) e)
        (ap (drop (card_words * all)) e ∙ drop_at (parts_below k 0 all) rest (card_words * all) (length_parts k 0 all))

  whole_part : (k c : ℕ) → 0 < k → L.facts ≤ 64 * k → part_below L c k ≡ laid (card L c)
  whole_part zero c some every = absurd (omega arith)
  whole_part (suc k) c some every = ap laid (all_written L.facts (changes L c) (tests L c) (bits L c) (suc k) every ∙ sym (card_below_lem L c))

  whole_parts : (k c n : ℕ) → 0 < k → L.facts ≤ 64 * k → parts_below k c n ≡ cards_from L c n
  unfolding parts_below cards_from
  whole_parts k c zero some every = refl
  whole_parts k c (suc n) some every = ap₂ (λ (x y : List ℕ). x ++ y) (whole_part k c some every) (whole_parts k (suc c) n some every)

  -- every block that has facts is written
  pub blocks_end : (k : ℕ) → 0 < k → L.facts ≤ 64 * k → parts_below k 0 (length L.sequences) ≡ cards L
  unfolding cards
  blocks_end k some every = whole_parts k 0 (length L.sequences) some every
