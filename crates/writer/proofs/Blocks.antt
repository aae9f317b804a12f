-- A card by the tests that its columns are of, one block of 64 facts after the other: the blocks below k are the card of the facts in them, and
-- block k adds its word to each column and its count to the flags. It holds of any tests, and so of a library's cards and of a list's.
-- It has: `Written`, that the blocks below k are written, with `written_none`, `written_laid`; `block_written`, `all_written`.
-- Assumes nothing.
use Rattle.std.proofs.Common.{◌≡◌, ℕ, suc, ◌+◌, ◌*◌, ◌/◌, ◌^◌, ◌<◌, ◌≤◌, min, Bool, ◌||◌, List, [], ◌∷◌, ◌++◌, map, length, set, replicate, sym, refl, ap, ◌∙◌, append_assoc, arith, length-append}
use Rattle.std.proofs.lemmas.List.{set-append_left, set-append_right}
use Rattle.column.specs.Column.{column}
use Rattle.column.specs.Sets.{count_below}
use Rattle.column.specs.Words.{words, block, facts_in}
use Rattle.column.proofs.Operations.{count_le}
use Rattle.column.proofs.Words.{words_length, set_block, count_block}
use Rattle.cards.specs.Layout.{CardColumn, always_needed, may_need, may_set, may_clear, always_set, always_cleared, always_stands}
use Rattle.cards.specs.Layout.{may_first_set, may_first_untouched, may_last_untouched, may_end_cleared, may_end_unmentioned}
use Rattle.cards.specs.Layout.{column_words, columns_laid, laid}
use Rattle.writer.specs.Block.{columnwise, with_count, with_block}

-- ---- numbers by tests

-- what a test says of each fact
abbrev pub Test : Type 0
Test = ℕ → Bool

-- the columns of the facts below n
abbrev pub columns_below : ℕ → List Test → List ℕ
columns_below n ps = map (λ (p : Test). column n p) ps

-- the numbers of a card of the facts below n: the two flag bits, as a number, the test that is counted, and those of the columns
abbrev pub numbers_below : ℕ → ℕ → Test → List Test → List ℕ
numbers_below n bits change ps = (bits + 2 ^ 8 * count_below n change) ∷ columns_below n ps

-- the numbers of block k, where there are n facts
abbrev pub numbers_in : ℕ → ℕ → ℕ → Test → List Test → List ℕ
numbers_in n k bits change ps =
    (bits + 2 ^ 8 * count_below (facts_in n k) (block k change)) ∷ map (λ (p : Test). column (facts_in n k) (block k p)) ps

-- the columns of a card in their order
abbrev columns : List CardColumn
columns =
    always_needed ∷ may_need ∷ may_set ∷ may_clear ∷ always_set ∷ always_cleared ∷ always_stands ∷ may_first_set ∷ may_first_untouched
    ∷ may_last_untouched ∷ may_end_cleared ∷ may_end_unmentioned ∷ []

-- the tests of a card, and the one that is counted, by what is said of each column
abbrev pub tests_of : (CardColumn → Test) → List Test
tests_of says = map says columns

abbrev pub changes_of : (CardColumn → Test) → Test
changes_of says f = says may_set f || says may_clear f

-- ---- the words of the columns

module _ (n k : ℕ) (low : k < column_words) where
  -- block k written into columns that stand after other words
  columns_written : (before : List ℕ) (at : ℕ) → at ≡ length before + k → (ps : List Test)
      → columnwise (before ++ columns_laid (columns_below (min n (64 * k)) ps)) at (map (λ (p : Test). column (facts_in n k) (block k p)) ps)
      ≡ before ++ columns_laid (columns_below (min n (64 * suc k)) ps)
  unfolding columnwise columns_laid
  columns_written before at e [] = refl
  columns_written before at e (p ∷ ps) =
      let old = words column_words (column (min n (64 * k)) p) in
      let new = words column_words (column (min n (64 * suc k)) p) in
      let word = column (facts_in n k) (block k p) in
      let rest = columns_laid (columns_below (min n (64 * k)) ps) in
      let here : set (before ++ (old ++ rest)) at word ≡ before ++ new ++ rest =
      set-append_right before (old ++ rest) (length before) at word refl (omega arith)
      ∙ ap (λ (i : ℕ). before ++ set (old ++ rest) i word) (omega arith)
      ∙ ap (λ (r : List ℕ). before ++ r)
      (set-append_left old rest k word (omega (arith, words_length column_words (column (min n (64 * k)) p)))
      ∙ ap (λ (r : List ℕ). r ++ rest) (set_block column_words n k p low))
      ∙ sym (append_assoc before new rest) in
      let next : at + column_words ≡ length (before ++ new) + k = omega (arith, length-append before new, words_length column_words (column (min n (64 * suc k)) p)) in
      ap (λ (part : List ℕ). columnwise part (at + column_words) (map (λ (q : Test). column (facts_in n k) (block k q)) ps)) here
      ∙ columns_written (before ++ new) (at + column_words) next ps
      ∙ append_assoc before new (columns_laid (columns_below (min n (64 * suc k)) ps))

-- ---- a card

-- the blocks below k are written: of each column the facts in them, and the count of those that change
pub record Written (n k : ℕ) (change : Test) (ps : List Test) (part : List ℕ) : Type 0 where
  pub flags : ℕ
  pub count : flags / 2 ^ 8 ≡ count_below (min n (64 * k)) change
  pub words : part ≡ flags ∷ columns_laid (columns_below (min n (64 * k)) ps)

zero_columns : (ps : List Test) → replicate (column_words * length ps) 0 ≡ columns_laid (columns_below 0 ps)
unfolding columns_laid column words
zero_columns [] = refl
zero_columns (p ∷ ps) =
    let more : column_words * suc (length ps) ≡ suc (suc (suc (suc (column_words * length ps)))) = omega arith in
    ap (λ (m : ℕ). replicate m 0) more ∙ ap (λ (r : List ℕ). 0 ∷ 0 ∷ 0 ∷ 0 ∷ r) (zero_columns ps)

module _ (n : ℕ) (change : Test) (ps : List Test) where
  -- none are, in a part that is clear
  pub written_none : (m : ℕ) → m ≡ suc (column_words * length ps) → Written n 0 change ps (replicate m 0)
  unfolding count_below
  written_none m e =
      let none : 0 ≡ min n (64 * 0) = omega arith in
      record {
        flags = 0;
        count = ap (λ (j : ℕ). count_below j change) none;
        words = ap (λ (j : ℕ). replicate j 0) e ∙ ap (λ (r : List ℕ). 0 ∷ r) (zero_columns ps ∙ ap (λ (j : ℕ). columns_laid (columns_below j ps)) none);
      }

  module _ (bits : ℕ) (two : bits < 2 ^ 8) where
    -- the card of the facts below 64 k
    pub written_laid : (k : ℕ) (part : List ℕ) → part ≡ laid (numbers_below (min n (64 * k)) bits change ps) → Written n k change ps part
    unfolding laid
    written_laid k part e = record { flags = bits + 2 ^ 8 * count_below (min n (64 * k)) change; count = omega arith; words = e }

    pub block_written : (k : ℕ) → k < column_words → (part : List ℕ) → Written n k change ps part
        → with_block k (numbers_in n k bits change ps) part ≡ laid (numbers_below (min n (64 * suc k)) bits change ps)
    unfolding with_block laid
    block_written k low part is =
        let flags = with_count is.flags (bits + 2 ^ 8 * count_below (facts_in n k) (block k change)) in
        let counted : flags ≡ bits + 2 ^ 8 * count_below (min n (64 * suc k)) change =
        omega (arith, is.count, count_block n k change, count_le (min n (64 * suc k)) change) in
        ap (with_block k (numbers_in n k bits change ps)) is.words
        ∙ columns_written n k low (flags ∷ []) (1 + k) refl ps
        ∙ ap (λ (f : ℕ). f ∷ columns_laid (columns_below (min n (64 * suc k)) ps)) counted

  -- where no fact is in a later block, the card is whole
  pub all_written : (bits k : ℕ) → n ≤ 64 * k → numbers_below (min n (64 * k)) bits change ps ≡ numbers_below n bits change ps
  all_written bits k all = let whole : min n (64 * k) ≡ n = omega arith in ap (λ (m : ℕ). numbers_below m bits change ps) whole
