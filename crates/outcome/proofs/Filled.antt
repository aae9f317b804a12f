-- The words of a settled table are the outcome table's, and its dead entries name the sequences without a run.
-- Assumes nothing.
use Prim.Native.Nat.{ℕ, zero, suc, ◌+◌, ◌*◌, ◌^◌, ◌≤◌, ◌<◌}
use native.Mathlib.Nat.{add-zero, zero-add, add-suc, suc-add}
use native.Mathlib.Omega.{arith}
use mathlib.Core.Path.{◌≡◌, refl, sym, ap, ◌∙◌, subst}
use mathlib.Core.Bool.{Bool, true, false, not}
use mathlib.Core.List.{List, ◌∷◌, ◌++◌}
use lib.ListN.{length, get_or, drop, length-drop, take-append-drop, drop_of_length-le}
use lib.Seq.{get_or-drop}
use lib.Dec.{ltb}
use lib.Pow.{pow_mono}
use borrow.Author.Tests.{lt-ltb}
use mir.Val.{bool_byte}
use Rattle.column.specs.Column.{column}
use Rattle.column.specs.Sets.{in_column}
use Rattle.column.specs.Words.{block, facts_in}
use Rattle.column.proofs.Bits.{column_is, column_none}
use Rattle.column.proofs.Operations.{column_all, bit_byte}
use Rattle.library.specs.Library.{Library, Entry, item, call}
use Rattle.walk.specs.Walk.{names_none}
use Rattle.image.specs.declared.answer.Head.{Head}
use Rattle.runs.specs.Touch.{Side, last, first, Mark, present, absent, untouched}
use Rattle.runs.specs.Possible.{column_possible, has_run}
use Rattle.outcome.specs.Area.{block_of, outcome_word, outcome_rows, outcomes}
use Rattle.runs.specs.Rows.{column_number}
use Rattle.row.specs.Words.{row_words, row_in, words_of}
use Rattle.settling.specs.Settling.{Reached, Settled}
use Rattle.reading.specs.Walks.{is_dead}
use Rattle.outcome.specs.Visited.{visited}
use Rattle.row.specs.declared.words.Row.{Row}
use Rattle.library.proofs.Rows.{all_at}
use Rattle.outcome.proofs.Low.{LowRow, none_low, reached_low}
use Rattle.runs.proofs.Rows.{by_column}
use Rattle.outcome.proofs.Settled.{Given, blank_row, settled_bits}
use Rattle.rows.proofs.Places.{row_read}
use Rattle.outcome.proofs.Visited.{visits_lower}
use Rattle.settling.proofs.Visits.{reached_length}

-- a word of a table is the word of its row
word_row : (t : List ℕ) (c j : ℕ) → j < row_words → get_or t (row_words * c + j) 0 ≡ get_or (words_of (row_in t c)) j 0
word_row t c =
    by_column (λ (j : ℕ). get_or t (row_words * c + j) 0 ≡ get_or (words_of (row_in t c)) j 0) (ap (λ (k : ℕ). get_or t k 0) (add-zero (row_words * c))) refl side refl
    refl
  where
    side : (s : Side) (m : Mark) → get_or t (row_words * c + column_number s m) 0 ≡ get_or (words_of (row_in t c)) (column_number s m) 0
    side last present = refl
    side last absent = refl
    side last untouched = refl
    side first present = refl
    side first absent = refl
    side first untouched = refl

word_low : (n : ℕ) (r : Row) → LowRow n r → (j : ℕ) → j < row_words → get_or (words_of r) j 0 < 2 ^ n
word_low n r low j l = all_at (λ (w : ℕ). w < 2 ^ n) (words_of r) low 0 j l

-- a column in which all bits are alike
column_some : (n : ℕ) → 1 ≤ n → (b : Bool) → ltb 0 (column n (λ (f : ℕ). b)) ≡ b
column_some n some false = ap (ltb 0) (column_none n)
column_some n some true = lt-ltb 0 (column n (λ (f : ℕ). true)) (omega (arith, column_all n, pow_mono {i = 1} {j = n} some))

-- the column of runs says the same of all facts
run_word_lem : (L : Library) (k c : ℕ) → outcome_word L k 0 c ≡ column (facts_in L.facts k) (λ (f : ℕ). has_run L c)
unfolding outcome_word
run_word_lem L k c = refl

-- a table of n rows by its words
table_rows : (L : Library) (b n c : ℕ) (t : List ℕ) → length t ≡ row_words * n → ((i j : ℕ) → i < n → j < row_words → get_or t (row_words * i + j) 0 ≡ outcome_word L b j (c + i))
    → t ≡ outcome_rows L b c n
unfolding outcome_rows
table_rows L b zero c t e words = drop_of_length-le t {i = 0} (omega arith)
table_rows L b (suc n) c t e words =
    let w : (j : ℕ) → j < row_words → get_or t j 0 ≡ outcome_word L b j c =
    λ j k. ap (λ (i : ℕ). get_or t i 0) (sym (zero-add j)) ∙ words 0 j (omega arith) k ∙ ap (outcome_word L b j) (add-zero c) in
    let rest : drop row_words t ≡ outcome_rows L b (suc c) n =
    table_rows L b n (suc c) (drop row_words t) (omega (arith, length-drop row_words t))
    (λ i j l k. get_or-drop row_words t (row_words * i + j) 0 ∙ later i j ∙ words (suc i) j (omega arith) k ∙ ap (outcome_word L b j) (add-suc c i ∙ sym (suc-add c i))) in
    sym (take-append-drop row_words t) ∙ ap (λ (l : List ℕ). l ++ drop row_words t) (sym (row_read t 0 (omega arith)))
    ∙ (λ i.
    w 0 (omega arith) i ∷ w 1 (omega arith) i ∷ w 2 (omega arith) i ∷ w 3 (omega arith) i ∷ w 4 (omega arith) i ∷ w 5 (omega arith) i
    ∷ w 6 (omega arith) i ∷ w 7 (omega arith) i ∷ w 8 (omega arith) i ∷ w 9 (omega arith) i ∷ rest i)
  where
    later : (i j : ℕ) → get_or t (row_words + (row_words * i + j)) 0 ≡ get_or t (row_words * suc i + j) 0
    later i j = let n : row_words + (row_words * i + j) ≡ row_words * suc i + j = omega arith in ap (λ (k : ℕ). get_or t k 0) n

module _ (L : Library) (h : Head) (b : ℕ) (steps part places : List ℕ) (given : Given L h b steps part places) (low_steps : (a : ℕ) → LowRow (facts_in L.facts b) (row_in steps a))
    (t₀ t : List ℕ) (long : length t₀ ≡ row_words * h.sequences) (blank : (k : ℕ) → get_or t₀ k 0 ≡ 0)
    (reached : Reached (visited (block_of L.facts b) steps part places) h.sequences t₀ t)
    (settled : Settled (visited (block_of L.facts b) steps part places) h.sequences t) where
  low : (c : ℕ) → LowRow (facts_in L.facts b) (row_in t c)
  low =
      reached_low (facts_in L.facts b) (block_of L.facts b) refl steps part places low_steps h.sequences (omega arith)
      (λ c. subst (LowRow (facts_in L.facts b)) (sym (blank_row t₀ blank c)) (none_low (facts_in L.facts b))) reached

  word_is : (c j : ℕ) → j < row_words → get_or t (row_words * c + j) 0 ≡ outcome_word L b j c
  unfolding outcome_word in_column
  word_is c j k =
      word_row t c j k
      ∙ column_is (facts_in L.facts b) (get_or (words_of (row_in t c)) j 0) (block b (λ (f : ℕ). column_possible L j c f)) (word_low (facts_in L.facts b) (row_in t c) (low c) j k)
      (λ f l.
      bit_byte (get_or (words_of (row_in t c)) j 0) f
      ∙ ap bool_byte (settled_bits L h b steps part places given t₀ t (omega arith) blank reached settled f l j k c))

  pub table_filled : t ≡ outcomes L b
  unfolding outcomes
  table_filled =
      table_rows L b (length L.sequences) 0 t (omega (arith, reached_length (visits_lower (block_of L.facts b) steps part places h.sequences) reached, given.sequences))
      (λ i j l k. word_is i j k ∙ ap (outcome_word L b j) (sym (zero-add i)))

  -- an entry is dead exactly where it names a sequence without a run
  pub settled_dead : 1 ≤ facts_in L.facts b → (e : Entry) → is_dead t e ≡ names_none (λ d. has_run L d) e
  settled_dead some (item a) = refl
  settled_dead some (call d) =
      ap (λ (n : ℕ). not (ltb 0 n)) (ap (λ (k : ℕ). get_or t k 0) (sym (add-zero (row_words * d))) ∙ word_is d 0 (omega arith) ∙ run_word_lem L b d)
      ∙ ap not (column_some (facts_in L.facts b) some (has_run L d))
