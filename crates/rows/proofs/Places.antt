-- The ten places of a row in a table, one after the other: what is stored at them, and what stands there.
-- Assumes nothing.
use Rattle.std.proofs.Common.{◌≡◌, ℕ, zero, suc, ◌+◌, ◌*◌, ◌≤◌, List, [], ◌∷◌, length, get_or, take, drop, refl, sym, ap, ◌∙◌, arith, drop-cons}
use Rattle.std.proofs.lemmas.List.Edits.{sets}
use Rattle.row.specs.Words.{row_words, row_in, with_row, words_of}
use Rattle.row.specs.declared.words.Row.{Row}

record Places (i : ℕ) : Type 0 where
  one : suc i ≡ i + 1
  two : suc (suc i) ≡ i + 2
  three : suc (suc (suc i)) ≡ i + 3
  four : suc (suc (suc (suc i))) ≡ i + 4
  five : suc (suc (suc (suc (suc i)))) ≡ i + 5
  six : suc (suc (suc (suc (suc (suc i))))) ≡ i + 6
  seven : suc (suc (suc (suc (suc (suc (suc i)))))) ≡ i + 7
  eight : suc (suc (suc (suc (suc (suc (suc (suc i))))))) ≡ i + 8
  nine : suc (suc (suc (suc (suc (suc (suc (suc (suc i)))))))) ≡ i + 9

places : (i : ℕ) → Places i
places i =
    record {
      one = omega arith;
      two = omega arith;
      three = omega arith;
      four = omega arith;
      five = omega arith;
      six = omega arith;
      seven = omega arith;
      eight = omega arith;
      nine = omega arith;
    }

-- a store at each place is the row written
pub stores : (table : List ℕ) (c : ℕ) (r : Row) → sets table (row_words * c) (words_of r) ≡ with_row table c r
stores table c r = let at = places (row_words * c) in cc

-- n words from place i on
reads : List ℕ → ℕ → ℕ → List ℕ
reads table i zero = []
reads table i (suc n) = get_or table i 0 ∷ reads table (suc i) n

reads_are : (table : List ℕ) (i n : ℕ) → i + n ≤ length table → reads table i n ≡ take n (drop i table)
unfolding reads
reads_are table i zero l = refl
reads_are table i (suc n) l =
    ap (λ (ws : List ℕ). get_or table i 0 ∷ ws) (reads_are table (suc i) n (omega arith))
    ∙ sym (ap (take (suc n)) (drop-cons table i 0 (omega arith)))

-- the words of a row are those that stand at its places
pub row_read : (table : List ℕ) (c : ℕ) → row_words * c + row_words ≤ length table
    → words_of (row_in table c) ≡ take row_words (drop (row_words * c) table)
unfolding reads
row_read table c l =
    let at = places (row_words * c) in
    let same : reads table (row_words * c) row_words ≡ words_of (row_in table c) = cc in
    sym same ∙ reads_are table (row_words * c) row_words l
