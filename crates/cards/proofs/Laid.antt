-- Numbers laid out in words: where the words of each column stand, and that they are narrow. It holds of any list of numbers.
-- It has: `length_laid`, `laid_flags`, `laid_column`, `laid_word`, `laid_narrow`.
-- Assumes nothing.
use Prim.Native.Nat.{ℕ, zero, suc, ◌+◌, ◌*◌, ◌^◌, ◌<◌}
use native.Mathlib.Nat.{le_of_suc-le-suc}
use native.Mathlib.Omega.{arith}
use mathlib.Core.Path.{◌≡◌, refl, sym, ap, ◌∙◌}
use mathlib.Core.List.{List, [], ◌∷◌, ◌++◌, append_assoc}
use lib.ListN.{length, get_or, take, drop, length-append}
use lib.Seq.{take_at, drop-append-add, get_or-take, get_or-drop}
use Rattle.column.specs.Words.{words}
use Rattle.column.proofs.Words.{Narrow, words_length, words_narrow}
use Rattle.general.specs.Tests.{All}
use Rattle.cards.specs.Layout.{column_words, columns_laid, laid}

length_columns : (xs : List ℕ) → length (columns_laid xs) ≡ column_words * length xs
unfolding columns_laid
length_columns [] = refl
length_columns (x ∷ xs) = omega (arith, length-append (words column_words x) (columns_laid xs), words_length column_words x, length_columns xs)

-- a card of n numbers takes as many words
pub length_laid : (numbers : List ℕ) (n : ℕ) → length numbers ≡ suc n → length (laid numbers) ≡ 1 + column_words * n
unfolding laid
length_laid [] n long = absurd (omega arith)
length_laid (x ∷ xs) n long = omega (arith, length_columns xs)

-- the words of column j, whatever stands after the columns
column_at : (xs rest : List ℕ) (j : ℕ) → j < length xs → take column_words (drop (column_words * j) (columns_laid xs ++ rest)) ≡ words column_words (get_or xs j 0)
unfolding columns_laid
column_at [] rest j l = absurd (omega arith)
column_at (x ∷ xs) rest zero l =
    ap (take column_words) (append_assoc (words column_words x) (columns_laid xs) rest)
    ∙ take_at (words column_words x) (columns_laid xs ++ rest) column_words (words_length column_words x)
column_at (x ∷ xs) rest (suc j) l =
    let later : column_words * suc j ≡ length (words column_words x) + column_words * j = omega (arith, words_length column_words x) in
    ap (take column_words)
    (ap (λ (i : ℕ). drop i (words column_words x ++ columns_laid xs ++ rest)) later
    ∙ ap (drop (length (words column_words x) + column_words * j)) (append_assoc (words column_words x) (columns_laid xs) rest)
    ∙ drop-append-add (words column_words x) (columns_laid xs ++ rest) (column_words * j))
    ∙ column_at xs rest j (le_of_suc-le-suc l)

module _ (numbers rest : List ℕ) where
  pub laid_flags : 0 < length numbers → get_or (laid numbers ++ rest) 0 0 ≡ get_or numbers 0 0
  unfolding laid
  laid_flags = go numbers
    where
      go : (ns : List ℕ) → 0 < length ns → get_or (laid ns ++ rest) 0 0 ≡ get_or ns 0 0
      go [] l = absurd (omega arith)
      go (x ∷ xs) l = refl

  -- the words of number 1 + j
  pub laid_column : (j : ℕ) → suc j < length numbers → take column_words (drop (1 + column_words * j) (laid numbers ++ rest)) ≡ words column_words (get_or numbers (suc j) 0)
  unfolding laid
  laid_column j = go numbers
    where
      go : (ns : List ℕ) → suc j < length ns → take column_words (drop (1 + column_words * j) (laid ns ++ rest)) ≡ words column_words (get_or ns (suc j) 0)
      go [] l = absurd (omega arith)
      go (x ∷ xs) l =
          let after : 1 + column_words * j ≡ suc (column_words * j) = omega arith in
          ap (λ (i : ℕ). take column_words (drop i (x ∷ columns_laid xs ++ rest))) after ∙ column_at xs rest j (le_of_suc-le-suc l)

  -- word b of number 1 + j
  pub laid_word : (j b : ℕ) → suc j < length numbers → b < column_words
      → get_or (laid numbers ++ rest) (1 + column_words * j + b) 0 ≡ get_or (words column_words (get_or numbers (suc j) 0)) b 0
  laid_word j b l u =
      sym (get_or-drop (1 + column_words * j) (laid numbers ++ rest) b 0)
      ∙ sym (get_or-take column_words (drop (1 + column_words * j) (laid numbers ++ rest)) b 0 u)
      ∙ ap (λ (ws : List ℕ). get_or ws b 0) (laid_column j l)

-- ---- narrow words

abbrev pub AllNarrow : List ℕ → Type 0
AllNarrow ws = All (λ (w : ℕ). w < 2 ^ 64) ws

pub narrow_append : (xs ys : List ℕ) → AllNarrow xs → AllNarrow ys → AllNarrow (xs ++ ys)
narrow_append [] ys low lows = lows
narrow_append (x ∷ xs) ys low lows = (low.0, narrow_append xs ys low.1 lows)

-- the two ways to say so
all_narrow : (ws : List ℕ) → Narrow ws → AllNarrow ws
unfolding Narrow
all_narrow [] low = tt
all_narrow (w ∷ ws) low = (low.0, all_narrow ws low.1)

-- a part of narrow words
pub narrow_part : (n i : ℕ) (ws : List ℕ) → AllNarrow ws → Narrow (take n (drop i ws))
unfolding Narrow
narrow_part zero i ws low = tt
narrow_part (suc n) zero [] low = tt
narrow_part (suc n) zero (w ∷ ws) low = (low.0, narrow_part n zero ws low.1)
narrow_part (suc n) (suc i) [] low = tt
narrow_part (suc n) (suc i) (w ∷ ws) low = narrow_part (suc n) i ws low.1

columns_narrow : (xs : List ℕ) → AllNarrow (columns_laid xs)
unfolding columns_laid
columns_narrow [] = tt
columns_narrow (x ∷ xs) = narrow_append (words column_words x) (columns_laid xs) (all_narrow (words column_words x) (words_narrow column_words x)) (columns_narrow xs)

pub laid_narrow : (numbers : List ℕ) → get_or numbers 0 0 < 2 ^ 64 → AllNarrow (laid numbers)
unfolding laid
laid_narrow [] low = tt
laid_narrow (x ∷ xs) low = (low, columns_narrow xs)
