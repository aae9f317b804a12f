-- The words of bytes, taken four bytes at a time.
-- Assumes nothing.
use Rattle.std.proofs.Common.{◌≡◌, ℕ, ◌/◌, ◌<◌, ◌≤◌, ◌+◌, List, [], ◌∷◌, length, map, take, drop, get_or, refl, ap, ap₂, sym, ◌∙◌, ◌++◌, set, zero-add, add-one, arith}
use Rattle.std.proofs.lemmas.List.{get_or-map}
use Rattle.std.proofs.lemmas.List.Edits.{paste_all}
use Rattle.std.proofs.Math.Seq.{paste, paste-suc}
use Rattle.std.specs.Int.{from_le_bytes, w32}
use Rattle.std.specs.Simd.{first_chunks}
use Rattle.text.specs.Words.{word, words_of}

le_word : (a b c d : ℕ) (bytes : List ℕ) → from_le_bytes w32 (take 4 (a ∷ b ∷ c ∷ d ∷ bytes)) ≡ word a b c d
le_word a b c d bytes = omega arith

pub length_words : (bytes : List ℕ) → length (words_of bytes) ≡ length bytes / 4
unfolding words_of
length_words [] = refl
length_words (a ∷ []) = refl
length_words (a ∷ b ∷ []) = refl
length_words (a ∷ b ∷ c ∷ []) = refl
length_words (a ∷ b ∷ c ∷ d ∷ bytes) = omega (arith, length_words bytes)

words_by_four : (bytes : List ℕ) → map (from_le_bytes w32) (first_chunks 4 (length (words_of bytes)) bytes) ≡ words_of bytes
unfolding words_of
words_by_four [] = refl
words_by_four (a ∷ []) = refl
words_by_four (a ∷ b ∷ []) = refl
words_by_four (a ∷ b ∷ c ∷ []) = refl
words_by_four (a ∷ b ∷ c ∷ d ∷ bytes) = ap₂ ◌∷◌ (le_word a b c d bytes) (words_by_four bytes)

pub word_at : (bytes : List ℕ) (fours : List (List ℕ)) (i : ℕ) → fours ≡ first_chunks 4 (length bytes / 4) bytes → i < length fours
    → from_le_bytes w32 (get_or fours i []) ≡ get_or (words_of bytes) i 0
word_at bytes fours i e l =
    sym (get_or-map (from_le_bytes w32) fours i [] 0 l)
    ∙ ap (λ xs. get_or (map (from_le_bytes w32) xs) i 0) e
    ∙ ap (λ n. get_or (map (from_le_bytes w32) (first_chunks 4 n bytes)) i 0) (sym (length_words bytes))
    ∙ ap (λ ws. get_or ws i 0) (words_by_four bytes)

-- one word more is written, and all are
module _ (bytes old words : List ℕ) (i : ℕ) (so_far : words ≡ paste old 0 (words_of bytes) i) where
  pub words_turn : (w : ℕ) → i < length bytes / 4 → length bytes / 4 ≤ length old → w ≡ get_or (words_of bytes) i 0
      → set words i w ≡ paste old 0 (words_of bytes) (i + 1)
  words_turn w l room e =
      ap₂ (λ ws v. set ws i v) so_far e
      ∙ ap (λ k. set (paste old 0 (words_of bytes) i) k (get_or (words_of bytes) i 0)) (sym (zero-add i))
      ∙ paste-suc old 0 (words_of bytes) i 0 (omega arith) (omega (arith, length_words bytes))
      ∙ ap (paste old 0 (words_of bytes)) (sym (add-one i))

  pub words_done : length bytes / 4 ≤ i → i ≤ length bytes / 4 → words ≡ words_of bytes ++ drop (length bytes / 4) old
  words_done all within =
      so_far ∙ paste_all old 0 (words_of bytes) i (omega (arith, length_words bytes))
      ∙ ap (λ k. words_of bytes ++ drop k old) (omega arith)
