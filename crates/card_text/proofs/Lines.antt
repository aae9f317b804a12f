-- Lines: how long numerals in decimal are, and the pieces of a card's line, of all lines and of a refusal's line one in front of the other.
-- Assumes nothing.
use Prim.Native.Nat.{ℕ, suc, ◌+◌, ◌*◌, ◌-◌, ◌^◌, ◌≤◌, ◌<◌}
use native.Mathlib.Omega.{arith}
use mathlib.Core.Path.{◌≡◌, sym, ap, ap₂, ◌∙◌, subst}
use mathlib.Core.List.{List, [], ◌∷◌}
use lib.ListN.{length, take, drop, get_or}
use lib.Seq.{drop-cons}
use Rattle.column.specs.Words.{number}
use Rattle.general.proofs.Scan.{length_list_below, get_d_list_below}
use Rattle.cards.specs.Layout.{card_numbers, column_words, card_words}
use Rattle.cards.specs.Area.{part_number}
use Rattle.std.proofs.lemmas.List.{drop_all, length-drop, length-take-le}
use Rattle.text.specs.declared.area.Text.{Text}
use Rattle.text.specs.Text.{Put, PutWithin, DigitsAsked}
use Rattle.text.specs.Number.{numeral}
use Rattle.card_text.specs.Writers.{numbers_of, number_bytes, numbers_bytes, line_bytes}
use Rattle.card_text.specs.Line.{spaced, card_line, lines_from, card_lines, refused_text, at_text, refusal_line}
use Rattle.text.proofs.Text.{put_none, put_more}
use Rattle.text.proofs.Numeral.{numeral_length}

-- ---- how long numerals are

pub decimal_length : (w : ℕ) → w < 2 ^ 32 → length (numeral 10 w) ≤ 10
decimal_length w l = numeral_length 10 (omega arith) 9 w (omega arith)

pub long_length : (w : ℕ) → w < 2 ^ 64 → length (numeral 10 w) ≤ 20
long_length w l = numeral_length 10 (omega arith) 19 w (omega arith)

-- what a numeral in decimal asks
pub decimal_asked : (text : Text) (w : ℕ) → w < 2 ^ 32 → 10 ≤ text.begin → DigitsAsked text 10 (length (numeral 10 w))
decimal_asked text w l r = record { low = omega arith; high = omega arith; room = omega (arith, decimal_length w l) }

pub long_asked : (text : Text) (w : ℕ) → w < 2 ^ 64 → 20 ≤ text.begin → DigitsAsked text 10 (length (numeral 10 w))
long_asked text w l r = record { low = omega arith; high = omega arith; room = omega (arith, long_length w l) }

-- ---- the numbers of a card

module _ (cards : List ℕ) (c : ℕ) where
  length_numbers : length (numbers_of cards c) ≡ card_numbers
  unfolding numbers_of
  length_numbers = length_list_below (part_number cards c) card_numbers

  numbers_cut : (k : ℕ) → k < card_numbers → drop k (numbers_of cards c) ≡ part_number cards c k ∷ drop (suc k) (numbers_of cards c)
  unfolding numbers_of
  numbers_cut k l =
      drop-cons (numbers_of cards c) k 0 (omega (arith, length_numbers))
      ∙ ap (λ (x : ℕ). x ∷ drop (suc k) (numbers_of cards c)) (get_d_list_below (part_number cards c) card_numbers k 0 l)

  -- the flags are the number of one word
  flags_number : card_words * (c + 1) ≤ length cards → number (take 1 (drop (card_words * c) cards)) ≡ part_number cards c 0
  unfolding number
  flags_number fits =
      let first : card_words * c + 0 ≡ card_words * c = omega arith in
      ap (λ (ws : List ℕ). number (take 1 ws)) (drop-cons cards (card_words * c) 0 (omega arith))
      ∙ omega arith
      ∙ ap (λ (i : ℕ). get_or cards i 0) (sym first)

-- how long the part of n words from word a on is
pub part_length : (ws : List ℕ) (a n : ℕ) → a + n ≤ length ws → length (take ((a + n) - a) (drop a ws)) ≡ n
part_length ws a n fits = length-take-le ((a + n) - a) (drop a ws) (omega (arith, length-drop a ws)) ∙ omega arith

-- the columns from column k on stand in front, column 0 after the flags
pub record ColumnsAt (cards : List ℕ) (c : ℕ) (before : Text) (k : ℕ) (after : Text) : Type 0 where
  pub below : k < card_numbers
  pub put : Put before (spaced (drop (suc k) (numbers_of cards c))) after
  pub within : before.begin ≤ after.begin + number_bytes column_words * (card_numbers - 1 - k)

module _ (cards : List ℕ) (c : ℕ) (before : Text) where
  pub columns_start : ColumnsAt cards c before (card_numbers - 1) before
  unfolding spaced
  columns_start =
      let none : drop card_numbers (numbers_of cards c) ≡ [] = drop_all card_numbers (numbers_of cards c) (omega (arith, length_numbers cards c)) in
      record {
        below = omega arith;
        put = subst (λ xs. Put before (spaced xs) before) (sym none) (put_none before);
        within = omega arith;
      }

  module _ (k : ℕ) (middle : Text) (p : ColumnsAt cards c before k middle) (ws : List ℕ) (after : Text)
      (q : PutWithin (number_bytes (length ws)) middle (32 ∷ numeral 16 (number ws)) after) where
    -- the number that stands before these, by its words
    number_more : (j : ℕ) → j ≡ k → number ws ≡ part_number cards c j → Put before (spaced (drop j (numbers_of cards c))) after
    unfolding spaced
    number_more j same e =
        let cut : drop j (numbers_of cards c) ≡ number ws ∷ drop (suc k) (numbers_of cards c) =
        numbers_cut cards c j (omega (arith, p.below)) ∙ ap₂ (λ (x i : ℕ). x ∷ drop (suc i) (numbers_of cards c)) (sym e) same in
        subst (λ xs. Put before (spaced xs) after) (sym cut) (put_more before _ middle _ after p.put q.put)

    pub columns_next : (j n : ℕ) → suc j ≡ k → n ≡ column_words → ws ≡ take n (drop (card_words * c + 1 + column_words * j) cards) → length ws ≡ column_words
        → ColumnsAt cards c before j after
    columns_next j n next four part long =
        record {
          below = omega (arith, p.below);
          put = number_more (suc j) next (ap number part ∙ ap (λ m. number (take m (drop (card_words * c + 1 + column_words * j) cards))) four);
          within = omega (arith, p.below, p.within, q.within);
        }

    pub columns_end : (n : ℕ) → 0 ≡ k → n ≡ 1 → ws ≡ take n (drop (card_words * c) cards) → length ws ≡ 1 → card_words * (c + 1) ≤ length cards
        → PutWithin numbers_bytes before (spaced (numbers_of cards c)) after
    columns_end n none one part long fits =
        record {
          put = number_more 0 none (ap number part ∙ ap (λ m. number (take m (drop (card_words * c) cards))) one ∙ flags_number cards c fits);
          within = omega (arith, p.below, p.within, q.within);
        }

-- ---- a card's line

pub line_put : (numbers : List ℕ) (a₀ a₁ a₂ a₃ : Text) (c : ℕ) → c < 2 ^ 32 → Put a₀ (10 ∷ []) a₁ → PutWithin numbers_bytes a₁ (spaced numbers) a₂
    → Put a₂ (numeral 10 c) a₃ → PutWithin line_bytes a₀ (card_line c numbers) a₃
unfolding card_line
line_put numbers a₀ a₁ a₂ a₃ c l p q s =
    record {
      put = put_more a₀ _ a₂ _ a₃ (put_more a₀ _ a₁ _ a₂ p q.put) s;
      within = omega (arith, p.front.room, q.within, s.front.room, decimal_length c l);
    }

-- ---- all lines

-- the lines from sequence c on stand in front
pub record LinesAt (numbers : ℕ → List ℕ) (n : ℕ) (before : Text) (c : ℕ) (after : Text) : Type 0 where
  pub put : Put before (lines_from numbers c (n - c)) after
  pub within : before.begin ≤ after.begin + line_bytes * (n - c)

module _ (numbers : ℕ → List ℕ) (n : ℕ) (before : Text) where
  pub lines_start : LinesAt numbers n before n before
  unfolding lines_from
  lines_start =
      let none : n - n ≡ 0 = omega arith in
      record { put = subst (λ k. Put before (lines_from numbers n k) before) (sym none) (put_none before); within = omega arith }

  pub lines_next : (c d : ℕ) (middle after : Text) → d ≡ suc c → d ≤ n → LinesAt numbers n before d middle → PutWithin line_bytes middle (card_line c (numbers c)) after
      → LinesAt numbers n before c after
  unfolding lines_from
  lines_next c d middle after next l p q =
      let more : n - c ≡ suc (n - d) = omega arith in
      let later = subst (λ e. Put before (lines_from numbers e (n - d)) middle) next p.put in
      record {
        put = subst (λ k. Put before (lines_from numbers c k) after) (sym more) (put_more before _ middle _ after later q.put);
        within = omega (arith, p.within, q.within);
      }

  pub lines_end : (c : ℕ) (after : Text) → c ≤ 0 → LinesAt numbers n before c after → Put before (card_lines numbers n) after
  unfolding card_lines
  lines_end c after none p =
      let first : c ≡ 0 = omega arith in
      let all : n - c ≡ n = omega arith in
      subst (λ t. Put before t after) (ap₂ (lines_from numbers) first all) p.put

-- ---- a refusal's line

pub refusal_put : (a₀ a₁ a₂ a₃ a₄ a₅ : Text) (number position : ℕ) → Put a₀ (10 ∷ []) a₁ → Put a₁ (numeral 10 position) a₂ → Put a₂ at_text a₃
    → Put a₃ (numeral 10 number) a₄ → Put a₄ refused_text a₅ → Put a₀ (refusal_line number position) a₅
unfolding refusal_line
refusal_put a₀ a₁ a₂ a₃ a₄ a₅ number position p q s t u =
    put_more a₀ _ a₄ _ a₅ (put_more a₀ _ a₃ _ a₄ (put_more a₀ _ a₂ _ a₃ (put_more a₀ _ a₁ _ a₂ p q) s) t) u
