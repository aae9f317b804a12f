-- The rows of a block's outcome table, where the card writer takes them, and the cards that come of them: block by block they become the library's.
-- Assumes nothing.
use Prim.Native.Nat.{ℕ, zero, suc, ◌+◌, ◌*◌, ◌≤◌, ◌<◌}
use native.Mathlib.Nat.{add-zero, zero-add, add-suc, suc-add, le_of_suc-le-suc}
use native.Mathlib.Omega.{arith}
use mathlib.Core.Path.{◌≡◌, refl, sym, ap, ap₂, ◌∙◌}
use mathlib.Core.List.{List, [], ◌++◌, append-nil}
use lib.ListN.{length, take, drop}
use lib.Seq.{drop-drop}
use Rattle.library.specs.Library.{Library}
use Rattle.outcome.specs.Area.{outcome_word, outcome_rows, outcomes}
use Rattle.row.specs.Words.{row_words}
use Rattle.writer.specs.Card.{row_numbers}
use Rattle.writer.specs.Block.{with_block, row_at, part_at, cards_with}
use Rattle.writer.proofs.Below.{outcome_row}

-- row d of the rows from sequence c on, whatever stands after them
row_from : (L : Library) (k : ℕ) (rest : List ℕ) (c n d : ℕ) → d < n → row_at (outcome_rows L k c n ++ rest) d ≡ outcome_row L (c + d) k
unfolding outcome_rows outcome_word
row_from L k rest c zero d l = absurd (omega arith)
row_from L k rest c (suc n) zero l = ap (λ (e : ℕ). outcome_row L e k) (sym (add-zero c))
row_from L k rest c (suc n) (suc d) l =
    let seam : row_words * suc d ≡ row_words + row_words * d = omega arith in
    let all = outcome_rows L k c (suc n) ++ rest in
    ap (λ (i : ℕ). take row_words (drop i all)) seam
    ∙ ap (take row_words) (sym (drop-drop (row_words * d) row_words all))
    ∙ row_from L k rest (suc c) n d (le_of_suc-le-suc l)
    ∙ ap (λ (e : ℕ). outcome_row L e k) (suc-add c d ∙ sym (add-suc c d))

-- a row of the table
pub row_in : (L : Library) (k : ℕ) (rest : List ℕ) (d : ℕ) → d < length L.sequences → row_at (outcomes L k ++ rest) d ≡ outcome_row L d k
unfolding outcomes
row_in L k rest d l = row_from L k rest 0 (length L.sequences) d l ∙ ap (λ (e : ℕ). outcome_row L e k) (zero-add d)

pub row_alone : (L : Library) (k d : ℕ) → d < length L.sequences → row_at (outcomes L k) d ≡ outcome_row L d k
row_alone L k d l = ap (λ (t : List ℕ). row_at t d) (sym (append-nil (outcomes L k))) ∙ row_in L k [] d l

-- tables with the same rows give the same cards
cards_same : (k : ℕ) (t u area : List ℕ) (c n m : ℕ) → c + n ≤ m → ((d : ℕ) → d < m → row_at t d ≡ row_at u d) → cards_with k t area c n ≡ cards_with k u area c n
unfolding cards_with
cards_same k t u area c zero m l same = refl
cards_same k t u area c (suc n) m l same =
    ap₂ (λ (x y : List ℕ). x ++ y) (ap (λ (r : List ℕ). with_block k (row_numbers r) (part_at area c)) (same c (omega arith)))
    (cards_same k t u area (suc c) n m (omega arith) same)

pub table_cards : (L : Library) (k : ℕ) (rest area : List ℕ) (n : ℕ) → n ≡ length L.sequences → cards_with k (outcomes L k ++ rest) area 0 n ≡ cards_with k (outcomes L k) area 0 n
table_cards L k rest area n e =
    cards_same k (outcomes L k ++ rest) (outcomes L k) area 0 n (length L.sequences) (omega arith) (λ d l. row_in L k rest d l ∙ sym (row_alone L k d l))
