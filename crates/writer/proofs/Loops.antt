-- The stores of a row's numbers, and the loops of the card writer: over the columns of a card, over the cards of an area, over its words.
-- Assumes nothing.
use Rattle.std.proofs.Common.{◌≡◌, ℕ, zero, suc, ◌+◌, ◌*◌, ◌<◌, ◌≤◌, List, [], ◌∷◌, ◌++◌, length, get_or, take, drop, set, sym, refl, ap, ◌∙◌, ap₂, append_assoc, append-nil, add-zero, add-suc, suc-add, zero-add, add-one, arith, length-append, length-drop, length-set, drop_of_length-le, length-take-le, drop-cons, drop-drop, take_at, drop_at}
use Rattle.cards.specs.Layout.{column_words, card_words}
use Rattle.writer.specs.Card.{row_numbers}
use Rattle.writer.specs.Block.{columnwise, with_block, row_at, part_at, cards_with}

-- ---- the columns of a card

-- the columns below j have their word; the others are to come
pub record ColumnsAt (ws : List ℕ) (k : ℕ) (card₀ card : List ℕ) (j : ℕ) : Type 0 where
  pub long : length card ≡ length card₀
  pub rest : columnwise card₀ (1 + k) ws ≡ columnwise card (1 + column_words * j + k) (drop j ws)

module _ (ws : List ℕ) (k : ℕ) (card₀ : List ℕ) where
  pub columns_start : ColumnsAt ws k card₀ card₀ 0
  columns_start = record { long = refl; rest = ap (λ (i : ℕ). columnwise card₀ i ws) (omega arith) }

  module _ (card : List ℕ) (j : ℕ) (at : ColumnsAt ws k card₀ card j) where
    pub columns_next : j < length ws → ColumnsAt ws k card₀ (set card (1 + column_words * j + k) (get_or ws j 0)) (j + 1)
    unfolding columnwise
    columns_next l =
        let i = 1 + column_words * j + k in
        let word = get_or ws j 0 in
        let apart : i + column_words ≡ 1 + column_words * (j + 1) + k = omega arith in
        record {
          long = length-set card i word ∙ at.long;
          rest =
              at.rest ∙ ap (columnwise card i) (drop-cons ws j 0 l)
              ∙ ap₂ (λ (m n : ℕ). columnwise (set card i word) m (drop n ws)) apart (sym (add-one j));
        }

    pub columns_end : length ws ≤ j → card ≡ columnwise card₀ (1 + k) ws
    unfolding columnwise
    columns_end l = sym (at.rest ∙ ap (columnwise card (1 + column_words * j + k)) (drop_of_length-le ws {i = j} l))

-- ---- the cards of an area

length_columnwise : (part : List ℕ) (at : ℕ) (xs : List ℕ) → length (columnwise part at xs) ≡ length part
unfolding columnwise
length_columnwise part at [] = refl
length_columnwise part at (x ∷ xs) = length_columnwise (set part at x) (at + column_words) xs ∙ length-set part at x

length_block : (k : ℕ) (numbers part : List ℕ) → length (with_block k numbers part) ≡ length part
unfolding with_block
length_block k numbers part = length_columnwise _ (1 + k) (drop 1 numbers) ∙ length-set part 0 _

module _ (k : ℕ) (table area₀ : List ℕ) where
  -- what is written for sequence c
  abbrev written : ℕ → List ℕ
  written c = with_block k (row_numbers (row_at table c)) (part_at area₀ c)

  length_written : (c n : ℕ) → c < n → card_words * n ≤ length area₀ → length (written c) ≡ card_words
  length_written c n l room =
      length_block k (row_numbers (row_at table c)) (part_at area₀ c)
      ∙ length-take-le card_words (drop (card_words * c) area₀) (omega (arith, length-drop (card_words * c) area₀))

  length_cards : (c n : ℕ) → card_words * (c + n) ≤ length area₀ → length (cards_with k table area₀ c n) ≡ card_words * n
  unfolding cards_with
  length_cards c zero room = refl
  length_cards c (suc n) room =
      omega
      (arith, length-append (written c) (cards_with k table area₀ (suc c) n), length_written c (suc c) (omega arith) (omega arith), length_cards (suc c) n (omega (arith, suc-add c n)))

  cards_snoc : (c n : ℕ) → cards_with k table area₀ c (suc n) ≡ cards_with k table area₀ c n ++ written (c + n)
  unfolding cards_with
  cards_snoc c zero = append-nil (written c) ∙ ap written (sym (add-zero c))
  cards_snoc c (suc n) =
      ap (λ (r : List ℕ). written c ++ r) (cards_snoc (suc c) n)
      ∙ sym (append_assoc (written c) (cards_with k table area₀ (suc c) n) (written (suc c + n)))
      ∙ ap (λ (d : ℕ). written c ++ cards_with k table area₀ (suc c) n ++ written d) (suc-add c n ∙ sym (add-suc c n))

-- the block of the sequences below c is written, and the words past their cards stay
pub record CardsAt (k : ℕ) (table area₀ area : List ℕ) (c : ℕ) : Type 0 where
  pub cards : area ≡ cards_with k table area₀ 0 c ++ drop (card_words * c) area₀

module _ (k : ℕ) (table area₀ : List ℕ) where
  pub cards_start : CardsAt k table area₀ area₀ 0
  unfolding cards_with
  cards_start = record { cards = refl }

  -- the next card in its part: the words before the part are the cards so far, and those after it stay
  pub cards_next : (area : List ℕ) (c : ℕ) → CardsAt k table area₀ area c → card_words * (c + 1) ≤ length area₀ → (i : ℕ) (card : List ℕ) → i ≡ card_words
      → card ≡ with_block k (row_numbers (row_at table c)) (take i (drop (card_words * c) area))
      → CardsAt k table area₀ (take (card_words * c) area ++ (card ++ drop i (drop (card_words * c) area))) (c + 1)
  cards_next area c at room i card whole new =
      let done = cards_with k table area₀ 0 c in
      let rest = drop (card_words * c) area₀ in
      let long : length done ≡ card_words * c = length_cards k table area₀ 0 c (omega arith) in
      let ahead : drop (card_words * c) area ≡ rest = ap (drop (card_words * c)) at.cards ∙ drop_at done rest (card_words * c) long in
      let before : take (card_words * c) area ≡ done = ap (take (card_words * c)) at.cards ∙ take_at done rest (card_words * c) long in
      let here : card ≡ written k table area₀ (0 + c) =
      new ∙ ap₂ (λ (j : ℕ) (ws : List ℕ). with_block k (row_numbers (row_at table c)) (take j ws)) whole ahead
      ∙ ap (written k table area₀) (sym (zero-add c)) in
      let seam : card_words * c + card_words ≡ card_words * (c + 1) = omega arith in
      let past : drop i (drop (card_words * c) area) ≡ drop (card_words * (c + 1)) area₀ =
      ap₂ drop whole ahead ∙ drop-drop card_words (card_words * c) area₀ ∙ ap (λ (a : ℕ). drop a area₀) seam in
      record {
        cards =
            ap₂ ◌++◌ before (ap₂ ◌++◌ here past)
            ∙ sym (append_assoc done (written k table area₀ (0 + c)) (drop (card_words * (c + 1)) area₀))
            ∙ ap (λ (x : List ℕ). x ++ drop (card_words * (c + 1)) area₀)
            (sym (cards_snoc k table area₀ 0 c) ∙ ap (cards_with k table area₀ 0) (sym (add-one c)));
      }
