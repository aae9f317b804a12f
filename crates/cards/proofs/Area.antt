-- The cards in an area: where the words and the numbers of each card stand, and that a library's cards are the only words that say what its
-- cards say.
-- It has: `length_card`, `length_cards`; of numbers laid out in an area `part_flags`, `part_numbers`, `part_holds`, and of a library's cards
-- `card_flags`, `card_numbers_lem`, `card_has`; `all_cards`, `cards_unique`.
-- Assumes nothing.
use Prim.Native.Nat.{ℕ, zero, suc, ◌+◌, ◌-◌, ◌*◌, ◌/◌, ◌%◌, ◌^◌, ◌≤◌, ◌<◌}
use native.Mathlib.Nat.{add-zero, zero-add, add-suc, suc-add, le_of_suc-le-suc, lt_of_lt_of_le}
use native.Mathlib.Omega.{arith}
use mathlib.Core.Path.{◌≡◌, refl, sym, ap, subst, ◌∙◌}
use mathlib.Core.Bool.{Bool}
use mathlib.Core.List.{List, [], ◌++◌, append_assoc, append-nil}
use lib.ListN.{length, get_or, take, drop, length-append, length-drop}
use lib.Seq.{get_or-drop, get_or-take, drop-drop, drop-append-add, length-take-le, ext_get_or}
use lib.Pow.{pow_mono}
use Rattle.column.specs.Column.{column}
use Rattle.column.specs.Sets.{in_column}
use Rattle.column.specs.Words.{words, number, block, facts_in}
use Rattle.column.proofs.Bits.{column_lt}
use Rattle.column.proofs.Operations.{in_column_lem}
use Rattle.column.proofs.Words.{word_block, number_words, words_number}
use Rattle.library.specs.Library.{Library}
use Rattle.cards.specs.Layout.{CardColumn, always_needed, may_need, may_set, may_clear, always_set, always_cleared, always_stands}
use Rattle.cards.specs.Layout.{may_first_set, may_first_untouched, may_last_untouched, may_end_cleared, may_end_unmentioned}
use Rattle.cards.specs.Layout.{place, first_word, card_numbers, column_words, column_width, card_words, laid}
use Rattle.cards.specs.Card.{claim, claimed, claim_word, card, card_number, cards_from, cards}
use Rattle.cards.specs.Area.{part_word, part_has, part_number, AllCards}
use Rattle.cards.proofs.Meaning.{by_number, card_column, card_right, card_same, flags_low, place_low}
use Rattle.cards.proofs.Unique.{card_unique}
use Rattle.cards.proofs.Laid.{length_laid, laid_flags, laid_column, laid_word, AllNarrow, narrow_append, narrow_part, laid_narrow}

pub length_card : (L : Library) (c : ℕ) → length (card L c) ≡ card_numbers
unfolding card
length_card L c = refl

pub length_part : (L : Library) (c : ℕ) → length (laid (card L c)) ≡ card_words
length_part L c = length_laid (card L c) 12 (length_card L c)

length_from : (L : Library) (c n : ℕ) → length (cards_from L c n) ≡ card_words * n
unfolding cards_from
length_from L c zero = refl
length_from L c (suc n) = omega (arith, length-append (laid (card L c)) (cards_from L (suc c) n), length_part L c, length_from L (suc c) n)

pub length_cards : (L : Library) → length (cards L) ≡ card_words * length L.sequences
unfolding cards
length_cards L = length_from L 0 (length L.sequences)

-- ---- a card that stands in part c of an area

-- the flags have number 0, and each column one above it
column_place : (k : CardColumn) → place k ≡ suc (place k - 1)
column_place always_needed = refl
column_place may_need = refl
column_place may_set = refl
column_place may_clear = refl
column_place always_set = refl
column_place always_cleared = refl
column_place always_stands = refl
column_place may_first_set = refl
column_place may_first_untouched = refl
column_place may_last_untouched = refl
column_place may_end_cleared = refl
column_place may_end_unmentioned = refl

module _ (area numbers more : List ℕ) (c : ℕ) (here : drop (card_words * c) area ≡ laid numbers ++ more) (long : length numbers ≡ card_numbers) where
  part_at : (i : ℕ) → part_word area c i ≡ get_or (laid numbers ++ more) i 0
  part_at i = sym (get_or-drop (card_words * c) area i 0) ∙ ap (λ (ws : List ℕ). get_or ws i 0) here

  pub part_flags : part_word area c 0 ≡ get_or numbers 0 0
  part_flags = part_at 0 ∙ laid_flags numbers more (omega arith)

  -- the number of each column is that of its words
  pub part_numbers : ((k : ℕ) → k < card_numbers → get_or numbers k 0 < 2 ^ column_width) → (k : ℕ) → k < card_numbers → part_number area c k ≡ get_or numbers k 0
  part_numbers low zero l = part_flags
  part_numbers low (suc k) l =
      let place : card_words * c + 1 + column_words * k ≡ card_words * c + (1 + column_words * k) = omega arith in
      ap (λ (i : ℕ). number (take column_words (drop i area))) place
      ∙ ap (λ (ws : List ℕ). number (take column_words ws)) (sym (drop-drop (1 + column_words * k) (card_words * c) area) ∙ ap (drop (1 + column_words * k)) here)
      ∙ ap number (laid_column numbers more k (omega arith))
      ∙ number_words column_words (get_or numbers (suc k) 0) (low (suc k) l)

  -- where a column is that of a test, its facts are those of which the test holds
  pub part_holds : (k : CardColumn) (n : ℕ) (p : ℕ → Bool) → get_or numbers (place k) 0 ≡ column n p → (f : ℕ) → f < n → f < column_width → part_has area c k f ≡ p f
  part_holds k n p is f l u =
      let at = column_place k in
      let word : f / 64 < column_words = omega arith in
      let whole : 64 * (f / 64) + f % 64 ≡ f = omega arith in
      ap (λ (w : ℕ). in_column w (f % 64))
      (part_at (first_word k + f / 64)
      ∙ laid_word numbers more (place k - 1) (f / 64) (omega (arith, place_low k)) word
      ∙ ap (λ (x : ℕ). get_or (words column_words x) (f / 64) 0) (ap (λ (i : ℕ). get_or numbers i 0) (sym at) ∙ is)
      ∙ word_block column_words n (f / 64) p word)
      ∙ in_column_lem (facts_in n (f / 64)) (block (f / 64) p) (f % 64) (omega arith)
      ∙ ap p whole

-- ---- the cards of a library

-- from where the part of a sequence begins, its card stands, and then others
from_part : (L : Library) (rest : List ℕ) (c n i : ℕ) → i < n
    → (more : List ℕ) × (drop (card_words * i) (cards_from L c n ++ rest) ≡ laid (card L (c + i)) ++ more)
unfolding cards_from
from_part L rest c zero i l = absurd (omega arith)
from_part L rest c (suc n) zero l = (
  cards_from L (suc c) n ++ rest,
  append_assoc (laid (card L c)) (cards_from L (suc c) n) rest ∙ ap (λ (d : ℕ). laid (card L d) ++ (cards_from L (suc c) n ++ rest)) (sym (add-zero c)),
)
from_part L rest c (suc n) (suc i) l =
    let (more, here) = from_part L rest (suc c) n i (le_of_suc-le-suc l) in
    let later : card_words * suc i ≡ length (laid (card L c)) + card_words * i = omega (arith, length_part L c) in (
      more,
      ap (λ (j : ℕ). drop j (laid (card L c) ++ cards_from L (suc c) n ++ rest)) later
          ∙ ap (drop (length (laid (card L c)) + card_words * i)) (append_assoc (laid (card L c)) (cards_from L (suc c) n) rest)
          ∙ drop-append-add (laid (card L c)) (cards_from L (suc c) n ++ rest) (card_words * i)
          ∙ here
          ∙ ap (λ (d : ℕ). laid (card L d) ++ more) (suc-add c i ∙ sym (add-suc c i)),
    )

-- no number of a card passes its room
card_low : (L : Library) → L.facts ≤ column_width → (c k : ℕ) → k < card_numbers → card_number L c k < 2 ^ column_width
unfolding claim_word
card_low L few c =
    by_number (λ j. card_number L c j < 2 ^ column_width) (lt_of_lt_of_le (flags_low L few c) (pow_mono {i = 17} {j = column_width} (omega arith)))
    (λ k. subst (λ (n : ℕ). n < 2 ^ column_width) (sym (card_column L c k)) (lt_of_lt_of_le (column_lt L.facts (λ (f : ℕ). claimed L (claim k) c f)) (pow_mono few)))

module _ (L : Library) (rest : List ℕ) (c : ℕ) (low : c < length L.sequences) where
  abbrev area : List ℕ
  area = cards L ++ rest

  in_part : (more : List ℕ) × (drop (card_words * c) area ≡ laid (card L c) ++ more)
  unfolding cards
  in_part =
      let (more, here) = from_part L rest 0 (length L.sequences) c low in
      (more, here ∙ ap (λ (d : ℕ). laid (card L d) ++ more) (zero-add c))

  pub card_flags : part_word area c 0 ≡ card_number L c 0
  card_flags = part_flags area (card L c) in_part.0 c in_part.1 (length_card L c)

  module _ (few : L.facts ≤ column_width) where
    pub card_numbers_lem : (k : ℕ) → k < card_numbers → part_number area c k ≡ card_number L c k
    card_numbers_lem = part_numbers area (card L c) in_part.0 c in_part.1 (length_card L c) (card_low L few c)

    pub card_has : (k : CardColumn) (f : ℕ) → f < L.facts → part_has area c k f ≡ claimed L (claim k) c f
    unfolding claim_word
    card_has k f l =
        part_holds area (card L c) in_part.0 c in_part.1 (length_card L c) k L.facts (λ (g : ℕ). claimed L (claim k) c g) (card_column L c k) f l
        (lt_of_lt_of_le l few)

-- ---- a card by itself, in words

pub card_narrow : (L : Library) → L.facts ≤ column_width → (c : ℕ) → AllNarrow (laid (card L c))
card_narrow L few c = laid_narrow (card L c) (lt_of_lt_of_le (flags_low L few c) (pow_mono {i = 17} {j = 64} (omega arith)))

pub card_alone : (L : Library) → L.facts ≤ column_width → (c k : ℕ) → k < card_numbers → part_number (laid (card L c)) 0 k ≡ card_number L c k
card_alone L few c = part_numbers (laid (card L c)) (card L c) [] 0 (sym (append-nil (laid (card L c)))) (length_card L c) (card_low L few c)

-- ---- all cards, and no other words

narrow_from : (L : Library) → L.facts ≤ column_width → (c n : ℕ) → AllNarrow (cards_from L c n)
unfolding cards_from
narrow_from L few c zero = tt
narrow_from L few c (suc n) =
    narrow_append (laid (card L c)) (cards_from L (suc c) n) (card_narrow L few c) (narrow_from L few (suc c) n)

pub all_cards : (L : Library) → L.facts ≤ column_width → AllCards L (cards L)
unfolding cards
all_cards L few =
    record {
      long = length_cards L;
      narrow = narrow_from L few 0 (length L.sequences);
      card = λ c l.
          card_same L c (part_number (cards L) c)
          (λ k u. ap (λ (ws : List ℕ). part_number ws c k) (sym (append-nil (cards L))) ∙ card_numbers_lem L [] c l few k u) (card_right L few c);
    }

-- narrow words are fixed by the column that they are
words_fixed : (words others : List ℕ) → AllNarrow words → AllNarrow others → (i : ℕ) → i + column_words ≤ length words → i + column_words ≤ length others
    → number (take column_words (drop i words)) ≡ number (take column_words (drop i others)) → (b : ℕ) → b < column_words → get_or words (i + b) 0 ≡ get_or others (i + b) 0
words_fixed ws os low lows i l u same b k =
    sym (in_part ws)
    ∙ ap (λ (xs : List ℕ). get_or xs b 0)
    (sym (whole ws low l) ∙ ap (words column_words) same ∙ whole os lows u)
    ∙ in_part os
  where
    whole : (xs : List ℕ) → AllNarrow xs → i + column_words ≤ length xs → words column_words (number (take column_words (drop i xs))) ≡ take column_words (drop i xs)
    whole xs narrow room =
        ap (λ (n : ℕ). words n (number (take column_words (drop i xs)))) (sym (length-take-le column_words (drop i xs) (omega (arith, length-drop i xs))))
        ∙ words_number (take column_words (drop i xs)) (narrow_part column_words i xs narrow)

    in_part : (xs : List ℕ) → get_or (take column_words (drop i xs)) b 0 ≡ get_or xs (i + b) 0
    in_part xs = get_or-take column_words (drop i xs) b 0 k ∙ get_or-drop i xs b 0

-- narrow words of so many cards are fixed by the cards' numbers
pub words_by_numbers : (n : ℕ) (ws os : List ℕ) → length ws ≡ card_words * n → length os ≡ card_words * n → AllNarrow ws → AllNarrow os
    → ((c k : ℕ) → c < n → k < card_numbers → part_number ws c k ≡ part_number os c k) → ws ≡ os
words_by_numbers n ws os long longs low lows numbers = ext_get_or 0 ws os (long ∙ sym longs) (λ i l. at i (i % card_words) refl (omega arith))
  where
    at : (i r : ℕ) → i % card_words ≡ r → i / card_words < n → get_or ws i 0 ≡ get_or os i 0
    at i zero e l =
        let place : i ≡ card_words * (i / card_words) + 0 = omega arith in
        ap (λ (j : ℕ). get_or ws j 0) place ∙ numbers (i / card_words) 0 l (omega arith) ∙ ap (λ (j : ℕ). get_or os j 0) (sym place)
    at i (suc r) e l =
        let j = r / column_words in
        let from = card_words * (i / card_words) + 1 + column_words * j in
        let place : i ≡ from + r % column_words = omega arith in
        ap (λ (n : ℕ). get_or ws n 0) place
        ∙ words_fixed ws os low lows from (omega arith) (omega arith) (numbers (i / card_words) (suc j) l (omega arith)) (r % column_words) (omega arith)
        ∙ ap (λ (n : ℕ). get_or os n 0) (sym place)

-- the cards are the only words of which `AllCards` holds
pub cards_unique : (L : Library) (words others : List ℕ) → AllCards L words → AllCards L others → words ≡ others
cards_unique L ws os one two =
    words_by_numbers (length L.sequences) ws os one.long two.long one.narrow two.narrow
    (λ c k l u. card_unique L c (part_number ws c) (part_number os c) (one.card c l) (two.card c l) k u)
