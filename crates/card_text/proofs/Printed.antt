-- What is printed for an image: the words that the bytes hold, the lines of the cards that the call writes, and where these are too many.
-- Assumes nothing.
use Prim.Native.Nat.{ℕ, zero, suc, ◌+◌, ◌*◌, ◌/◌, ◌%◌, ◌≤◌, ◌<◌}
use native.Mathlib.Omega.{arith}
use mathlib.Core.Path.{◌≡◌, refl, sym, ap, ap₂, ◌∙◌}
use mathlib.Core.Bool.{Bool, true, false, cond, ◌&&◌}
use mathlib.Core.List.{List, ◌++◌}
use lib.ListN.{length, take, drop}
use lib.Seq.{take_at, ext_get_or}
use lib.Dec.{eqb, ltb}
use borrow.Author.Tests.{lt-ltb, le-ltb, le-leb, lt-leb, eq-eqb, ne_eqb}
use Rattle.std.specs.Prelude.{Result, Ok, Err}
use Rattle.general.specs.Scan.{list_below}
use Rattle.general.proofs.Scan.{length_list_below, get_d_list_below}
use Rattle.rules.specs.Checked.{checked}
use Rattle.library.specs.Library.{Library, library_of}
use Rattle.library.specs.Accepted.{Counted}
use Rattle.image.specs.declared.answer.Head.{Head}
use Rattle.image.specs.declared.answer.Refusal.TheVariants.{CardArea}
use Rattle.library.proofs.Accepted.{faultless, counted}
use Rattle.image.specs.declared.answer.Refusal.{Refusal}
use Rattle.cards.specs.Layout.{card_numbers, column_width, card_words}
use Rattle.cards.specs.Area.{part_number}
use Rattle.cards.specs.Card.{card, cards}
use Rattle.cards.proofs.Area.{length_card, card_numbers_lem}
use Rattle.card.specs.Answer.{cards_given, cards_of, area_with, CardsCalled}
use Rattle.card.proofs.Filled.{filled}
use Rattle.text.specs.Words.{words_of}
use Rattle.text.specs.declared.area.Text.{Text}
use Rattle.text.proofs.Words.{length_words}
use Rattle.card_text.specs.Line.{card_line, lines_from, card_lines, refusal_line}
use Rattle.card_text.specs.Print.{answer_text, program_words, image_text, printed}
use Rattle.card_text.specs.Writers.{numbers_of, text_bytes, AnswerAsked}
use Rattle.std.specs.Prelude.{Ok}
use Rattle.image.specs.Answer.{Checked}

-- the part of the words that was written
pub words_part : (bytes rest words : List ℕ) (n : ℕ) → n ≡ length bytes / 4 → words ≡ words_of bytes ++ rest → take n words ≡ words_of bytes
words_part bytes rest words n e w = ap (take n) w ∙ take_at (words_of bytes) rest n (length_words bytes ∙ sym e)

-- the lines of the same numbers
lines_same : (p q : ℕ → List ℕ) (c n : ℕ) → ((d : ℕ) → d < c + n → p d ≡ q d) → lines_from p c n ≡ lines_from q c n
unfolding lines_from
lines_same p q c zero same = refl
lines_same p q c (suc n) same =
    ap₂ (λ (x y : List ℕ). card_line c x ++ y) (same c (omega arith)) (lines_same p q (suc c) n (λ d l. same d (omega arith)))

-- the numbers of a library's cards, in an area that begins with them
numbers_card : (L : Library) (rest : List ℕ) (c : ℕ) → c < length L.sequences → L.facts ≤ column_width → numbers_of (cards L ++ rest) c ≡ card L c
unfolding numbers_of
numbers_card L rest c l few =
    let p = part_number (cards L ++ rest) c in
    let long = length_list_below p card_numbers in
    ext_get_or 0 (list_below p card_numbers) (card L c) (long ∙ sym (length_card L c))
    (λ k u. let low : k < card_numbers = omega (arith, long) in get_d_list_below p card_numbers k 0 low ∙ card_numbers_lem L rest c l few k low)

-- the call with the program's area
module _ (image area : List ℕ) (room : length area ≡ program_words) where
  -- the lines of the cards that it writes are those of the library's cards
  lines_card : (found : Result ℕ Refusal) → cards_of image area ≡ found
      → answer_text found (numbers_of (area_with found image area)) ≡ answer_text found (card (library_of image))
  unfolding card_lines
  lines_card (Err r) e = refl
  lines_card (Ok n) e =
      let L = library_of image in
      let (h, accepted, count, fits) = filled (checked image) (length area) n e in
      let has : Counted L h = counted image h accepted in
      let few : L.facts ≤ column_width = omega (arith, has.facts, (faultless image h accepted).facts_high) in
      lines_same (numbers_of (cards L ++ drop (card_words * n) area)) (card L) 0 n
      (λ c l. numbers_card L (drop (card_words * n) area) c (omega (arith, l, count, has.sequences)) few)

  module _ (found : Result ℕ Refusal) (after : List ℕ) (call : CardsCalled image area found after) where
    pub answer_asked : (text : Text) → length after ≡ length area → text_bytes ≤ text.begin → AnswerAsked text found after
    answer_asked text long fits =
        record {
          filled = λ n e.
              let (h, accepted, count, big) = filled (checked image) (length area) n (sym call.answer ∙ e) in
              (omega (arith, room), omega arith);
          room = fits;
        }

    pub answer_text_lem : answer_text found (numbers_of after) ≡ image_text image
    answer_text_lem =
        ap₂ (λ (f : Result ℕ Refusal) (words : List ℕ). answer_text f (numbers_of words)) call.answer call.area
        ∙ lines_card (cards_of image area) refl
        ∙ ap (λ (n : ℕ). answer_text (cards_given (checked image) n) (card (library_of image))) room

-- "so more than 160 sequences print `refused 8 at 0`", and no others that are accepted
module _ (image : List ℕ) (h : Head) (accepted : checked image ≡ Ok h) where
  with_room : (b : Bool) → ltb program_words (card_words * h.sequences) ≡ b
      → image_text image ≡ answer_text (cond b (Err CardArea) (Ok h.sequences)) (card (library_of image))
  with_room b e =
      ap (λ (f : Checked). answer_text (cards_given f program_words) (card (library_of image))) accepted
      ∙ ap (λ (t : Bool). answer_text (cond t (Err CardArea) (Ok h.sequences)) (card (library_of image))) e

  pub many_refused : 160 < h.sequences → image_text image ≡ refusal_line 8 0
  many_refused l = with_room true (lt-ltb program_words (card_words * h.sequences) (omega arith))

  pub few_printed : h.sequences ≤ 160 → image_text image ≡ card_lines (card (library_of image)) h.sequences
  few_printed l = with_room false (le-ltb program_words (card_words * h.sequences) (omega arith))

-- the three ways of the program
pub printed_long : (bytes : List ℕ) → 32768 < length bytes → refusal_line 1 0 ≡ printed bytes
unfolding printed
printed_long bytes l =
    sym (ap (λ (b : Bool). cond (b && eqb (length bytes % 4) 0) (image_text (words_of bytes)) (refusal_line 1 0))
    (lt-leb (length bytes) 32768 l))

module _ (bytes : List ℕ) (l : length bytes ≤ 32768) where
  short : (b : Bool) → eqb (length bytes % 4) 0 ≡ b → printed bytes ≡ cond b (image_text (words_of bytes)) (refusal_line 1 0)
  unfolding printed
  short b e =
      ap₂ (λ (a d : Bool). cond (a && d) (image_text (words_of bytes)) (refusal_line 1 0)) (le-leb (length bytes) 32768 l) e

  pub printed_odd : (length bytes % 4 ≡ 0 → ⊥) → refusal_line 1 0 ≡ printed bytes
  printed_odd d = sym (short false (ne_eqb (length bytes % 4) 0 d))

  pub printed_image : length bytes % 4 ≡ 0 → image_text (words_of bytes) ≡ printed bytes
  printed_image e = sym (short true (eq-eqb (length bytes % 4) 0 e))
