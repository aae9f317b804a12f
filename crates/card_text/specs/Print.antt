-- What the printing program prints (document 01, "The printing program"; document 02, request 8).
use Rattle.std.specs.Prelude.{ℕ, ◌%◌, cond, ◌&&◌, List, length, leb, eqb, Result, Ok, Err}
use Rattle.image.specs.declared.answer.Refusal.{Refusal}
use Rattle.image.specs.Answer.{refusal_number, refusal_position}
use Rattle.rules.specs.Checked.{checked}
use Rattle.library.specs.Library.{library_of}
use Rattle.cards.specs.Card.{card}
use Rattle.card.specs.Answer.{cards_given}
use Rattle.text.specs.Words.{words_of}
use Rattle.card_text.specs.Line.{card_lines, refusal_line}

-- for what the card call finds, with the numbers of each card: "one line a sequence", or "A refusal prints `refused N at P`."
abbrev pub answer_text : Result ℕ Refusal → (ℕ → List ℕ) → List ℕ
answer_text (Ok n) numbers = card_lines numbers n
answer_text (Err r) numbers = refusal_line (refusal_number r) (refusal_position r)

-- "The printing program's area has 7,840 words" (request 8)
abbrev pub program_words : ℕ
program_words = 7840

-- for an image: what the card call finds with that area, "so more than 160 sequences print `refused 8 at 0`"
abbrev pub image_text : List ℕ → List ℕ
image_text image = answer_text (cards_given (checked image) program_words) (card (library_of image))

-- "Over 32,768 bytes, or a length not divisible by 4, prints `refused 1 at 0`."
unfoldable pub printed : List ℕ → List ℕ
printed bytes = cond (leb (length bytes) 32768 && eqb (length bytes % 4) 0) (image_text (words_of bytes)) (refusal_line 1 0)
