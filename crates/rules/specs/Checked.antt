-- The check's answer: refusals 1 to 7, with 13 beside 4 to 6, in their order and with their positions, or acceptance (document 01,
-- "Turned down, in checking order"; document 02, request 1).
use Rattle.std.specs.Prelude.{◌≡◌, ℕ, ◌-◌, cond, ◌&&◌, ◌||◌, List, [], ◌∷◌, ◌++◌, length, take, drop, nat_le, nat_lt, slice_index, Option, Some, None, Ok, Err}
use Rattle.image.specs.Word.{most_words, sum_right, head_of, head_right}
use Rattle.rules.specs.Rules.{opened, earlier, fault_at}
use Rattle.image.specs.declared.answer.Head.{Head}
use Rattle.image.specs.declared.answer.Refusal.TheVariants.{Length, SumWord, HeadWord, Missing}
use Rattle.image.specs.Answer.{Checked}
use Rattle.image.specs.declared.answer.Refusal.{Refusal}

-- the answer at a word: its fault, or what the words after it give
abbrev pub at_word : Option Refusal → Checked → Checked
at_word (Some r) after = Err r
at_word None after = after

-- 7: "Fewer than A steps or C sequences were opened, position of the last word." The words are all but the last
abbrev pub counted : Head → List ℕ → Checked
counted h words =
    cond (nat_lt (opened 5 words) h.steps || nat_lt (opened 6 words) h.sequences)
    (Err (Missing (length words)))
    (Ok h)

-- "In 4 to 6 the earliest word decides"; 13 "joins 4 to 6": the words are looked at in order, each after those before it
unfoldable pub scan : Head → List ℕ → List ℕ → Checked
scan h before [] = counted h before
scan h before (w ∷ ws) = at_word (fault_at h (earlier before) (length before) w) (scan h (before ++ (w ∷ [])) ws)

-- the words before the sum word, and those between head and sum word
abbrev pub all_but_last : List ℕ → List ℕ
all_but_last image = take (length image - 1) image

abbrev pub between : List ℕ → List ℕ
between image = take (length image - 2) (drop 1 image)

abbrev pub first_word : List ℕ → ℕ
first_word image = slice_index image 0

abbrev pub last_word : List ℕ → ℕ
last_word image = slice_index image (length image - 1)

-- 1: "The image has fewer than 2 or more than 8,192 words, position 0."
-- 2: "The last word is not of kind 15 or has another payload than the rule gives, its position."
-- 3: "The first word breaks the rule for the head, position 0."
unfoldable pub checked : List ℕ → Checked
unfolding scan
checked image =
    cond (nat_le 2 (length image) && nat_le (length image) most_words)
    (cond (sum_right (all_but_last image) (last_word image))
    (cond (head_right (first_word image))
    (scan (head_of (first_word image)) (take 1 image) (between image))
    (Err HeadWord))
    (Err (SumWord (length image - 1))))
    (Err Length)

-- an image that the check accepts, and what its head counts
abbrev pub Accepts : List ℕ → Head → Type 0
Accepts image h = checked image ≡ Ok h
