-- The endless call's answer for every image, number and area, the words of the area after it, and the number that the C side gets (document 02,
-- request 7).
use Rattle.std.specs.Prelude.{ℕ, ◌≡◌, cond, List, ◌++◌, length, drop, ltb, Result, Ok, Err}
use Rattle.image.specs.Answer.{refusal_answer}
use Rattle.image.specs.declared.answer.Refusal.{Refusal}
use Rattle.image.specs.declared.answer.Refusal.TheVariants.{Sequence, HasRun, ListArea}
use Rattle.image.specs.Answer.{Checked}
use Rattle.rules.specs.Checked.{checked}
use Rattle.library.specs.Library.{Library, library_of}
use Rattle.runs.specs.Possible.{has_run}
use Rattle.endings.specs.Reached.{endless_list}

-- "Otherwise the answer is the list's length"; "N × 2^32 + P for refusal N at position P"
abbrev pub endless_answer : Result ℕ Refusal → ℕ
endless_answer (Ok n) = n
endless_answer (Err r) = refusal_answer r

-- "16 where the sequence has a run, after 9; 17 where the list is longer than the area, which is of 32-bit words, after 16"
abbrev pub explained : Library → ℕ → ℕ → Result ℕ Refusal
explained L c room =
    let size : ℕ = length (endless_list L c) in
    cond (has_run L c) (Err HasRun) (cond (ltb room size) (Err ListArea) (Ok size))

-- 9: "The sequence asked about is not below C."
abbrev pub after_check : Checked → List ℕ → ℕ → ℕ → Result ℕ Refusal
after_check (Err r) image c room = Err r
after_check (Ok h) image c room = cond (ltb c h.sequences) (explained (library_of image) c room) (Err Sequence)

-- "Like every later call over an image, this one meets 1 to 7 first."
abbrev pub endless_for : List ℕ → ℕ → ℕ → Result ℕ Refusal
endless_for image c room = after_check (checked image) image c room

-- the list, "and words past it stay"; a refusal: "Nothing lent is changed."
abbrev pub area_after : Result ℕ Refusal → Library → ℕ → List ℕ → List ℕ
area_after (Ok n) L c area = endless_list L c ++ drop (length (endless_list L c)) area
area_after (Err r) L c area = area

-- what is told of sequence c of a library: the answer, and the area after it
pub record Explains (L : Library) (c : ℕ) (before : List ℕ) (found : Result ℕ Refusal) (after : List ℕ) : Type 0 where
  pub answer : found ≡ explained L c (length before)
  pub area : after ≡ area_after (explained L c (length before)) L c before

-- what the endless call does: its answer, and the area after it
pub record EndlessCalled (image : List ℕ) (c : ℕ) (before : List ℕ) (found : Result ℕ Refusal) (after : List ℕ) : Type 0 where
  pub answer : found ≡ endless_for image c (length before)
  pub area : after ≡ area_after (endless_for image c (length before)) (library_of image) c before
