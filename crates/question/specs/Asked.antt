-- The numbers that the chain call is asked with: in range, or the first of 9, 10 and 11 that applies; and the question that they are.
use Rattle.std.specs.Prelude.{ℕ, ◌+◌, ◌/◌, ◌%◌, Bool, cond, ◌&&◌, eqb, leb, ltb, Result, Ok, Err}
use Rattle.image.specs.declared.answer.Head.{Head}
use Rattle.image.specs.declared.answer.Refusal.{Refusal}
use Rattle.image.specs.declared.answer.Refusal.TheVariants.{Sequence, Question, Fact}
use Rattle.question.specs.declared.asked.Asked.{Asked}
use Rattle.question.specs.declared.asked.Mark.{Mark}
use Rattle.question.specs.declared.asked.Mark.TheVariants.{Present, Absent, Untouched, Run, Other}

abbrev pub in_range : Head → ℕ → ℕ → ℕ → Bool
in_range h c q f = (ltb c h.sequences && leb q 5) && ltb f h.facts

-- 9: "The sequence asked about is not below C." 10: "The question is above 5." 11: "The fact asked about is not below F."
abbrev pub out_of_range : Head → ℕ → ℕ → Refusal
out_of_range h c q = cond (ltb c h.sequences) (cond (leb q 5) Fact Question) Sequence

-- what the numbers are found to be
abbrev pub range_told : Head → ℕ → ℕ → ℕ → Result Unit Refusal
range_told h c q f = cond (in_range h c q f) (Ok tt) (Err (out_of_range h c q))

-- a mark's number: 0 and 1 for the two touches, 2 for "untouched", 3 where only a rank counts, 4 for any other
abbrev pub mark_number : Mark → ℕ
mark_number Present = 0
mark_number Absent = 1
mark_number Untouched = 2
mark_number Run = 3
mark_number Other = 4

-- the mark that a number stands for
abbrev pub mark_from : ℕ → Mark
mark_from n = cond (eqb n 0) Present (cond (eqb n 1) Absent (cond (eqb n 2) Untouched (cond (eqb n 3) Run Other)))

-- whether two marks are the same one
abbrev pub same_mark : Mark → Mark → Bool
same_mark m n = eqb (mark_number m) (mark_number n)

-- one of three by a mark: for "untouched", where only a rank counts, and for a touch, as which any other mark is asked for
abbrev pub by_mark : {A : Type 0} → Mark → A → A → A → A
by_mark Untouched untouched run touch = untouched
by_mark Run untouched run touch = run
by_mark Present untouched run touch = touch
by_mark Absent untouched run touch = touch
by_mark Other untouched run touch = touch

-- the mark that a question asks for: each side has three questions, a mark each
abbrev pub question_mark : ℕ → Mark
question_mark q = cond (eqb (q % 3) 0) Present (cond (eqb (q % 3) 1) Absent Untouched)

-- "0 last set, 1 last cleared, 2 last untouched, 3 first needed, 4 first set, 5 first untouched"; "no rank" is C + 2
abbrev pub question_asked : Head → ℕ → ℕ → Asked
question_asked h q f = record { first = leb 3 q; mark = question_mark q; fact = f; none = h.sequences + 2 }

-- the block of 64 facts that the fact asked about is in, and the bit that it has in a word of that block
abbrev pub fact_block : Asked → ℕ
fact_block q = q.fact / 64

abbrev pub fact_bit : Asked → ℕ
fact_bit q = q.fact % 64
