-- Images in which two words change places, and what the check says of them (document 02, request 6).
use Rattle.std.specs.Prelude.{ℕ, ◌+◌, ◌-◌, ◌<◌, ◌≡◌, true, List, length, get_or, set, Err}
use Rattle.image.specs.Word.{is_entry}
use Rattle.image.specs.declared.answer.Head.{Head}
use Rattle.image.specs.declared.answer.Refusal.TheVariants.{SumWord}
use Rattle.rules.specs.Checked.{checked, Accepts}

-- the words in which those at i and j "change places"
abbrev pub swapped : List ℕ → ℕ → ℕ → List ℕ
swapped words i j = set (set words i (get_or words j 0)) j (get_or words i 0)

-- "two different entries": words before the sum word, different as words, in one alternative or in two, whichever of them stands first
pub record DifferentEntries (image : List ℕ) (i j : ℕ) : Type 0 where
  pub one_before : i + 1 < length image
  pub other_before : j + 1 < length image
  pub one_entry : is_entry (get_or image i 0) ≡ true
  pub other_entry : is_entry (get_or image j 0) ≡ true
  pub differ : get_or image i 0 ≡ get_or image j 0 → ⊥

-- "An accepted image in which two different entries change places then gets 2, and this is proved." (`swap_noticed`, proofs/Swapped)
abbrev pub Noticed : Type 0
Noticed =
    (image : List ℕ) (h : Head) (i j : ℕ) → Accepts image h → DifferentEntries image i j
    → checked (swapped image i j) ≡ Err (SumWord (length image - 1))
