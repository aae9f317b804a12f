-- Entries that change places, as a caller of the check sees it (document 02, request 6).
use Rattle.std.specs.Prelude.{ℕ, ◌+◌, ◌*◌, ◌-◌, ◌^◌, ◌≡◌, List, length, Ok}
use Rattle.image.specs.declared.answer.Head.{Head}
use Rattle.rules.specs.Checked.{checked}
use Rattle.swap.specs.Swapped.{swapped, DifferentEntries}
use Rattle.dulimoven.specs.Demands.{Engine}

pub record Notices (e : Engine) : Type 0 where
  -- "An accepted image in which two different entries change places then gets 2, and this is proved.": 2 at "its position", that of the last word.
  -- It holds of every engine that meets demand 1 (`engines_notice`, proofs/Swapped)
  pub swap : (image : List ℕ) (h : Head) (i j : ℕ) → checked image ≡ Ok h → DifferentEntries image i j
      → e.check (swapped image i j) ≡ 2 * 2 ^ 32 + (length image - 1)
