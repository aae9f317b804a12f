-- The sum word's rule in the form that the code follows: the two sums are carried from word to word. `sums_payload` (proofs/Loop) proves that
-- they give the payload of `Word`.
use Rattle.std.specs.Prelude.{ℕ, ◌+◌, ◌%◌, ◌^◌, List}
use Rattle.std.specs.List.{fold}
use Rattle.image.specs.Word.{counts_as}
use Rattle.sum.specs.declared.sums.Sums.{Sums}

-- the sums with one word more
abbrev pub with_word : Sums → ℕ → Sums
with_word sums w =
    record {
      running = (sums.running + counts_as w) % 2 ^ 32;
      values = (sums.values + (sums.running + counts_as w) % 2 ^ 32) % 2 ^ 32;
    }

-- and with all these words
abbrev pub sums_after : Sums → List ℕ → Sums
sums_after = fold with_word
