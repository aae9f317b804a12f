-- Who calls whom, and sets of sequences as bits.
use Rattle.std.specs.Prelude.{ℕ, ◌+◌, ◌*◌, ◌/◌, ◌%◌, ◌≤◌, ◌<◌, ◌≡◌, Bool, false, ◌&&◌, ◌||◌, List, [], ◌∷◌, eqb, ltb, length, get_or, set}
use Rattle.std.specs.Int.Bits.{bit_or}
use Rattle.column.specs.Column.{with_fact}
use Rattle.column.specs.Sets.{in_column}
use Rattle.image.specs.Word.{most_sequences}
use Rattle.general.specs.Numbers.{Zeros}
use Rattle.library.specs.Calls.{calls_of}
use Rattle.walk.specs.Walk.{alternatives_at}

-- the words of a set: four, of 64 bits, room for 256 sequences
abbrev pub set_words : ℕ
set_words = 4

-- sequence c is in the set
abbrev pub in_set : List ℕ → ℕ → Bool
in_set s c = in_column (get_or s (c / 64) 0) (c % 64)

-- the set with sequence c in it
abbrev pub with_member : List ℕ → ℕ → List ℕ
with_member s c = set s (c / 64) (with_fact (get_or s (c / 64) 0) (c % 64))

-- the words of the set without a sequence, and of that of every sequence
abbrev pub no_sequences : List ℕ
no_sequences = 0 ∷ 0 ∷ 0 ∷ 0 ∷ []

abbrev pub every_sequence : List ℕ
every_sequence = 18446744073709551615 ∷ 18446744073709551615 ∷ 18446744073709551615 ∷ 18446744073709551615 ∷ []

-- sequence c is one of the callers of sequence d
abbrev pub is_caller : List ℕ → ℕ → ℕ → Bool
is_caller callers d c = in_column (get_or callers (set_words * d + c / 64) 0) (c % 64)

-- sequence c calls sequence d
abbrev pub calls : List ℕ → List ℕ → ℕ → ℕ → Bool
calls part places c d = calls_of (alternatives_at part places c) d

-- sequence c is taken out, and none else
pub record Removed (c : ℕ) (before after : List ℕ) : Type 0 where
  pub out : in_set after c ≡ false
  pub others : (d : ℕ) → (d ≡ c → ⊥) → in_set after d ≡ in_set before d

-- the callers of sequence d are put in
abbrev pub United : ℕ → List ℕ → List ℕ → List ℕ → Type 0
United d callers before after = (k : ℕ) → k < set_words → get_or after k 0 ≡ bit_or (get_or before k 0) (get_or callers (set_words * d + k) 0)

-- the sets after are those before, with sequence c among the callers of each sequence that a test names, and no other
abbrev pub Put : ℕ → (ℕ → Bool) → List ℕ → List ℕ → Type 0
Put c test before after =
    (d b : ℕ) → b < most_sequences → set_words * d + set_words ≤ length before → is_caller after d b ≡ (is_caller before d b || (eqb b c && test d))

-- the sets say exactly which sequences call which: c is one of the callers of d where it is below n and calls d
abbrev pub CallersWritten : ℕ → List ℕ → List ℕ → List ℕ → Type 0
CallersWritten n part places callers =
    (d b : ℕ) → b < most_sequences → set_words * d + set_words ≤ length callers → is_caller callers d b ≡ (ltb b n && calls part places b d)

-- what writing them asks: few sequences, each with a place among the words, and sets of zeros
pub record CallersAsked (n : ℕ) (part places callers : List ℕ) : Type 0 where
  pub few : n ≤ most_sequences
  pub placed : n ≤ length places
  pub within : (c : ℕ) → c < n → get_or places c 0 < length part
  pub zeros : Zeros callers
