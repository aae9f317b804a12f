-- Links and chains, and their words (document 01, "Chains").
use Rattle.std.specs.Prelude.{ℕ, ◌+◌, ◌*◌, ◌^◌, ◌<◌, List, [], ◌∷◌, ◌++◌}

-- A link is a sequence, one of its alternatives, and the position of an entry there, or none where the fact is left untouched.
pub data Link : Type 0 where
  -- "kind 11 with the position": sequence, alternative, position
  touch_link : ℕ → ℕ → ℕ → Link
  -- "or kind 12 with payload 0": sequence, alternative
  untouched_link : ℕ → ℕ → Link

abbrev pub Chain : Type 0
Chain = List Link

-- the sequence that a link is about
abbrev pub sequence_of : Link → ℕ
sequence_of (touch_link c i p) = c
sequence_of (untouched_link c i) = c

-- "A link is two words: kind 10 (bits 0 to 7 the sequence, bits 8 to 20 the alternative, the rest 0), then kind 11 with the
-- position, or kind 12 with payload 0."
abbrev pub choice_word : ℕ → ℕ → ℕ
choice_word c i = 10 * 2 ^ 28 + (i * 2 ^ 8 + c)

abbrev pub link_words : Link → List ℕ
link_words (touch_link c i p) = choice_word c i ∷ (11 * 2 ^ 28 + p) ∷ []
link_words (untouched_link c i) = choice_word c i ∷ 12 * 2 ^ 28 ∷ []

-- the numbers of a link have room in its words: "bits 0 to 7 the sequence, bits 8 to 20 the alternative", the position in a payload
abbrev pub Fits : Link → Type 0
Fits (touch_link c i p) = (c < 2 ^ 8) × (i < 2 ^ 13) × (p < 2 ^ 28)
Fits (untouched_link c i) = (c < 2 ^ 8) × (i < 2 ^ 13)

-- the words of a chain, its first link's first
unfoldable pub chain_words : Chain → List ℕ
chain_words [] = []
chain_words (l ∷ ls) = link_words l ++ chain_words ls
