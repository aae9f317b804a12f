-- Words, their kinds and payloads, and the two words at the ends of an image: the head and the sum word (document 01, "The image"; document 02,
-- requests 4, 6 and 8).
use Rattle.std.specs.Prelude.{ℕ, ◌+◌, ◌*◌, ◌/◌, ◌%◌, ◌^◌, Bool, ◌&&◌, ◌||◌, List, [], ◌∷◌, leb, eqb}
use Rattle.general.specs.Numbers.{total}
use Rattle.image.specs.declared.answer.Head.{Head}

-- "fewer than 2 or more than 8,192 words" are refused
abbrev pub most_words : ℕ
most_words = 8192

-- "F in bits 0 to 8 (1 to 256), A in bits 9 to 18 (0 to 1,023; 1,024 steps can no longer be written), C in bits 19 to 27 (0 to 256)" (document 02,
-- request 8): the most facts, steps and sequences that a head counts
abbrev pub most_facts : ℕ
most_facts = 256

abbrev pub most_steps : ℕ
most_steps = 1023

abbrev pub most_sequences : ℕ
most_sequences = 256

-- "Bits 31 to 28 are the kind; the low 28 bits are the payload, an unsigned number."
abbrev pub kind : ℕ → ℕ
kind w = w / 2 ^ 28

abbrev pub payload : ℕ → ℕ
payload w = w % 2 ^ 28

abbrev pub is_kind : ℕ → ℕ → Bool
is_kind k w = eqb (kind w) k

-- "Kinds 2, 3 and 4 follow a step's opener: the step needs, sets or clears the fact with that number": fact words
abbrev pub is_fact : ℕ → Bool
is_fact w = is_kind 2 w || is_kind 3 w || is_kind 4 w

-- "Kind 8 is an entry naming a step, kind 9 an entry naming a sequence." Document 02: "Kind 13, an entry, checks that its fact stands"
abbrev pub is_entry : ℕ → Bool
is_entry w = is_kind 8 w || is_kind 9 w || is_kind 13 w

-- "A word now counts as its payload plus 1,024 times its kind." (document 02, request 6)
abbrev pub counts_as : ℕ → ℕ
counts_as w = payload w + 1024 * kind w

-- "Keep the running sum of these with wrap at 2^32": its values after each of the words, where it is s before them
unfoldable pub running_sums : ℕ → List ℕ → List ℕ
running_sums s [] = []
running_sums s (w ∷ ws) = let next : ℕ = (s + counts_as w) % 2 ^ 32 in next ∷ running_sums next ws

-- "let b be the wrapping sum of its values after each earlier word"
abbrev pub wrapped_sum : List ℕ → ℕ
wrapped_sum values = total values % 2 ^ 32

-- "The sum word's payload is now b mod 2^28."
abbrev pub ordered_sum : List ℕ → ℕ
ordered_sum earlier = wrapped_sum (running_sums 0 earlier) % 2 ^ 28

-- "Kind 15 is the sum word", with the payload that the rule gives over the words before it
abbrev pub sum_right : List ℕ → ℕ → Bool
sum_right earlier w = is_kind 15 w && eqb (payload w) (ordered_sum earlier)

-- "F in bits 0 to 8", the number of facts, "A in bits 9 to 18", steps, "C in bits 19 to 27", sequences
abbrev pub head_of : ℕ → Head
head_of w = record { facts = payload w % 2 ^ 9; steps = payload w / 2 ^ 9 % 2 ^ 10; sequences = payload w / 2 ^ 19 }

-- "Kind 1, head": F "1 to 256", C "0 to 256"; A has no other rule than its bits
abbrev pub head_right : ℕ → Bool
head_right w = is_kind 1 w && (leb 1 (head_of w).facts && leb (head_of w).facts most_facts) && leb (head_of w).sequences most_sequences
