-- The lines of the printing program (document 01, "The printing program"; document 02, requests 4 and 8).
use Rattle.std.specs.Prelude.{ℕ, zero, suc, List, [], ◌∷◌, ◌++◌}
use Rattle.text.specs.Number.{numeral}

-- "then the seven card words in hexadecimal .., one space between"; "The program prints all card words" (request 4); "A column prints as one
-- hexadecimal number." (request 8): the flags and the columns, each after a space
unfoldable pub spaced : List ℕ → List ℕ
spaced [] = []
spaced (x ∷ xs) = (32 ∷ numeral 16 x) ++ spaced xs

-- "one line a sequence: its number in decimal, then the seven card words": the numbers of its card
unfoldable pub card_line : ℕ → List ℕ → List ℕ
card_line c numbers = numeral 10 c ++ (spaced numbers ++ (10 ∷ []))

-- the lines of n sequences from sequence c on, by the numbers of each one's card
unfoldable pub lines_from : (ℕ → List ℕ) → ℕ → ℕ → List ℕ
lines_from numbers c zero = []
lines_from numbers c (suc n) = card_line c (numbers c) ++ lines_from numbers (suc c) n

unfoldable pub card_lines : (ℕ → List ℕ) → ℕ → List ℕ
card_lines numbers n = lines_from numbers 0 n

-- "refused " and " at "
abbrev pub refused_text : List ℕ
refused_text = 114 ∷ 101 ∷ 102 ∷ 117 ∷ 115 ∷ 101 ∷ 100 ∷ 32 ∷ []

abbrev pub at_text : List ℕ
at_text = 32 ∷ 97 ∷ 116 ∷ 32 ∷ []

-- "A refusal prints `refused N at P`."
unfoldable pub refusal_line : ℕ → ℕ → List ℕ
refusal_line number position = refused_text ++ (numeral 10 number ++ (at_text ++ (numeral 10 position ++ (10 ∷ []))))
