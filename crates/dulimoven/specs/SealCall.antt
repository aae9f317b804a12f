-- What the seal call gives back, case by case: the sum word in the last place of an image, written for its author. One case always applies, and
-- it fixes the number and every word of the image (`seal_return` and `seal_only`, proofs/SealCall).
use Rattle.std.specs.Prelude.{ℕ, ◌≤◌, ◌<◌, ◌≡◌, List, [], ◌∷◌, ◌++◌, length}
use Rattle.image.specs.Word.{most_words, kind, payload, ordered_sum}
use Rattle.image.specs.declared.answer.Refusal.{Refusal}
use Rattle.image.specs.declared.answer.Refusal.TheVariants.{Length}
use Rattle.dulimoven.specs.Returned.{Returned, returned, turned_down}

-- 1: "The image has fewer than 2 or more than 8,192 words, position 0." No other refusal is of this call: what the words say is not looked at
pub data SealRefused (image : List ℕ) : Refusal → Type 0 where
  too_short : length image < 2 → SealRefused image Length
  too_long : most_words < length image → SealRefused image Length

-- `word` is the sum word after the words `earlier`: "Kind 15 is the sum word"; "The sum word's payload is now b mod 2^28." (document 02, request 6)
pub record IsSum (earlier : List ℕ) (word : ℕ) : Type 0 where
  pub of_kind : kind word ≡ 15
  pub by_rule : payload word ≡ ordered_sum earlier

-- what the seal call gives back
pub data SealReturn (image : List ℕ) (r : Returned) : Type 0 where
  refused : (why : Refusal) → SealRefused image why → r ≡ turned_down why image → SealReturn image r
  -- the last word, whatever it was, gives way to the sum word after those before it, which stay
  sealed : 2 ≤ length image → length image ≤ most_words → (earlier : List ℕ) (last word : ℕ) → image ≡ earlier ++ (last ∷ []) → IsSum earlier word
      → r ≡ returned 0 (earlier ++ (word ∷ [])) → SealReturn image r
