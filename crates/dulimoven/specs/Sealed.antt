-- The seal call, for authors, beside the calls of an engine: what its caller sees, what demand 1's sentences ask of it, and what the check and a second
-- sealing make of a sealed image.
use Rattle.std.specs.Prelude.{ℕ, ◌/◌, ◌^◌, ◌≡◌, ◌≢◌, ◌↔◌, List, Ok}
use Rattle.image.specs.declared.answer.Head.{Head}
use Rattle.image.specs.declared.answer.Refusal.{Refusal}
use Rattle.rules.specs.Checked.{checked}
use Rattle.dulimoven.specs.Returned.{Returned, returned}
use Rattle.dulimoven.specs.SealCall.{SealRefused, SealReturn}
use Rattle.dulimoven.specs.Demands.{Refuses}

-- what a caller sees: of an image, the number and the image after the call. The image is the lent area
abbrev pub Sealer : Type 0
Sealer = List ℕ → Returned

-- what demand 1 asks of the other calls, of this one. It fixes every number and every word (`seal_only`, proofs/SealCall)
pub record SealDemand (seal : Sealer) : Type 0 where
  -- the sum word in the last place
  pub sealed : (image : List ℕ) → SealReturn image (seal image)
  -- "a refusal changes no word of a lent area"
  pub kept : (image : List ℕ) → Refuses (seal image).number → (seal image).area ≡ image
  -- the caller can tell a refusal by the number
  pub told : (image : List ℕ) → Refuses (seal image).number ↔ ((r : Refusal) × SealRefused image r)

-- it holds of the check of every engine that meets demand 1 and of every seal call that meets its own (`engines_seal`, proofs/Sealed)
pub record Seals (check : List ℕ → ℕ) (seal : Sealer) : Type 0 where
  -- whatever image the seal call was handed, the check does not answer 2 to the image after it, at any position: "N × 2^32 + P for refusal N at
  -- position P"
  pub right : (image : List ℕ) → check (seal image).area / 2 ^ 32 ≢ 2
  -- an accepted image stays as it is
  pub kept : (image : List ℕ) (h : Head) → checked image ≡ Ok h → seal image ≡ returned 0 image
  -- to seal twice is to seal once
  pub twice : (image : List ℕ) → seal (seal image).area ≡ seal image
