-- A list that is gone through from its end: `left` are the words that are left, the first ones, and in a turn the last of them goes.
-- Assumes nothing.
use Rattle.std.proofs.Common.{◌≡◌, ℕ, suc, ◌<◌, List, [], ◌∷◌, ◌++◌, length, get_or, take, refl, sym, ap, ◌∙◌, arith}
use Rattle.std.proofs.lemmas.List.{length_push, get_or_push, get_or-take, length-take, length-take-le}
use lib.Seq.{take-suc, take-append_seam}

module _ (part left next : List ℕ) (w : ℕ) (is : left ≡ take (length left) part) (step : left ≡ next ++ w ∷ []) where
  pub last_length : length left ≡ suc (length next)
  last_length = omega (arith, ap length step, length_push next w)

  pub last_within : length next < length part
  last_within = omega (arith, last_length, ap length is, length-take (length left) part)

  last_taken : left ≡ take (suc (length next)) part
  last_taken = is ∙ ap (λ (n : ℕ). take n part) last_length

  pub last_word : get_or part (length next) 0 ≡ w
  last_word =
      let lt : length next < suc (length next) = omega arith in
      sym (get_or-take (suc (length next)) part (length next) 0 lt) ∙ ap (λ (xs : List ℕ). get_or xs (length next) 0) (sym last_taken ∙ step)
      ∙ get_or_push next w 0 (length next) refl

  pub last_left : next ≡ take (length next) part
  last_left =
      let k = length next in
      let long : length (take k part) ≡ k = length-take-le k part (omega (arith, last_within)) in
      sym (take-append_seam next (w ∷ [])) ∙ ap (take k) (sym step ∙ last_taken ∙ take-suc part k 0 last_within)
      ∙ ap (λ (n : ℕ). take n (take k part ++ (get_or part k 0 ∷ []))) (sym long) ∙ take-append_seam (take k part) (get_or part k 0 ∷ [])
