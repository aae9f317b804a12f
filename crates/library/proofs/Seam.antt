-- Where the two parts of the words between head and sum word meet, and a loop that looks for it.
-- Assumes nothing.
use Prim.Native.Nat.{ℕ, zero, suc, ◌+◌, ◌-◌, ◌≤◌, ◌<◌}
use native.Mathlib.Omega.{arith}
use native.Mathlib.Numerals.{add-one}
use mathlib.Core.Path.{◌≡◌, refl, sym, ap, ◌∙◌, subst}
use mathlib.Core.Bool.{Bool, true, false, cond, not, false≢true}
use mathlib.Core.List.{List, [], ◌∷◌}
use lib.ListN.{length, get_or, take, drop, length-append, length-take, length-drop}
use lib.Seq.{drop-cons, drop-length, take-append_seam, drop-append_seam}
use Rattle.image.specs.Word.{is_kind}
use Rattle.rules.specs.Checked.{between}
use Rattle.library.specs.Library.{before_sequences, from_sequences, steps_part, sequences_part}
use Rattle.library.specs.Seam.{Passed}
use Rattle.general.proofs.Numbers.{whole_rest}
use Rattle.library.proofs.Decode.{parts_joined}

pub length_between : (image : List ℕ) → length (between image) ≡ length image - 2
length_between image = length-take (length image - 2) (drop 1 image) ∙ omega (arith, length-drop 1 image)

module _ (ws : List ℕ) where
  pub take_before : take (length (before_sequences ws)) ws ≡ before_sequences ws
  take_before = ap (take (length (before_sequences ws))) (sym (parts_joined ws)) ∙ take-append_seam (before_sequences ws) (from_sequences ws)

  pub drop_before : drop (length (before_sequences ws)) ws ≡ from_sequences ws
  drop_before = ap (drop (length (before_sequences ws))) (sym (parts_joined ws)) ∙ drop-append_seam (before_sequences ws) (from_sequences ws)

-- a loop that passes words, none of which opens a sequence

before_cons : (w : ℕ) (ws : List ℕ) (b : Bool) → is_kind 6 w ≡ b → before_sequences (w ∷ ws) ≡ cond b [] (w ∷ before_sequences ws)
unfolding before_sequences
before_cons w ws b e = ap (λ (c : Bool). cond c [] (w ∷ before_sequences ws)) e

pub passed_start : (ws : List ℕ) → Passed ws 0
passed_start ws = record { within = omega arith; before = omega arith }

module _ (ws : List ℕ) (i : ℕ) (l : i < length ws) (passed : Passed ws i) where
  pub passed_found : is_kind 6 (get_or ws i 0) ≡ true → i ≡ length (before_sequences ws)
  passed_found e =
      omega (arith, passed.before, ap (λ (x : List ℕ). length (before_sequences x)) (drop-cons ws i 0 l), ap length (before_cons (get_or ws i 0) (drop (suc i) ws) true e))

  pub passed_turn : is_kind 6 (get_or ws i 0) ≡ false → Passed ws (i + 1)
  passed_turn e =
      record {
        within = omega arith;
        before = rw (add-one i)
            (omega (arith, passed.before, ap (λ (x : List ℕ). length (before_sequences x)) (drop-cons ws i 0 l), ap length (before_cons (get_or ws i 0) (drop (suc i) ws) false e)));
      }

pub not_true : (b : Bool) → not b ≡ true → b ≡ false
not_true false e = refl
not_true true e = absurd (false≢true e)

pub passed_below : (ws : List ℕ) (n : ℕ) → n ≤ length ws → ((i : ℕ) → i < n → is_kind 6 (get_or ws i 0) ≡ false) → Passed ws n
passed_below ws zero l shut = passed_start ws
passed_below ws (suc n) l shut =
    subst (Passed ws) (add-one n) (passed_turn ws n (omega arith) (passed_below ws n (omega arith) (λ i lt. shut i (omega arith))) (shut n (omega arith)))

pub passed_end : (ws : List ℕ) (i : ℕ) → i ≡ length ws → Passed ws i → i ≡ length (before_sequences ws)
unfolding before_sequences
passed_end ws i e passed = omega (arith, passed.before, ap (λ (x : List ℕ). length (before_sequences x)) (ap (λ (n : ℕ). drop n ws) e ∙ drop-length ws))

-- where the second part has so many words, the first has the others
module _ (image ws : List ℕ) (same : ws ≡ between image) (after : ℕ) (rest : after ≡ length (sequences_part image)) where
  pub rest_within : after ≤ length ws
  unfolding sequences_part
  rest_within = omega (arith, ap length (parts_joined ws), length-append (before_sequences ws) (from_sequences ws), ap (λ (x : List ℕ). length (from_sequences x)) same)

  pub seam_at : length ws - after ≡ length (before_sequences ws)
  unfolding sequences_part
  seam_at = omega (arith, ap length (parts_joined ws), length-append (before_sequences ws) (from_sequences ws), ap (λ (x : List ℕ). length (from_sequences x)) same)

-- the two slices that meet after r words
module _ (image ws : List ℕ) (r : ℕ) (same : ws ≡ between image) (at : r ≡ length (before_sequences ws)) where
  pub first_part : take r ws ≡ steps_part image
  unfolding steps_part
  first_part = ap (λ (n : ℕ). take n ws) at ∙ take_before ws ∙ ap before_sequences same

  pub second_part : take (length ws - r) (drop r ws) ≡ sequences_part image
  unfolding sequences_part
  second_part = whole_rest r ws ∙ ap (λ (n : ℕ). drop n ws) at ∙ drop_before ws ∙ ap from_sequences same
