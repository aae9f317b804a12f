-- What follows for each of four words.
-- Assumes nothing.
use Rattle.std.proofs.Common.{◌≡◌, ℕ, ◌+◌, ◌-◌, ◌<◌, ◌≤◌, List, ◌++◌, length, get_or, drop, refl, sym, ap, ◌∙◌, subst, arith, length-append, length-drop}
use native.Mathlib.Nat.{eq-or-lt_of_le}
use mathlib.Core.Logic.{⊎_elim}
use lib.ListN.{get_or-append, take}
use Rattle.std.proofs.lemmas.List.{get_or-append_right, get_or-take, length-take-le, take-take}
use lib.Seq.{get_or-drop, drop-drop, drop-append_seam, take-append_seam}
use Rattle.image.specs.Fours.{AllFour}

pub all_four_also : {P Q : ℕ → Type 0} {ws : List ℕ} {i : ℕ} → ((w : ℕ) → P w → Q w) → AllFour P ws i → AllFour Q ws i
all_four_also law four =
    record { first = law _ four.first; second = law _ four.second; third = law _ four.third; fourth = law _ four.fourth }

-- four words that a list is cut into from index i on
module _ (ws four next : List ℕ) (i : ℕ) (cut : drop i ws ≡ four ++ next) (long : length four ≡ 4) where
  pub four_within : i + 4 ≤ length ws
  four_within = omega (arith, length-drop i ws, ap length cut, length-append four next)

  pub four_word : (k : ℕ) → k < 4 → get_or four k 0 ≡ get_or ws (i + k) 0
  four_word k l =
      sym (get_or-append four next 0 k (omega arith)) ∙ ap (λ (xs : List ℕ). get_or xs k 0) (sym cut) ∙ get_or-drop i ws k 0

  pub four_at : (P : ℕ → Type 0) → AllFour P four 0 → AllFour P ws i
  four_at P all =
      let same : i + 0 ≡ i = omega arith in
      record {
        first = subst P (four_word 0 (omega arith) ∙ ap (λ (n : ℕ). get_or ws n 0) same) all.first;
        second = subst P (four_word 1 (omega arith)) all.second;
        third = subst P (four_word 2 (omega arith)) all.third;
        fourth = subst P (four_word 3 (omega arith)) all.fourth;
      }

  pub four_rest : next ≡ drop (i + 4) ws
  four_rest =
      sym (drop-append_seam four next) ∙ ap (λ (n : ℕ). drop n (four ++ next)) long ∙ ap (drop 4) (sym cut) ∙ drop-drop 4 i ws
      ∙ ap (λ (n : ℕ). drop n ws) (omega arith)

-- the last four of the words before index i
module _ (ws four next : List ℕ) (i : ℕ) (within : i ≤ length ws) (cut : take i ws ≡ next ++ four) (long : length four ≡ 4) where
  last_long : length next + 4 ≡ i
  last_long = omega (arith, length-take-le i ws within, ap length cut, length-append next four)

  pub last_four : 4 ≤ i
  last_four = omega (arith, last_long)

  last_start : i - 4 ≡ length next
  last_start = omega (arith, last_long)

  pub last_rest : next ≡ take (i - 4) ws
  last_rest =
      let low : length next ≤ i = omega (arith, last_long) in
      sym (take-append_seam next four) ∙ ap (take (length next)) (sym cut) ∙ take-take (length next) i ws low ∙ ap (λ (n : ℕ). take n ws) (sym last_start)

  last_word : (k : ℕ) → k < 4 → get_or four k 0 ≡ get_or ws (i - 4 + k) 0
  last_word k l =
      let e : i - 4 + k - (i - 4) ≡ k = omega arith in
      let lt : i - 4 + k < i = omega (arith, last_four) in
      let from : i - 4 ≤ i - 4 + k = omega arith in
      sym (ap (λ (n : ℕ). get_or four n 0) e) ∙ sym (get_or-append_right next four (i - 4) (i - 4 + k) 0 (sym last_start) from)
      ∙ ap (λ (xs : List ℕ). get_or xs (i - 4 + k) 0) (sym cut) ∙ get_or-take i ws (i - 4 + k) 0 lt

  pub last_at : (P : ℕ → Type 0) → AllFour P four 0 → AllFour P ws (i - 4)
  last_at P all =
      let same : i - 4 + 0 ≡ i - 4 = omega arith in
      record {
        first = subst P (last_word 0 (omega arith) ∙ ap (λ (n : ℕ). get_or ws n 0) same) all.first;
        second = subst P (last_word 1 (omega arith)) all.second;
        third = subst P (last_word 2 (omega arith)) all.third;
        fourth = subst P (last_word 3 (omega arith)) all.fourth;
      }

-- the words below an index, and four more
module _ (P : ℕ → Type 0) (ws : List ℕ) where
  pub below_one : (n j : ℕ) → n + 1 ≡ j → ((i : ℕ) → i < n → P (get_or ws i 0)) → P (get_or ws n 0) → (i : ℕ) → i < j → P (get_or ws i 0)
  below_one n j e below p i l =
      ⊎_elim (λ (same : i ≡ n). subst (λ (k : ℕ). P (get_or ws k 0)) (sym same) p) (λ lt. below i lt) (eq-or-lt_of_le (omega arith))

  pub below_four : (n : ℕ) → ((i : ℕ) → i < n → P (get_or ws i 0)) → AllFour P ws n → (i : ℕ) → i < n + 4 → P (get_or ws i 0)
  below_four n below all =
      below_one (n + 3) (n + 4) (omega arith)
      (below_one (n + 2) (n + 3) (omega arith)
      (below_one (n + 1) (n + 2) (omega arith)
      (below_one n (n + 1) refl below all.first) all.second) all.third) all.fourth
