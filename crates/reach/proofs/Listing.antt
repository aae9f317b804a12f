-- The members of a set written one after the other.
-- Assumes nothing.
use Prim.Native.Nat.{ℕ, zero, suc, ◌+◌, ◌≤◌, ◌<◌}
use native.Mathlib.Nat.{eq-or-lt_of_le}
use native.Mathlib.Numerals.{add-one}
use native.Mathlib.Omega.{arith}
use mathlib.Core.Path.{◌≡◌, refl, sym, ap, ap₂, ◌∙◌}
use mathlib.Core.Bool.{Bool, true, false, cond}
use mathlib.Core.Logic.{⊎_elim}
use mathlib.Core.List.{List, [], ◌∷◌, ◌++◌, append-nil, append_assoc}
use lib.ListN.{length, get_or, set, drop, length-append}
use lib.Seq.{drop-cons, set-append_seam}
use Rattle.general.specs.Scan.{passing}
use mir.Val.{bool_byte}

last_length : (b : Bool) (n : ℕ) → length (cond b (n ∷ []) []) ≡ bool_byte b
last_length true n = refl
last_length false n = refl

module _ (p : ℕ → Bool) where
  pub passing_next : (c : ℕ) → length (passing p (c + 1)) ≡ length (passing p c) + bool_byte (p c)
  unfolding passing
  passing_next c = ap (λ (n : ℕ). length (passing p n)) (add-one c) ∙ length-append (passing p c) (cond (p c) (c ∷ []) []) ∙ ap (λ (n : ℕ). length (passing p c) + n) (last_length (p c) c)

  -- more numbers, more that pass
  pub passing_longer : (c n : ℕ) → c ≤ n → length (passing p c) ≤ length (passing p n)
  passing_longer c zero l = let none : c ≡ 0 = omega arith in rw none (omega arith)
  passing_longer c (suc n) l =
      ⊎_elim (λ (e : c ≡ suc n). rw e (omega arith))
      (λ below. omega (arith, passing_longer c n (omega arith), ap (λ (m : ℕ). length (passing p m)) (sym (add-one n)), passing_next n)) (eq-or-lt_of_le l)

  -- what holds at the head of the loop, with the numbers below c written, up to index k
  pub record Writing (n : ℕ) (area₀ area : List ℕ) (k c : ℕ) : Type 0 where
    pub low : c ≤ n
    pub index : k ≡ length (passing p c)
    pub long : length area ≡ length area₀
    pub written : area ≡ passing p c ++ drop (length (passing p c)) area₀

  pub writing_start : (n : ℕ) (area : List ℕ) → Writing n area area 0 0
  unfolding passing
  writing_start n area = record { low = omega arith; index = refl; long = refl; written = refl }

  -- one more word after those that are written
  put_next : (area₀ xs : List ℕ) (c : ℕ) → length xs < length area₀
      → set (xs ++ drop (length xs) area₀) (length xs) c ≡ (xs ++ c ∷ []) ++ drop (length (xs ++ c ∷ [])) area₀
  put_next area₀ xs c l =
      let size : suc (length xs) ≡ length (xs ++ c ∷ []) = omega (arith, length-append xs (c ∷ [])) in
      ap (λ (ys : List ℕ). set (xs ++ ys) (length xs) c) (drop-cons area₀ (length xs) 0 l)
      ∙ set-append_seam xs (get_or area₀ (length xs) 0) (drop (suc (length xs)) area₀) c
      ∙ ap (λ (m : ℕ). xs ++ c ∷ drop m area₀) size ∙ sym (append_assoc xs (c ∷ []) (drop (length (xs ++ c ∷ [])) area₀))

  module _ {n : ℕ} {area₀ area : List ℕ} {k c : ℕ} (here : Writing n area₀ area k c) (below : c < n) (room : length (passing p n) ≤ length area₀) where
    pub writing_room : k + bool_byte (p c) ≤ length area
    writing_room = omega (arith, here.index, here.long, passing_next c, passing_longer (c + 1) n (omega arith))

    pub writing_turn : {area' : List ℕ} {k' : ℕ} → length area' ≡ length area → area' ≡ cond (p c) (set area k c) area → k' ≡ k + bool_byte (p c) → Writing n area₀ area' k' (c + 1)
    unfolding passing
    writing_turn {area'} kept put next =
        record {
          low = omega arith;
          index = omega (arith, next, here.index, passing_next c);
          long = kept ∙ here.long;
          written = put ∙ go (p c) writing_room ∙ ap (λ (m : ℕ). passing p m ++ drop (length (passing p m)) area₀) (sym (add-one c));
        }
      where
        xs : List ℕ
        xs = passing p c

        go : (b : Bool) → k + bool_byte b ≤ length area → cond b (set area k c) area ≡ (xs ++ cond b (c ∷ []) []) ++ drop (length (xs ++ cond b (c ∷ []) [])) area₀
        go true l = ap₂ (λ (m : List ℕ) (i : ℕ). set m i c) here.written here.index ∙ put_next area₀ xs c (omega (arith, here.index, here.long))
        go false l = here.written ∙ ap (λ (ys : List ℕ). ys ++ drop (length ys) area₀) (sym (append-nil xs))

  pub writing_done : {n : ℕ} {area₀ area : List ℕ} {k c : ℕ} → Writing n area₀ area k c → n ≤ c → area ≡ passing p n ++ drop (length (passing p n)) area₀
  writing_done {n} {area₀} {c = c} here over =
      let all : c ≡ n = omega (arith, here.low) in
      here.written ∙ ap (λ (m : ℕ). passing p m ++ drop (length (passing p m)) area₀) all
