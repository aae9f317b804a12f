-- The number that words are, as text: the numeral of the highest word that is not 0, and the digits of the words below it.
-- Assumes nothing.
use Prim.Native.Nat.{ℕ, zero, suc, ◌+◌, ◌*◌, ◌^◌, ◌≤◌, ◌<◌}
use native.Mathlib.Decide.{dec_lt}
use native.Mathlib.Nat.{zero-lt-suc}
use native.Mathlib.Omega.{arith}
use mathlib.Core.Path.{◌≡◌, refl, sym, ap, ap₂, ◌∙◌, subst}
use mathlib.Core.Logic.{◌⊎◌, inl, inr, ⊎_elim}
use mathlib.Core.Bool.{Bool, true, false, cond}
use mathlib.Core.List.{List, [], ◌∷◌, ◌++◌, append-nil, append_assoc}
use lib.ListN.{length, get_or, length-append}
use lib.Dec.{ltb}
use borrow.Author.Tests.{lt-ltb, ltb-true}
use Rattle.column.specs.Words.{number}
use Rattle.general.specs.Scan.{last_index}
use Rattle.general.proofs.Scan.{last_found}
use Rattle.text.specs.Number.{numeral, digits_in}
use Rattle.text.specs.declared.area.Text.{Text}
use Rattle.text.specs.Text.{Put, PutWithin, DigitsAsked}
use Rattle.text.proofs.Text.{put_more}
use Rattle.std.specs.Prelude.{Option, None, Some, MatchOption, unwrap_or, ◌≢◌, take}
use Rattle.std.proofs.lemmas.List.{length-take-le, get_or-take}
use Rattle.text.proofs.Numeral.{numeral_length, numeral_digits, length_digits}
use Rattle.card_text.specs.Writers.{highest_word, digits_below, number_bytes}

hex_length : (w : ℕ) → w < 2 ^ 64 → length (numeral 16 w) ≤ 16
hex_length w l = numeral_length 16 (omega arith) 15 w l

-- ---- the highest word that is not 0

module _ (p : ℕ → Bool) (d : ℕ) where
  -- the last index that passes, or the default
  last_is : (n : ℕ) → (last_index p d n ≡ d) ⊎ ((last_index p d n < n) × (p (last_index p d n) ≡ true))
  unfolding last_index
  last_is zero = inl refl
  last_is (suc n) = go (p n) refl (last_is n)
    where
      go : (b : Bool) → p n ≡ b → (last_index p d n ≡ d) ⊎ ((last_index p d n < n) × (p (last_index p d n) ≡ true))
          → (cond b n (last_index p d n) ≡ d) ⊎ ((cond b n (last_index p d n) < suc n) × (p (cond b n (last_index p d n)) ≡ true))
      go true e lower = inr (omega arith, e)
      go false e (inl none) = inl none
      go false e (inr some) = inr (omega (arith, some.0), some.1)

module _ (ws : List ℕ) where
  -- every word above it is 0
  above_highest : (k : ℕ) → highest_word ws < k → k < length ws → get_or ws k 0 ≡ 0
  unfolding highest_word
  above_highest k above within = ⊎_elim (λ none. none) (λ some. absurd (omega (arith, above, (last_found (λ (i : ℕ). ltb 0 (get_or ws i 0)) 0 (length ws) k within (lt-ltb 0 (get_or ws k 0) some)).0)))
      (elim (dec_lt 0 (get_or ws k 0)) [ yes l ↦ inr l | no l ↦ inl (omega arith) ])

  -- it is word 0, or is not 0
  highest_some : (highest_word ws ≡ 0) ⊎ (0 < get_or ws (highest_word ws) 0)
  unfolding highest_word
  highest_some = ⊎_elim inl (λ found. inr (ltb-true 0 (get_or ws (highest_word ws) 0) found.1)) (last_is (λ (i : ℕ). ltb 0 (get_or ws i 0)) 0 (length ws))

  highest_within : 0 < length ws → highest_word ws < length ws
  unfolding highest_word
  highest_within some = ⊎_elim (λ none. omega (arith, none)) (λ found. found.0) (last_is (λ (i : ℕ). ltb 0 (get_or ws i 0)) 0 (length ws))

-- ---- the numeral of the number

-- where every word is 0 the number is 0, and where one is not it is above 0
number_none : (ws : List ℕ) → ((k : ℕ) → k < length ws → get_or ws k 0 ≡ 0) → number ws ≡ 0
unfolding number
number_none [] none = refl
number_none (w ∷ ws) none = omega (arith, none 0 (zero-lt-suc _), number_none ws (λ k l. none (suc k) (omega arith)))

number_some : (ws : List ℕ) (k : ℕ) → 0 < get_or ws k 0 → 0 < number ws
unfolding number
number_some [] k l = absurd (omega arith)
number_some (w ∷ ws) zero l = omega arith
number_some (w ∷ ws) (suc k) l = omega (arith, number_some ws k l)

-- a word more, the lowest: its digits are the last
digits_cons : (w : ℕ) (ws : List ℕ) (n : ℕ) → digits_below (w ∷ ws) (suc n) ≡ digits_below ws n ++ digits_in 16 16 w
unfolding digits_below
digits_cons w ws zero = append-nil (digits_in 16 16 w)
digits_cons w ws (suc n) =
    ap (λ (t : List ℕ). digits_in 16 16 (get_or ws n 0) ++ t) (digits_cons w ws n)
    ∙ sym (append_assoc (digits_in 16 16 (get_or ws n 0)) (digits_below ws n) (digits_in 16 16 w))

-- the numeral of a number in words: word h and the digits of those below it, where those above it are 0 and it is not, or is word 0
numeral_at : (ws : List ℕ) → ((k : ℕ) → get_or ws k 0 < 2 ^ 64) → (h : ℕ) → ((k : ℕ) → h < k → k < length ws → get_or ws k 0 ≡ 0)
    → (h ≡ 0) ⊎ (0 < get_or ws h 0) → numeral 16 (number ws) ≡ numeral 16 (get_or ws h 0) ++ digits_below ws h
unfolding number digits_below
numeral_at [] low zero above some = sym (append-nil (numeral 16 0))
numeral_at [] low (suc h) above some = absurd (⊎_elim (λ e. omega (arith, e)) (λ l. omega (arith, l)) some)
numeral_at (w ∷ ws) low zero above some =
    let all : w + 2 ^ 64 * number ws ≡ w = omega (arith, number_none ws (λ k l. above (suc k) (zero-lt-suc k) (omega arith))) in
    ap (numeral 16) all ∙ sym (append-nil (numeral 16 w))
numeral_at (w ∷ ws) low (suc h) above some =
    let here : 0 < get_or ws h 0 = ⊎_elim (λ e. absurd (omega (arith, e))) (λ l. l) some in
    numeral_digits 16 (omega arith) 16 w (number ws) (low 0) (number_some ws h here)
    ∙ ap (λ (t : List ℕ). t ++ digits_in 16 16 w) (numeral_at ws (λ k. low (suc k)) h (λ k l u. above (suc k) (omega arith) (omega arith)) (inr here))
    ∙ append_assoc (numeral 16 (get_or ws h 0)) (digits_below ws h) (digits_in 16 16 w)
    ∙ ap (λ (t : List ℕ). numeral 16 (get_or ws h 0) ++ t) (sym (digits_cons w ws h))

pub numeral_number : (ws : List ℕ) → ((k : ℕ) → get_or ws k 0 < 2 ^ 64)
    → numeral 16 (number ws) ≡ numeral 16 (get_or ws (highest_word ws) 0) ++ digits_below ws (highest_word ws)
numeral_number ws low = numeral_at ws low (highest_word ws) (above_highest ws) (highest_some ws)

pub length_below : (ws : List ℕ) (n : ℕ) → length (digits_below ws n) ≡ 16 * n
unfolding digits_below
length_below ws zero = refl
length_below ws (suc n) =
    omega (arith, length-append (digits_in 16 16 (get_or ws n 0)) (digits_below ws n), length_digits 16 16 (get_or ws n 0), length_below ws n)

-- ---- the highest word that is not 0, found from the last to the first

pub highest_is : (ws : List ℕ) (r : Option ℕ)
    → MatchOption r ((k : ℕ) → k < length ws → get_or ws k 0 ≡ 0)
    (λ i. (i < length ws) × (get_or ws i 0 ≢ 0) × ((k : ℕ) → i < k → k < length ws → get_or ws k 0 ≡ 0))
    → unwrap_or r 0 ≡ highest_word ws
unfolding highest_word last_index
highest_is [] None none = refl
highest_is (w ∷ ws) None none =
    let h = highest_word (w ∷ ws) in
    let low : h < length (w ∷ ws) = highest_within (w ∷ ws) (zero-lt-suc _) in
    ⊎_elim (λ e. sym e) (λ l. absurd (omega (arith, none h low))) (highest_some (w ∷ ws))
highest_is ws (Some i) found =
    let h = highest_word ws in
    let low : h < length ws = highest_within ws (omega (arith, found.0)) in
    let not_above : i ≤ h = elim (dec_lt h i) [ yes l ↦ absurd (found.1 (above_highest ws i l found.0)) | no l ↦ omega arith ] in
    let not_below : h ≤ i = elim (dec_lt i h) [ yes l ↦ ⊎_elim (λ e. omega (arith, e)) (λ some. absurd (omega (arith, some, found.2 h l low))) (highest_some ws) | no l ↦ omega arith ] in
    omega arith

-- ---- the number, after a space

-- the digits of the words in front of word h, by these words alone
below_front : (ws : List ℕ) (h n : ℕ) → n ≤ h → digits_below (take h ws) n ≡ digits_below ws n
unfolding digits_below
below_front ws h zero l = refl
below_front ws h (suc n) l = ap₂ (λ w t. digits_in 16 16 w ++ t) (get_or-take h ws n 0 (omega arith)) (below_front ws h n (omega arith))

module _ (ws : List ℕ) (some : 0 < length ws) (h : ℕ) (is : h ≡ highest_word ws) where
  pub top_within : h < length ws
  top_within = omega (arith, is, highest_within ws some)

  module _ (low : (k : ℕ) → get_or ws k 0 < 2 ^ 64) (front : List ℕ) (part : front ≡ take h ws) (a₀ a₁ : Text) (p : Put a₀ (digits_below front (length front)) a₁) where
    low_put : Put a₀ (digits_below ws h) a₁
    low_put =
        let long : length front ≡ h = ap length part ∙ length-take-le h ws (omega (arith, top_within)) in
        subst (λ t. Put a₀ t a₁) (ap₂ digits_below part long ∙ below_front ws h h (omega arith)) p

    pub top_asked : number_bytes (length ws) ≤ a₀.begin → DigitsAsked a₁ 16 (length (numeral 16 (get_or ws h 0)))
    top_asked fits =
        record {
          low = omega arith;
          high = omega arith;
          room = omega (arith, hex_length (get_or ws h 0) (low h), top_within, low_put.front.room, length_below ws h);
        }

    module _ (a₂ : Text) (q : Put a₁ (numeral 16 (get_or ws h 0)) a₂) where
      pub space_room : number_bytes (length ws) ≤ a₀.begin → 0 < a₂.begin
      space_room fits = omega (arith, hex_length (get_or ws h 0) (low h), top_within, low_put.front.room, q.front.room, length_below ws h)

      pub number_put : (a₃ : Text) → Put a₂ (32 ∷ []) a₃ → PutWithin (number_bytes (length ws)) a₀ (32 ∷ numeral 16 (number ws)) a₃
      number_put a₃ s =
          let top = numeral 16 (get_or ws h 0) in
          let digits = digits_below ws h in
          let whole : top ++ digits ≡ numeral 16 (number ws) =
          ap (λ (k : ℕ). numeral 16 (get_or ws k 0) ++ digits_below ws k) is ∙ sym (numeral_number ws low) in
          record {
            put = subst (λ t. Put a₀ (32 ∷ t) a₃) whole (put_more a₀ (top ++ digits) a₂ (32 ∷ []) a₃ (put_more a₀ digits a₁ top a₂ low_put q) s);
            within = omega (arith, hex_length (get_or ws h 0) (low h), top_within, low_put.front.room, q.front.room, s.front.room, length_below ws h);
          }
