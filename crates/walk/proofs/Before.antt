-- The alternatives of a sequence that open before an index: counted from the first on, and gone through from the last to the first.
-- It has: `before_` start, turn, out and few, and `last_turn`, for a walk from left to right; `before_back`, from an index to the last opener
-- before it, and `opener_last`, one word of the way.
-- Assumes nothing.
use Prim.Native.Nat.{ℕ, zero, suc, ◌+◌, ◌-◌, ◌≤◌, ◌<◌}
use native.Mathlib.Nat.{eq-or-lt_of_le}
use native.Mathlib.Numerals.{add-one}
use native.Mathlib.Omega.{arith}
use mathlib.Core.Path.{◌≡◌, refl, ap, ◌∙◌}
use mathlib.Core.Logic.{◌⊎◌, inl, inr, ⊎_elim}
use mathlib.Core.Bool.{Bool, true, false, cond, ◌||◌}
use mathlib.Core.List.{List, [], ◌∷◌}
use mir.Val.{bool_byte}
use lib.ListN.{length, get_or, drop, length-drop, get_or-eq_default}
use Rattle.general.specs.Scan.{last_index}
use Rattle.general.proofs.Bools.{passes_or_not, or_cases, nor_left, nor_right}
use Rattle.image.specs.Word.{is_kind, is_entry}
use Rattle.library.specs.Library.{Alternative, entries_from, alternatives_from}
use Rattle.walk.specs.Walk.{Before, opener_before, LastBefore}
use Rattle.library.proofs.Decode.{alternatives_short}
use Rattle.walk.proofs.Walking.{opener_inside, entry_inside, alternatives_at_lem, drop_next}

module _ (part : List ℕ) where
  -- the alternatives from index i on, and whether a word opens one or is an entry
  abbrev from : ℕ → List Alternative
  from i = alternatives_from (drop i part)

  abbrev opens : ℕ → Bool
  opens i = is_kind 7 (get_or part i 0)

  abbrev names : ℕ → Bool
  names i = is_entry (get_or part i 0)

  -- a word of a sequence opens an alternative, or the same ones stand from the next word on
  word_cases : (i : ℕ) → opens i || names i ≡ true
      → ((opens i ≡ true) × (from i ≡ entries_from (drop (suc i) part) ∷ from (suc i))) ⊎ ((opens i ≡ false) × (from i ≡ from (suc i)))
  word_cases i e = rw (← add-one i) (go (passes_or_not (opens i)))
    where
      go : (opens i ≡ true) ⊎ (opens i ≡ false)
          → ((opens i ≡ true) × (from i ≡ entries_from (drop (i + 1) part) ∷ from (i + 1))) ⊎ ((opens i ≡ false) × (from i ≡ from (i + 1)))
      go (inl o) = inl (o, alternatives_at_lem part i true (names i) o refl)
      go (inr o) = inr (o, alternatives_at_lem part i false true o (rw o at e))

  module _ (at : ℕ) where
    abbrev Stands : ℕ → Type 0
    Stands i = (j : ℕ) → at ≤ j → j < i → opens j || names j ≡ true

    -- ---- from left to right

    pub before_start : at ≤ length part → Before part at 0 at
    before_start l = record { low = omega arith; within = l; words = λ j from to. absurd (omega arith); count = omega arith }

    module _ (n i : ℕ) (here : Before part at n i) where
      pub before_turn : opens i || names i ≡ true → Before part at (n + bool_byte (opens i)) (i + 1)
      before_turn e =
          let next = add-one i in
          record {
            low = omega (arith, here.low);
            within = omega (arith, ⊎_elim (opener_inside part i) (entry_inside part i) (or_cases (opens i) (names i) e));
            words = λ j l u. ⊎_elim (λ (same : j ≡ i). rw same e) (λ lt. here.words j l lt) (eq-or-lt_of_le (omega arith));
            count =
                rw next
                (⊎_elim (λ (o, more). omega (arith, here.count, ap length more, ap bool_byte o))
                (λ (o, same). omega (arith, here.count, ap length same, ap bool_byte o)) (word_cases i e));
          }

      -- the next sequence, or the end of the words
      pub before_out : opens i || names i ≡ false → n ≡ length (from at)
      before_out e =
          omega (arith, here.count, ap length (alternatives_at_lem part i false false (nor_left (opens i) (names i) e) (nor_right (opens i) (names i) e)))

      -- past the words stands 0
      pub before_end : i ≡ length part → n ≡ length (from at)
      before_end e = before_out (ap (λ (w : ℕ). is_kind 7 w || is_entry w) (get_or-eq_default part 0 {n = i} (omega arith)))

    -- the same with the index of the last opener
    pub last_turn : (n last i : ℕ) → LastBefore part at n last i → opens i || names i ≡ true
        → LastBefore part at (n + bool_byte (opens i)) (cond (opens i) i last) (i + 1)
    unfolding last_index
    last_turn n last i here e = record { before = before_turn n i here.before e; opener = rw (add-one i) (go (opens i)) }
      where
        go : (b : Bool) → 0 < n + bool_byte b → cond b i last ≡ cond b i (opener_before part i)
        go true some = refl
        go false some = here.opener (omega arith)

    -- they are no more than the words
    pub before_few : (n i : ℕ) → Before part at n i → n ≤ length part
    before_few n i here = omega (arith, here.count, alternatives_short (drop at part), length-drop at part)

    -- ---- from the last to the first

    -- the alternatives from an index on are those of the sequence but for as many as open before it
    left_over : (m : ℕ) → Stands (at + m) → drop (length (from at) - length (from (at + m))) (from at) ≡ from (at + m)
    left_over zero stands =
        let same : at + 0 ≡ at = omega arith in
        let none : length (from at) - length (from at) ≡ 0 = omega arith in
        rw same (ap (λ (n : ℕ). drop n (from at)) none)
    left_over (suc m) stands =
        let next : at + suc m ≡ suc (at + m) = omega arith in
        let rest = left_over m (λ j l u. stands j l (omega arith)) in
        let long = ap length rest in
        let cut = length-drop (length (from at) - length (from (at + m))) (from at) in
        rw next
        (⊎_elim
        (λ (o, more). let k : length (from at) - length (from (suc (at + m))) ≡ suc (length (from at) - length (from (at + m))) =
        omega (arith, ap length more) in rw k (drop_next (from at) (length (from at) - length (from (at + m))) _ _ (rest ∙ more)).0)
        (λ (o, same). rw (← same) rest)
        (word_cases (at + m) (stands (at + m) (omega arith) (omega arith))))

    before_left : (n i : ℕ) → Before part at n i → drop n (from at) ≡ from i
    before_left n i here =
        let whole : at + (i - at) ≡ i = omega (arith, here.low) in
        let count : n ≡ length (from at) - length (from i) = omega (arith, here.count) in
        ap (λ (m : ℕ). drop m (from at)) count ∙ rw whole at (left_over (i - at) (λ j l u. here.words j l (omega arith)))

    -- what stands at the last opener before an index: n alternatives open before it, and the words after it are the entries of alternative n
    pub record Back (n s : ℕ) : Type 0 where
      pub before : Before part at n s
      pub inside : s < length part
      pub entries : get_or (from at) n [] ≡ entries_from (drop (s + 1) part)

    pub before_back : (n i : ℕ) → Before part at (suc n) i → Back n (opener_before part i)
    unfolding last_index
    before_back n zero here =
        let first : at ≡ 0 = omega (arith, here.low) in
        absurd (omega (arith, here.count, ap (λ (i : ℕ). length (from i)) first))
    before_back n (suc i) here = go (eq-or-lt_of_le here.low) (before_back n i)
      where
        Found : Bool → Type 0
        Found b = Back n (cond b i (opener_before part i))

        -- one word less
        back : (m : ℕ) → at ≤ i → m + length (from i) ≡ length (from at) → Before part at m i
        back m l count = record { low = l; within = omega (arith, here.within); words = λ j low high. here.words j low (omega arith); count = count }

        word : at ≤ i → (Before part at (suc n) i → Back n (opener_before part i)) → Found (opens i)
        word l rest =
            ⊎_elim
            (λ (o, more). let b = back n l (omega (arith, here.count, ap length more)) in
            rw o (record {
              before = b;
              inside = omega (arith, here.within);
              entries = rw (add-one i) ((drop_next (from at) n _ _ (before_left n i b ∙ more)).1 []);
            }))
            (λ (o, same). rw o (rest (back (suc n) l (omega (arith, here.count, ap length same)))))
            (word_cases i (here.words i l (omega arith)))

        go : (at ≡ suc i) ⊎ (at < suc i) → (Before part at (suc n) i → Back n (opener_before part i)) → Found (opens i)
        go (inl same) rest = absurd (omega (arith, here.count, ap (λ (j : ℕ). length (from j)) same))
        go (inr lt) rest = word (omega arith) rest

-- the last opener before an index, by whether the word before it opens an alternative
pub opener_last : (part : List ℕ) (i : ℕ) (b : Bool) → 0 < i → is_kind 7 (get_or part (i - 1) 0) ≡ b
    → cond b (i - 1) (opener_before part (i - 1)) ≡ opener_before part i
unfolding last_index
opener_last part zero b lt e = absurd (omega arith)
opener_last part (suc i) b lt e = let less : suc i - 1 ≡ i = omega arith in rw (← e, less)
