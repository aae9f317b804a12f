-- What a card says fixes its numbers: any numbers of which `Card` holds are the same.
-- Assumes nothing.
use Prim.Native.Nat.{ℕ, zero, suc, ◌+◌, ◌-◌, ◌/◌, ◌%◌, ◌^◌, ◌≤◌, ◌<◌}
use native.Mathlib.Omega.{arith}
use native.Mathlib.Decide.{dec_lt}
use mathlib.Core.Path.{◌≡◌, refl, sym, ap, ap₂, ◌∙◌}
use mathlib.Core.Logic.Iff
use mathlib.Core.Logic.{◌↔◌, ⊎_elim, by_cases}
use mathlib.Core.Bool.{◌||◌, true≢false}
use lib.Pow.{shr-shr}
use Rattle.column.specs.Column.{bit}
use Rattle.column.specs.Sets.{in_column, count_below}
use Rattle.column.proofs.Bits.{bit_le, all_bits_lem}
use Rattle.library.specs.Library.{Library}
use Rattle.runs.specs.Possible.{has_run}
use Rattle.general.proofs.Bools.{passes_or_not}
use Rattle.runs.specs.Run.{HasRun, NoRun}
use Rattle.runs.proofs.Columns.{has_run_iff}
use Rattle.cards.specs.Layout.{CardColumn, may_set, may_clear, place, card_numbers}
use Rattle.cards.specs.Meaning.{Card}
use Rattle.cards.proofs.Meaning.{by_number}

-- bits that are 1 together are equal
bit_iff : (a b k : ℕ) → (bit a k ≡ 1) ↔ (bit b k ≡ 1) → bit a k ≡ bit b k
bit_iff a b k both = go (bit a k) (bit b k) (bit_le a k) (bit_le b k) both
  where
    go : (m n : ℕ) → m ≤ 1 → n ≤ 1 → (m ≡ 1) ↔ (n ≡ 1) → m ≡ n
    go zero zero l u both = refl
    go zero (suc n) l u both = let one : suc n ≡ 1 = omega arith in let no = both.1 one in omega arith
    go (suc m) n l u both = let one : suc m ≡ 1 = omega arith in let two = both.0 one in omega arith

turn : {A B : Type 0} → A ↔ B → B ↔ A
turn (there, back) = (back, there)

-- the bits of a number from place 8 on
bit_shift : (a k : ℕ) → 8 ≤ k → bit a k ≡ bit (a / 2 ^ 8) (k - 8)
unfolding bit
bit_shift a k l =
    let whole : k ≡ 8 + (k - 8) = omega arith in
    ap (λ (n : ℕ). a / 2 ^ n % 2) whole ∙ ap (λ (n : ℕ). n % 2) (sym (shr-shr a 8 (k - 8)))

module _ (L : Library) (c : ℕ) (word other : ℕ → ℕ) (one : Card L c word) (two : Card L c other) where
  module _ (run : HasRun L c) where
    -- a column holds the same facts, by the published definition
    column_fixed : (k : CardColumn) → word (place k) ≡ other (place k)
    column_fixed k =
        all_bits_lem (word (place k)) (other (place k))
        (λ f. by_cases (dec_lt f L.facts)
        (λ low. bit_iff (word (place k)) (other (place k)) f (Iff.trans (one.columns run (f, low) k) (turn (two.columns run (f, low) k))))
        (λ high. one.facts_only k f (omega arith) ∙ sym (two.facts_only k f (omega arith))))

    counts_fixed : word 0 / 2 ^ 8 ≡ other 0 / 2 ^ 8
    counts_fixed =
        let set = column_fixed may_set in
        let clear = column_fixed may_clear in
        one.flags.count
        ∙ ap₂ (λ (a b : ℕ). count_below L.facts (λ (f : ℕ). in_column a f || in_column b f)) set clear
        ∙ sym two.flags.count

    flags_fixed : (k : ℕ) → bit (word 0) k ≡ bit (other 0) k
    flags_fixed zero = bit_iff (word 0) (other 0) 0 (Iff.trans one.flags.run (turn two.flags.run))
    flags_fixed (suc zero) = bit_iff (word 0) (other 0) 1 (Iff.trans one.flags.empty_run (turn two.flags.empty_run))
    flags_fixed (suc (suc k)) =
        by_cases (dec_lt (suc (suc k)) 8)
        (λ low. one.flags.between (suc (suc k)) (omega arith) low ∙ sym (two.flags.between (suc (suc k)) (omega arith) low))
        (λ high. let from : 8 ≤ suc (suc k) = omega arith in
        bit_shift (word 0) (suc (suc k)) from ∙ ap (λ (n : ℕ). bit n (suc (suc k) - 8)) counts_fixed ∙ sym (bit_shift (other 0) (suc (suc k)) from))

  pub card_unique : (k : ℕ) → k < card_numbers → word k ≡ other k
  card_unique k l =
      ⊎_elim (λ e. live ((has_run_iff L c).0 e) k l)
      (λ e. let none : NoRun L c = λ w r. true≢false (sym ((has_run_iff L c).1 (w, r)) ∙ e) in one.blank.1 none k l ∙ sym (two.blank.1 none k l))
      (passes_or_not (has_run L c))
    where
      live : HasRun L c → (j : ℕ) → j < card_numbers → word j ≡ other j
      live run = by_number (λ j. word j ≡ other j) (all_bits_lem (word 0) (other 0) (flags_fixed run)) (column_fixed run)
