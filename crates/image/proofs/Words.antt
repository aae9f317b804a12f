-- The kinds of fact words and of entries.
-- Assumes nothing.
use Prim.Native.Nat.{ℕ, ◌/◌, ◌%◌, ◌^◌, ◌≤◌, ◌<◌}
use lib.Dec.{eqb, leb}
use native.Mathlib.Omega.{arith}
use mathlib.Core.Path.{◌≡◌, refl, sym}
use mathlib.Core.Bool.{true, false, ◌||◌}
use mathlib.Core.Logic.{◌⊎◌}
use borrow.Author.Tests.{ne_eqb}
use Rattle.image.specs.Word.{kind, is_kind, is_fact, is_entry}
use Rattle.std.proofs.lemmas.Bool.{agree_below_at}
use Rattle.std.proofs.lemmas.Bool.Decides.{nat_tests}
use Rattle.image.specs.Kinds.{kind_number}
use Rattle.image.specs.declared.word.Kind.{Kind}

-- a fact word is of kind 2, 3 or 4
pub fact_of : (w : ℕ) → 2 ≤ kind w → kind w ≤ 4 → is_fact w ≡ true
fact_of w l u = grind (arith, nat_tests)

pub fact_kind : (w : ℕ) → is_fact w ≡ true → (2 ≤ kind w) × (kind w ≤ 4)
fact_kind w s = grind (arith, nat_tests)

-- an entry is of kind 8, 9 or 13
pub entry_cases : (w : ℕ) → is_entry w ≡ true → (kind w ≡ 8) ⊎ (kind w ≡ 9) ⊎ (kind w ≡ 13)
entry_cases w e = grind (arith, nat_tests)

pub entry_of_lem : (w : ℕ) → (kind w ≡ 8) ⊎ (kind w ≡ 9) ⊎ (kind w ≡ 13) → is_entry w ≡ true
entry_of_lem w is = grind (arith, nat_tests)

pub entry_kinds : (w : ℕ) → is_entry w ≡ true → (kind w ≡ 8 → ⊥) → (kind w ≡ 13 → ⊥) → kind w ≡ 9
entry_kinds w e step check = grind (arith, nat_tests, entry_cases w e)

pub entry_high : (w : ℕ) → is_entry w ≡ true → 8 ≤ kind w
entry_high w e = grind (arith, nat_tests)

-- of the kinds of entries that of steps is the least and that of checks the greatest
pub kinds_between : (w : ℕ) → is_entry w ≡ true → (leb (kind w) 8 ≡ is_kind 8 w) × (leb 13 (kind w) ≡ is_kind 13 w)
kinds_between w e = grind (arith, nat_tests)

-- the kinds of entries as the bits of a number
pub entry_bit : (w : ℕ) → w < 2 ^ 32 → eqb (0x2300 / 2 ^ kind w % 2) 1 ≡ is_entry w
entry_bit w l = agree_below_at (λ k. eqb (0x2300 / 2 ^ k % 2) 1) (λ k. eqb k 8 || eqb k 9 || eqb k 13) 16 (kind w) refl (omega arith)

-- a word whose kind no kind has is of none
pub no_kind : (w : ℕ) → ((k : Kind) → kind_number k ≡ kind w → ⊥) → (k : Kind) → is_kind (kind_number k) w ≡ false
no_kind w none k = ne_eqb (kind w) (kind_number k) (λ e. none k (sym e))
