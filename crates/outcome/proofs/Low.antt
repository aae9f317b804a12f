-- No bit is set from F upward: of each formula on rows, of entries and alternatives, and of a table that visits lead to from a blank one.
-- Assumes nothing.
use Prim.Native.Nat.{ℕ, ◌*◌, ◌^◌, ◌≤◌, ◌<◌}
use native.Mathlib.Decide.{ℕ_discrete}
use native.Mathlib.Nat.{lt_of_le_of_lt}
use native.Mathlib.Omega.{arith}
use Rattle.std.proofs.Common.{rules}
use mathlib.Core.Path.{◌≡◌, sym, subst}
use mathlib.Core.Bool.{Bool, true, false, cond}
use mathlib.Core.List.{List, [], ◌∷◌}
use lib.ListN.{length}
use lib.Bits.{bit_and, bit_or, and_le_l, and_le_r, or_lt}
use lib.Pow.{pow_pos, ones_lt}
use Rattle.library.specs.Library.{Entry, step, check, item, call, Alternative}
use Rattle.walk.specs.Walk.{alternatives_at}
use Rattle.row.specs.Words.{row_words, all_facts, no_row, start_row, step_row, check_row, join_rows, or_rows, row_in, words_of}
use Rattle.reading.specs.Walks.{is_dead, entry_in, joined_from, alternative_in, united_from}
use Rattle.reading.specs.declared.read.Block.{Block}
use Rattle.outcome.specs.Visited.{visited}
use Rattle.settling.specs.Settling.{Reached, here, next}
use Rattle.row.specs.declared.words.Row.{Row}
use Rattle.general.specs.Tests.{All}
use Rattle.outcome.proofs.Stores.{row_same, row_other}
use Rattle.outcome.proofs.Visited.{visits_lower}
use Rattle.settling.proofs.Visits.{reached_length}

module _ (n : ℕ) where
  -- each word of the row is below 2^n
  abbrev pub LowRow : Row → Type 0
  LowRow r = All (λ (w : ℕ). w < 2 ^ n) (words_of r)

  or_low : (a b : ℕ) → a < 2 ^ n → b < 2 ^ n → bit_or a b < 2 ^ n
  or_low = or_lt n

  and_low : (a b : ℕ) → a < 2 ^ n → bit_and a b < 2 ^ n
  and_low a b l = lt_of_le_of_lt (and_le_l a b) l

  and_low_r : (a b : ℕ) → b < 2 ^ n → bit_and a b < 2 ^ n
  and_low_r a b l = lt_of_le_of_lt (and_le_r a b) l

  pub none_low : LowRow no_row
  none_low = let z = pow_pos n in search rules depth 24

  start_low : LowRow (start_row (all_facts n))
  start_low = let z = pow_pos n in let o = ones_lt n in search rules depth 24

  pub step_low : (needs sets clears : ℕ) → needs < 2 ^ n → sets < 2 ^ n → clears < 2 ^ n → LowRow (step_row (all_facts n) needs sets clears)
  step_low needs sets clears a b c = let z = pow_pos n in let o = ones_lt n in search (rules, and_low) depth 24

  join_low : (x y : Row) → LowRow x → LowRow y → LowRow (join_rows x y)
  join_low x y a b = search (rules, or_low, and_low) depth 24

  -- a check after a row leaves it low, though the check's own row is not
  check_low : (x : Row) (k f : ℕ) → LowRow x → LowRow (join_rows x (check_row k f))
  check_low x k f a = let z = pow_pos n in search (rules, or_low, and_low, and_low_r) depth 24

  union_low : (x y : Row) → LowRow x → LowRow y → LowRow (or_rows x y)
  union_low x y a b = search (rules, or_low) depth 24

  cond_low : (b : Bool) (r : Row) → LowRow r → LowRow (cond b no_row r)
  cond_low true r a = none_low
  cond_low false r a = a

  -- ---- entries and alternatives

  module _ (b : Block) (full : b.all ≡ all_facts n) (steps table : List ℕ) (low_steps : (a : ℕ) → LowRow (row_in steps a)) (low_table : (c : ℕ) → LowRow (row_in table c)) where
    entry_low : (e : Entry) (X : Row) → LowRow X → LowRow (join_rows X (entry_in b steps table e))
    entry_low (item (step a)) X x = join_low X _ x (low_steps a)
    entry_low (item (check f)) X x = check_low X b.number f x
    entry_low (call d) X x = join_low X _ x (low_table d)

    joined_low : (es : List Entry) (X : Row) → LowRow X → LowRow (joined_from b steps table X es)
    unfolding joined_from
    joined_low [] X a = a
    joined_low (e ∷ es) X a = cond_low (is_dead table e) _ (joined_low es (join_rows X (entry_in b steps table e)) (entry_low e X a))

    united_low : (alts : List Alternative) (X : Row) → LowRow X → LowRow (united_from b steps table X alts)
    unfolding united_from
    united_low [] X a = a
    united_low (es ∷ alts) X a =
        united_low alts (or_rows X (alternative_in b steps table es)) (union_low X _ a (joined_low es (start_row b.all) (subst (λ (m : ℕ). LowRow (start_row m)) (sym full) start_low)))

  -- ---- a table

  module _ (b : Block) (full : b.all ≡ all_facts n) (steps part places : List ℕ) (low_steps : (a : ℕ) → LowRow (row_in steps a)) (m : ℕ) where
    pub reached_low : {t₀ t : List ℕ} → row_words * m ≤ length t₀ → ((c : ℕ) → LowRow (row_in t₀ c)) → Reached (visited b steps part places) m t₀ t
        → (c : ℕ) → LowRow (row_in t c)
    reached_low room low here = low
    reached_low room low (next {table = s} c l r) = λ d.
        let before = reached_low room low r in
        let y = united_from b steps s no_row (alternatives_at part places c) in
        elim (ℕ_discrete d c) [
          | yes e ↦ subst (λ (k : ℕ). LowRow (row_in (visited b steps part places s c) k)) (sym e)
              (subst LowRow (sym (row_same s c (or_rows (row_in s c) y) (omega (arith, reached_length (visits_lower b steps part places m) r))))
              (union_low (row_in s c) y (before c) (united_low b full steps s low_steps before (alternatives_at part places c) no_row none_low)))
          | no apart ↦ subst LowRow (sym (row_other s c (or_rows (row_in s c) y) d apart)) (before d)
        ]
