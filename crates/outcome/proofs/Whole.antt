-- A run is found for all facts or for none: of the rows of alternatives, and of a table that visits lead to from a blank one.
-- Assumes nothing.
use Prim.Native.Nat.{ℕ, ◌*◌, ◌≤◌}
use native.Mathlib.Decide.{ℕ_discrete}
use native.Mathlib.Omega.{arith}
use mathlib.Core.Path.{◌≡◌, refl, sym, ◌∙◌, ap₂, subst}
use mathlib.Core.Bool.{Bool, true, false, cond}
use mathlib.Core.Logic.{◌⊎◌, inl, inr, ⊎_elim}
use mathlib.Core.List.{List, [], ◌∷◌}
use lib.ListN.{length}
use lib.Bits.{bit_or, or_zero_l, or_zero_r, or_self}
use Rattle.library.specs.Library.{Entry, Alternative}
use Rattle.walk.specs.Walk.{alternatives_at}
use Rattle.row.specs.Words.{row_words, no_row, start_row, join_rows, or_rows, row_in}
use Rattle.row.specs.declared.words.Row.{Row}
use Rattle.settling.specs.Settling.{Reached, here, next}
use Rattle.reading.specs.Walks.{is_dead, entry_in, joined_from, alternative_in, united_from}
use Rattle.reading.specs.declared.read.Block.{Block}
use Rattle.outcome.specs.Visited.{visited}
use Rattle.outcome.proofs.Stores.{row_same, row_other}
use Rattle.outcome.proofs.Visited.{visits_lower}
use Rattle.settling.proofs.Visits.{reached_length}

module _ (b : Block) where
  -- the word of runs has all facts, or none
  abbrev pub Whole : Row → Type 0
  Whole r = (r.run ≡ 0) ⊎ (r.run ≡ b.all)

  either_whole : (x y : Row) → Whole x → Whole y → Whole (or_rows x y)
  either_whole x y p q =
      ⊎_elim
      (λ a. ⊎_elim (λ z. inl (ap₂ bit_or a z ∙ or_zero_l 0)) (λ z. inr (ap₂ bit_or a z ∙ or_zero_l b.all)) q)
      (λ a. ⊎_elim (λ z. inr (ap₂ bit_or a z ∙ or_zero_r b.all)) (λ z. inr (ap₂ bit_or a z ∙ or_self b.all)) q)
      p

  cond_whole : (t : Bool) (r : Row) → Whole r → Whole (cond t no_row r)
  cond_whole true r a = inl refl
  cond_whole false r a = a

  module _ (steps table : List ℕ) where
    joined_whole : (es : List Entry) (X : Row) → X.run ≡ b.all → Whole (joined_from b steps table X es)
    unfolding joined_from
    joined_whole [] X a = inr a
    joined_whole (e ∷ es) X a = cond_whole (is_dead table e) _ (joined_whole es (join_rows X (entry_in b steps table e)) a)

    united_whole : (alts : List Alternative) (X : Row) → Whole X → Whole (united_from b steps table X alts)
    unfolding united_from
    united_whole [] X a = a
    united_whole (es ∷ alts) X a =
        united_whole alts (or_rows X (alternative_in b steps table es)) (either_whole X (alternative_in b steps table es) a (joined_whole es (start_row b.all) refl))

  -- a table
  module _ (steps part places : List ℕ) (m : ℕ) where
    pub reached_whole : {t₀ t : List ℕ} → row_words * m ≤ length t₀ → ((c : ℕ) → Whole (row_in t₀ c)) → Reached (visited b steps part places) m t₀ t
        → (c : ℕ) → Whole (row_in t c)
    reached_whole room whole here = whole
    reached_whole room whole (next {table = s} c l r) = λ d.
        let before = reached_whole room whole r in
        let y = united_from b steps s no_row (alternatives_at part places c) in
        elim (ℕ_discrete d c) [
          | yes e ↦ subst (λ (k : ℕ). Whole (row_in (visited b steps part places s c) k)) (sym e)
              (subst Whole (sym (row_same s c (or_rows (row_in s c) y) (omega (arith, reached_length (visits_lower b steps part places m) r))))
              (either_whole (row_in s c) y (before c) (united_whole steps s (alternatives_at part places c) no_row (inl refl))))
          | no apart ↦ subst Whole (sym (row_other s c (or_rows (row_in s c) y) d apart)) (before d)
        ]
