-- The loop over the steps' rows: what holds at its head, and a turn.
-- Assumes nothing.
use Prim.Native.Nat.{ℕ, ◌+◌, ◌*◌, ◌≤◌}
use native.Mathlib.Omega.{arith}
use mathlib.Core.Path.{◌≡◌, refl, ◌∙◌}
use mathlib.Core.List.{List}
use lib.ListN.{length}
use borrow.Author.Count.{below_none, below_more}
use Rattle.row.specs.Words.{row_words, row_in, with_row}
use Rattle.reading.specs.Walks.{mask_row, StepRows}
use Rattle.outcome.proofs.Stores.{row_same, row_other}

module _ (all : ℕ) (masks : List ℕ) (t₀ : List ℕ) where
  pub writing_start : StepRows all masks 0 t₀ t₀
  writing_start = record { written = below_none (λ (k : ℕ). row_in t₀ k ≡ mask_row all masks k); stays = λ k l. refl }

  pub writing_turn : (t : List ℕ) (a : ℕ) → StepRows all masks a t₀ t → row_words * a + row_words ≤ length t
      → StepRows all masks (a + 1) t₀ (with_row t a (mask_row all masks a))
  writing_turn t a here room =
      let r = mask_row all masks a in
      record {
        written =
            below_more (λ (k : ℕ). row_in (with_row t a r) k ≡ mask_row all masks k) a
            (λ k u. row_other t a r k (λ e. omega arith) ∙ here.written k u)
            (row_same t a r room);
        stays = λ k u. row_other t a r k (λ e. omega arith) ∙ here.stays k (omega arith);
      }
