-- What a visit of the outcome table promises.
-- Assumes nothing.
use Prim.Native.Nat.{ℕ, ◌+◌, ◌*◌, ◌≤◌}
use native.Mathlib.Omega.{arith}
use mathlib.Core.Path.{◌≡◌, sym, ap, ◌∙◌}
use mathlib.Core.Bool.{Bool, not}
use mathlib.Core.List.{List}
use lib.ListN.{length}
use borrow.Author.Tests.{not-true, not-false}
use Rattle.row.specs.Words.{row_words, no_row, row_in, with_row, same_rows}
use Rattle.settling.specs.Settling.{Lowers}
use Rattle.walk.specs.Walk.{alternatives_at}
use Rattle.reading.specs.Walks.{united_from}
use Rattle.settling.specs.Settling.{Visit}
use Rattle.reading.specs.declared.read.Block.{Block}
use Rattle.outcome.specs.Visited.{lacking, RowsVisitable, visited_row, visited}
use Rattle.outcome.proofs.Stores.{Fitting, row_length, row_again, rows_equal, lacking_least, lacking_falls}

module _ (b : Block) (steps part places : List ℕ) where
  -- a visit, from what its code does
  pub visit_made : (t : List ℕ) (c : ℕ) (t' : List ℕ) (same : Bool) → row_words * c + row_words ≤ length t → t' ≡ visited b steps part places t c
      → Fitting (visited_row b steps part places t c) → same ≡ same_rows (row_in t c) (visited_row b steps part places t c)
      → Visit (visited b steps part places) lacking t c t' (not same)
  visit_made t c t' same room done fit e =
      record {
        done = done;
        falls = λ changed. rw done (lacking_falls t c _ room fit (sym e ∙ not-true same changed));
        stays = λ unchanged.
            done ∙ ap (with_row t c) (sym (rows_equal (row_in t c) (visited_row b steps part places t c) (sym e ∙ not-false same unchanged))) ∙ row_again t c;
      }

  pub visits_lower : (n : ℕ) → Lowers (visited b steps part places) lacking n (row_words * n)
  visits_lower n =
      record {
        keeps = λ t c. row_length t c (visited_row b steps part places t c);
        lowers = λ t c l room. lacking_least t c (united_from b steps t no_row (alternatives_at part places c)) (omega arith);
      }

-- areas of the same lengths can be visited too
pub visitable_at : {n : ℕ} {steps part places t : List ℕ} (s : List ℕ) → length s ≡ length t → RowsVisitable n steps part places t → RowsVisitable n steps part places s
visitable_at s e v =
    record {
      readable = λ i l. let w = v.readable i l in record { high = w.high; step = w.step; run = w.run; sequence = λ k. omega (arith, w.sequence k) };
      rows = omega (arith, v.rows);
      placed = v.placed;
      within = v.within;
    }
