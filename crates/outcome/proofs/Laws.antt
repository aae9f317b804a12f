-- The laws that settling asks of the visits of the outcome table.
-- Assumes nothing.
use Rattle.std.proofs.Common.{ℕ, ◌*◌, List}
use Rattle.row.specs.Words.{row_words}
use Rattle.reading.specs.declared.read.Block.{Block}
use Rattle.callers.specs.Callers.{calls}
use Rattle.settling.specs.Settling.{VisitLaws}
use Rattle.outcome.specs.Visited.{lacking, RowsVisitable, visited}
use Rattle.outcome.proofs.Visited.{visits_lower, visitable_at}
use Rattle.outcome.proofs.Calls.{visits_local}

pub row_laws : (b : Block) (steps part places : List ℕ) (n : ℕ) (t : List ℕ) → RowsVisitable n steps part places t
    → VisitLaws (visited b steps part places) lacking (calls part places) n (RowsVisitable n steps part places) t
row_laws b steps part places n t asked =
    record {
      room = row_words * n;
      long = asked.rows;
      lowers = visits_lower b steps part places n;
      local = visits_local b steps part places n;
      kept = λ u same. visitable_at u same asked;
    }
