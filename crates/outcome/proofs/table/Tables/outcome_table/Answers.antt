-- `outcome::table::Tables::outcome_table` meets its contract: the tables are what the visits ask, and a settled table is the outcome table.
-- Assumes nothing.
use native.Mathlib.Omega.{arith}
use Prim.Native.Nat.{ℕ, ◌*◌}
use mathlib.Core.Path.{refl, ap}
use mathlib.Core.List.{List, ◌++◌}
use lib.ListN.{drop}
use Rattle.row.specs.Words.{row_words}
use Rattle.outcome.proofs.Fill.{settle_asked, outcomes_done}
use Rattle.outcome.proofs.table.Tables.outcome_table.Goals as goal

pub settle-requires : goal.settle-requires
settle-requires c =
    settle_asked c.requires c.sequences_part.ensures c.prepare_masks.ensures c.all_in-all.ensures c.write_step_rows.ensures (omega (arith, c.write_step_rows.auto))

pub returns : goal.returns
returns c =
    ap (λ (t : List ℕ). t ++ drop (row_words * c.args.self.now.accepted.head.sequences) c.args.table.now)
    (outcomes_done c.requires c.sequences_part.ensures c.prepare_masks.ensures c.all_in-all.ensures c.write_step_rows.ensures
    (omega (arith, c.write_step_rows.auto)) _ refl _ c.settle.ensures)
