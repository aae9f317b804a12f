-- `outcome::settle::RowVisits` visits as it says.
-- Assumes nothing.
use Rattle.std.proofs.Common.{◌≡◌, ap, ap₂, ◌∙◌, subst, arith}
use Rattle.row.specs.Words.{or_rows, with_row, same_rows}
use Rattle.row.proofs.Same.{equal_rows, equal_same}
use Rattle.outcome.specs.Visited.{visited_row}
use Rattle.outcome.proofs.Stores.{Fitting}
use Rattle.outcome.proofs.Visited.{visit_made}
use Rattle.outcome.proofs.settle.RowVisitsVisits.visit.Goals as goal

pub returns : goal.returns
returns c =
    let v = c.args.self.now in
    let row : c.united-new.result ≡ visited_row v.block v.steps.now v.part.now v.places.now c.args.table.now c.args.c =
    c.united-new.ensures ∙ ap₂ or_rows c.row_at-old.ensures c.read_sequence.ensures in
    rw c.ne.ensures
    (visit_made v.block v.steps.now v.part.now v.places.now c.args.table.now c.args.c c.put_row.new.table (equal_rows c.row_at-old.result c.united-new.result)
    (omega (arith, c.requires.1.rows, c.requires.2)) (c.put_row.ensures ∙ ap (with_row c.args.table.now c.args.c) row)
    (subst Fitting row (omega (arith, c.united-new.type_inv)))
    (equal_same c.row_at-old.result c.united-new.result ∙ ap₂ same_rows c.row_at-old.ensures row))
