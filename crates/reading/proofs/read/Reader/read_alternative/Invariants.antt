-- `reading::read::Reader::read_alternative` meets its contract: what is joined so far, with the entries to come, is the whole alternative.
-- Assumes nothing.
use Rattle.library.specs.Library.{entries_from}
use Rattle.walk.proofs.Walking.{Leaving}
use Rattle.reading.specs.Walks.{is_dead, joined_from, alternative_in}
use lib.ListN.{drop}
use Rattle.reading.proofs.read.Reader.read_alternative.Given as goal

abbrev pub invariant-loop-i : goal.invariant-loop-i
invariant-loop-i l =
    let s = l.self in
    let steps = s.steps.now in
    let table = s.table.now in
    let part = s.part.now in
    Leaving part (alternative_in s.block steps table (entries_from (drop l.at part))) (is_dead table) l.at (joined_from s.block steps table l.row) l.i
