-- `rank::read::Ranks::fewest_links` meets its contract: by the walk up to an entry that the one table has no rank for, and the other walk from there.
-- Assumes nothing.
use native.Mathlib.Omega.{arith}
use Rattle.std.proofs.Common.{rules, sym, ◌∙◌, ◌<◌, length}
use Rattle.walk.proofs.Walking.{entry_inside}
use Rattle.rank.specs.Tables.{fewest_after, lost_in}
use Rattle.rank.proofs.Walked.{Ended, walk_read}
use Rattle.rank.proofs.Looks.{beside, with_entry, beside_alive, links_goes, links_out}
use Rattle.rank.proofs.read.Ranks.fewest_links.Goals as goal
use Rattle.rank.proofs.read.Ranks.fewest_links.Goals.{After-walk_entries-walk}

read : (c : After-walk_entries-walk) → let T = c.args.self.now in
    Ended T.part.now (beside T.q.none T.ahead.now T.behind.now T.ranks.now c.args.first) (fewest_after T.q.none T.ahead.now T.behind.now T.ranks.now)
    (lost_in T.q.none T.ahead.now T.behind.now T.ranks.now) (record { best = T.q.none; floor = 0 }) c.args.at c.walk_entries-walk.result.value c.walk_entries-walk.result.ended
read c =
    let T = c.args.self.now in
    let none = T.q.none in
    let ahead = T.ahead.now in
    let behind = T.behind.now in
    let ranks = T.ranks.now in
    walk_read _ T.part.now (beside none ahead behind ranks c.args.first) (with_entry none ahead behind ranks) (λ a w r e told. search rules) (fewest_after none ahead behind ranks)
    (lost_in none ahead behind ranks) (beside_alive none ahead behind ranks c.args.first) (λ a e es passes. links_goes none ahead behind ranks a e es) c.walk_entries-walk.ensures

pub links_from-requires : goal.links_from-requires
links_from-requires c =
    let ended = rw c.in-Err.is at (read (goal.at.links_from-requires c).After-walk_entries-walk) in
    let inside : c.walk_entries-walk.result.ended < length c.args.self.now.part.now = entry_inside _ _ ended.2 in
    omega arith

pub returns-in-Ok : goal.returns-in-Ok
returns-in-Ok c =
    let T = c.args.self.now in
    let ended = rw c.in-Ok.is at (read (goal.at.returns-in-Ok c).After-walk_entries-walk) in
    record { value = sym (links_out T.q.none T.ahead.now T.behind.now T.ranks.now _) ∙ sym ended.0; ended = ended.1 }

pub returns-in-Err : goal.returns-in-Err
returns-in-Err c =
    let ended = rw c.in-Err.is at (read (goal.at.returns-in-Err c).After-walk_entries-walk) in
    record { value = c.links_from.ensures.value ∙ sym ended.0; ended = c.links_from.ensures.ended ∙ ended.1 }
