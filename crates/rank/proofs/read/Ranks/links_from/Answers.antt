-- `rank::read::Ranks::links_from` meets its contract: an entry that no table has a rank for leaves the walk.
-- Assumes nothing.
use Rattle.std.proofs.Common.{rules, refl, sym}
use Rattle.rank.specs.Tables.{fewest_after, lost_in, AlternativeRanked}
use Rattle.rank.proofs.Walked.{walk_ranked}
use Rattle.rank.proofs.Looks.{found, with_entry, found_alive, links_goes, links_dies, links_out, best_or}
use Rattle.rank.proofs.read.Ranks.links_from.Goals as goal
use Rattle.rank.proofs.read.Ranks.links_from.Goals.{After-walk_entries-walk}

read : (c : After-walk_entries-walk) → let T = c.args.self.now in
    AlternativeRanked (fewest_after T.q.none T.ahead.now T.behind.now T.ranks.now c.args.seen) (lost_in T.q.none T.ahead.now T.behind.now T.ranks.now) T.part.now c.args.at
    (record { value = best_or T.q.none c.walk_entries-walk.result.value; ended = c.walk_entries-walk.result.ended })
read c =
    let T = c.args.self.now in
    let none = T.q.none in
    let ahead = T.ahead.now in
    let behind = T.behind.now in
    let ranks = T.ranks.now in
    walk_ranked _ T.part.now (found none ahead behind ranks) (with_entry none ahead behind ranks) (λ a w r e told. search rules) (fewest_after none ahead behind ranks)
    (lost_in none ahead behind ranks) (found_alive none ahead behind ranks) (λ a e es passes. links_goes none ahead behind ranks a e es) none
    (links_dies none ahead behind ranks) (best_or none) (λ a. sym (links_out none ahead behind ranks a)) (λ a. refl) c.walk_entries-walk.ensures

pub returns-in-Ok : goal.returns-in-Ok
returns-in-Ok c = rw c.in-Ok.is at (read (goal.at.returns-in-Ok c).After-walk_entries-walk)

pub returns-in-Err : goal.returns-in-Err
returns-in-Err c = rw c.in-Err.is at (read (goal.at.returns-in-Err c).After-walk_entries-walk)
