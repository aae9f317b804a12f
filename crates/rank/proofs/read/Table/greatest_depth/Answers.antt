-- `rank::read::Table::greatest_depth` meets its contract: an entry without a rank leaves the walk.
-- Assumes nothing.
use Rattle.std.proofs.Common.{rules, refl, sym}
use Rattle.std.specs.Result.{result_unwrap_or}
use Rattle.rank.specs.Tables.{lacks_in}
use Rattle.slot.specs.Slots.{pass_in}
use Rattle.rank.proofs.Walked.{walk_ranked}
use Rattle.rank.proofs.Looks.{depth_worth, deeper, depth_out, depth_goes, depth_dies, passing_alive}
use Rattle.rank.proofs.read.Table.greatest_depth.Goals as goal

pub returns : goal.returns
returns c =
    let T = c.args.self.now in
    let none = T.none in
    let ranks = T.ranks.now in
    rw c.unwrap_or.ensures
    (walk_ranked _ T.part.now (pass_in none ranks) (deeper none ranks) (λ a w r e told. search rules) (depth_worth none ranks) (lacks_in none ranks) (passing_alive none ranks)
    (depth_goes none ranks) none (depth_dies none ranks) (λ r. result_unwrap_or r none) (λ a. sym (depth_out none ranks a)) (λ a. refl) c.walk_entries-walk.ensures)
