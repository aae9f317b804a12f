-- `rank::read::Ranks::read_after` meets its contract: where no entry stands there are none, and a walk ends at once.
-- Assumes nothing.
use Rattle.std.proofs.Common.{◌≡◌, false, get_or, sym, ap, ◌∙◌}
use Rattle.image.specs.Word.{is_entry}
use Rattle.walk.proofs.Walking.{tested, entries_at, walk_out}
use Rattle.rank.specs.Tables.{look_in, dead_in}
use Rattle.rank.proofs.read.Ranks.read_after.Goals as goal

pub returns : goal.returns
returns c =
    let T = c.args.self.now in
    let out : is_entry (get_or T.part.now c.args.at 0) ≡ false = tested is_entry c.word_at.ensures c.part_entry.ensures c.if-part_entry.false in
    record {
      value = c.requires.1 ∙ ap (look_in T.q T.ahead.now T.behind.now T.ranks.now) (sym (entries_at T.part.now c.args.at false out));
      ended = walk_out T.part.now c.args.at (dead_in T.q T.ahead.now T.behind.now T.ranks.now) out;
    }
