-- The laws that settling asks of the visits of a table of ranks.
-- Assumes nothing.
use Rattle.std.proofs.Common.{ℕ, List}
use Rattle.general.specs.Numbers.{total}
use Rattle.question.specs.declared.asked.Asked.{Asked}
use Rattle.callers.specs.Callers.{calls}
use Rattle.settling.specs.Settling.{VisitLaws}
use Rattle.rank.specs.Tables.{RanksVisitable, visited_ranks}
use Rattle.rank.proofs.Settling.{visits_lower, visitable_at}
use Rattle.rank.proofs.Calls.{visits_local}

pub rank_laws : (q : Asked) (ahead behind part places : List ℕ) (n : ℕ) (t : List ℕ) → RanksVisitable q n ahead behind t part places
    → VisitLaws (visited_ranks q ahead behind part places) total (calls part places) n (λ u. RanksVisitable q n ahead behind u part places) t
rank_laws q ahead behind part places n t asked =
    record {
      room = n;
      long = asked.ranked;
      lowers = visits_lower q ahead behind part places n;
      local = visits_local q ahead behind part places n asked.low;
      kept = λ u same. visitable_at u same asked;
    }
