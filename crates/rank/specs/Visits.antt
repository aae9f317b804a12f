-- Ranks lowered in place: a visit lowers the rank of one sequence by its alternatives, by the table as it stands. The table may be longer
-- than the number of sequences.
use Rattle.std.specs.Prelude.{ℕ, List, length, get_or, set}
use Rattle.library.specs.Library.{Sequence}
use Rattle.settling.specs.Settling as settling
use Rattle.chains.specs.Ranks.{Look, lowered}

module _ (S : List Sequence) (look : Look) (none : ℕ) where
  -- the table after a visit of sequence c
  abbrev pub visited : List ℕ → ℕ → List ℕ
  visited T c = set T c (lowered S look (λ d. get_or T d none) c)

  -- tables that visits lead to, in any order
  abbrev pub Visits : List ℕ → List ℕ → Type 0
  Visits before after = settling.Reached visited (length S) before after

  -- no visit changes the table
  abbrev pub RanksSettled : List ℕ → Type 0
  RanksSettled T = settling.Settled visited (length S) T
