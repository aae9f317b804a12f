-- What tables of ranks say of the alternatives of a sequence, for the question that is asked: which entries are dead, what an alternative
-- comes to, and the ranks after a visit. What they say of an entry stands in crate `slot`. Crate `chain` (proofs/Describes) shows that the
-- tables of an accepted image say what `Ranks` says of its library.
use Rattle.std.specs.Prelude.{ℕ, ◌≤◌, ◌<◌, ◌≡◌, Bool, cond, not, ◌||◌, List, length, get_or, set, drop, ltb}
use Rattle.library.specs.Library.{Alternative, Entry, entries_from}
use Rattle.walk.specs.Walk.{walk_end, alternatives_at}
use Rattle.settling.specs.Settling.{Settles}
use Rattle.general.specs.Scan.{every}
use Rattle.slot.specs.Slots.{rank_in, pass_in, RankWithin, ItemsRanked}
use Rattle.rank.specs.Walk.{lowered_from, depth_from, fewest_from}
use Rattle.question.specs.Asked.{by_mark}
use Rattle.question.specs.declared.asked.Asked.{Asked}
use Rattle.rank.specs.declared.read.Positions.{Positions}
use Rattle.walk.specs.declared.entries.Ended.{Ended}

-- ---- what an alternative comes to

-- "names a sequence not found to have one by then": an entry without a rank in the table that says which runs are found; where links are asked
-- for, without a rank in any of the three tables. Crate `chain` (proofs/Dead) shows that such an entry names a sequence without a run, where
-- any run will do
abbrev pub lacks_in : ℕ → List ℕ → Entry → Bool
lacks_in none T e = not (pass_in none T e)

abbrev pub lost_in : ℕ → List ℕ → List ℕ → List ℕ → Entry → Bool
lost_in none ahead behind ranks e = not ((pass_in none ahead e || pass_in none behind e) || ltb (rank_in none none ranks e) none)

abbrev pub dead_in : Asked → List ℕ → List ℕ → List ℕ → Entry → Bool
dead_in q ahead behind ranks e =
    by_mark q.mark (lacks_in q.none ranks e) (lacks_in q.none ranks e) (lost_in q.none ahead behind ranks e)

-- what an alternative comes to: its greatest depth where no touch is asked for, 0 where all its entries have a rank if only that is asked,
-- otherwise the fewest links after this one
abbrev pub depth_in : ℕ → List ℕ → Alternative → ℕ
depth_in none ranks es = depth_from none (rank_in none 0 ranks) 0 es

abbrev pub every_in : ℕ → List ℕ → Alternative → ℕ
every_in none ranks es = cond (every (pass_in none ranks) es) 0 none

-- the fewest links by what the positions so far come to and the entries from here on
abbrev pub fewest_after : ℕ → List ℕ → List ℕ → List ℕ → Positions → Alternative → ℕ
fewest_after none ahead behind ranks x es = fewest_from none (rank_in none none ranks) (pass_in none ahead) (pass_in none behind) x.floor x.best es

-- of a whole alternative: no position counts so far, and no entry has failed as one ahead
abbrev pub fewest_in : ℕ → List ℕ → List ℕ → List ℕ → Alternative → ℕ
fewest_in none ahead behind ranks es = fewest_after none ahead behind ranks (record { best = none; floor = 0 }) es

abbrev pub look_in : Asked → List ℕ → List ℕ → List ℕ → Alternative → ℕ
look_in q ahead behind ranks es =
    by_mark q.mark (depth_in q.none ranks es) (every_in q.none ranks es) (fewest_in q.none ahead behind ranks es)

-- each of the words is one of the sequences' part, which has a rank in a table if it is an entry
pub record Rankable (none : ℕ) (T part : List ℕ) : Type 0 where
  pub within : (i : ℕ) → i < length part → RankWithin none T (get_or part i 0)

-- what is asked of the tables
pub record RanksReadable (none : ℕ) (ahead behind ranks part : List ℕ) : Type 0 where
  pub by_ahead : Rankable none ahead part
  pub by_behind : Rankable none behind part
  pub by_ranks : Rankable none ranks part

-- ---- the alternatives of a sequence

-- what a reader of an alternative promises, whose entries stand from an index on: what it comes to, and where it ended
pub record AlternativeRanked (worth : Alternative → ℕ) (dead : Entry → Bool) (part : List ℕ) (at : ℕ) (r : Ended ℕ) : Type 0 where
  pub value : r.value ≡ worth (entries_from (drop at part))
  pub ended : r.ended ≡ walk_end dead part at

-- what a visit of the sequences below n asks of the areas
pub record RanksVisitable (q : Asked) (n : ℕ) (ahead behind ranks part places : List ℕ) : Type 0 where
  pub readable : RanksReadable q.none ahead behind ranks part
  pub low : n ≤ q.none
  pub ranked : n ≤ length ranks
  pub placed : n ≤ length places
  pub within : (c : ℕ) → c < n → get_or places c 0 < length part

module _ (q : Asked) (ahead behind part places : List ℕ) where
  -- the rank of sequence c after a visit
  abbrev pub visited_rank : List ℕ → ℕ → ℕ
  visited_rank ranks c = lowered_from (look_in q ahead behind ranks) (get_or ranks c q.none) (alternatives_at part places c)

  -- the ranks after a visit of sequence c
  abbrev pub visited_ranks : List ℕ → ℕ → List ℕ
  visited_ranks ranks c = set ranks c (visited_rank ranks c)

-- a table of ranks that is made in an area: those of the items are written by the question p, where no sequence has a rank yet, then those of
-- the sequences below n lowered by the question q until no visit changes them
pub record Ranked (all : Bool) (p q : Asked) (n : ℕ) (masks ahead behind part places before after : List ℕ) : Type 0 where
  pub start : List ℕ
  pub items : ItemsRanked all p masks before start
  pub settled : Settles (visited_ranks q ahead behind part places) n start after
