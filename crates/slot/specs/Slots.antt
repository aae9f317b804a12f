-- What a table of ranks says of an entry, for the question that is asked: its rank, and whether it passes as one ahead of the position or
-- behind it. The table has a word for each sequence and, from word `none` on, those of the items: one for the check of each fact that there may
-- be, and one for each step. Crate `chain` (proofs/Describes) shows that the tables of an accepted image say what `Ranks` says of its library.
use Rattle.std.specs.Prelude.{ℕ, ◌+◌, ◌*◌, ◌≤◌, ◌<◌, ◌≡◌, Bool, cond, ◌&&◌, ◌||◌, List, length, get_or, take, drop, eqb, ltb}
use Rattle.column.specs.Sets.{in_column}
use Rattle.image.specs.Word.{most_facts, kind, payload, is_kind}
use Rattle.library.specs.Library.{Item, step, check, Entry, item, call}
use Rattle.library.specs.Accepted.{HighEntry}
use Rattle.chains.specs.Ranks.{Ranks}
use Rattle.question.specs.Asked.{fact_bit, same_mark}
use Rattle.question.specs.declared.asked.Asked.{Asked}
use Rattle.question.specs.declared.asked.Mark.{Mark}
use Rattle.question.specs.declared.asked.Mark.TheVariants.{Present, Absent, Untouched}
use Rattle.slot.specs.declared.entry.Traits.{Traits}

-- the number that an entry names
abbrev pub entry_number : Entry → ℕ
entry_number (item (step a)) = a
entry_number (item (check f)) = f
entry_number (call d) = d

-- ---- a table of ranks

-- where the words of the steps begin: after those of the checks, which begin at word `none`
abbrev pub first_step : ℕ → ℕ
first_step none = none + most_facts

-- where the rank of the entry stands that a word names
abbrev pub slot_of : ℕ → ℕ → ℕ
slot_of none w = payload w + cond (is_kind 8 w) (first_step none) (cond (is_kind 13 w) none 0)

-- the ranks of the sequences in a table
abbrev pub in_ranks : ℕ → List ℕ → Ranks
in_ranks none T d = get_or (take none T) d none

-- the rank of an item by the words from word `none` on, where `past` is that of an item that has no word there
abbrev pub item_rank : ℕ → List ℕ → Item → ℕ
item_rank past items (check f) = get_or (take most_facts items) f past
item_rank past items (step a) = get_or items (most_facts + a) past

-- the rank of an entry
abbrev pub rank_in : ℕ → ℕ → List ℕ → Entry → ℕ
rank_in none past T (item x) = item_rank past (drop none T) x
rank_in none past T (call d) = in_ranks none T d

-- an entry that has a rank; an item that has no word touches nothing and runs
abbrev pub pass_in : ℕ → List ℕ → Entry → Bool
pass_in none T e = ltb (rank_in none 0 T e) none

-- what the tables say of an entry
abbrev pub traits_in : ℕ → List ℕ → List ℕ → List ℕ → Entry → Traits
traits_in none ahead behind ranks e = record { rank = rank_in none none ranks e; ahead = pass_in none ahead e; behind = pass_in none behind e }

-- a word of the sequences' part, which has a rank in a table if it is an entry
pub record RankWithin (none : ℕ) (T : List ℕ) (w : ℕ) : Type 0 where
  pub high : HighEntry w
  pub step : kind w ≡ 8 → first_step none + payload w < length T
  pub check : kind w ≡ 13 → (payload w < most_facts) × (none + payload w < length T)
  pub sequence : kind w ≡ 9 → (payload w < none) × (payload w < length T)

-- ---- the ranks of the items

-- the mark that two columns give the fact that has bit b in them
abbrev pub mark_of : ℕ → ℕ → ℕ → Mark
mark_of b one other = cond (in_column one b) Present (cond (in_column other b) Absent Untouched)

-- what a step needs and sets decides on the first side, what it sets and clears on the last; the masks are of the block of the fact asked about
abbrev pub step_mark : Asked → List ℕ → ℕ → Mark
step_mark q masks a =
    cond q.first (mark_of (fact_bit q) (get_or masks (3 * a) 0) (get_or masks (3 * a + 1) 0))
    (mark_of (fact_bit q) (get_or masks (3 * a + 1) 0) (get_or masks (3 * a + 2) 0))

-- "On the first side a check counts as a need": a check of fact f touches that fact there; otherwise it leaves the fact asked about untouched
abbrev pub check_mark : Asked → ℕ → Mark
check_mark q f = cond (q.first && eqb f q.fact) Present Untouched

-- the rank of an item with a mark: 0 where it is the mark asked for, or any will do. So "a chain may end on" a check, and a check "has depth 0",
-- as a step has
abbrev pub mark_rank : Bool → Asked → Mark → ℕ
mark_rank all q mark = cond (all || same_mark mark q.mark) 0 q.none

abbrev pub check_rank : Bool → Asked → ℕ → ℕ
check_rank all q f = mark_rank all q (check_mark q f)

abbrev pub step_rank : Bool → Asked → List ℕ → ℕ → ℕ
step_rank all q masks a = mark_rank all q (step_mark q masks a)

-- the words from index `from` on, up to index `to`, are by a rank for each number, and those before them stay
pub record Written (from to : ℕ) (rank : ℕ → ℕ) (before after : List ℕ) : Type 0 where
  pub long : length after ≡ length before
  pub stays : (i : ℕ) → i < from → (past : ℕ) → get_or after i past ≡ get_or before i past
  pub ranked : (j : ℕ) → from + j < to → get_or after (from + j) 0 ≡ rank j

-- the words of the items are their ranks by the question, and no sequence has a rank
pub record ItemsRanked (all : Bool) (q : Asked) (masks before after : List ℕ) : Type 0 where
  pub long : length after ≡ length before
  pub unranked : (d : ℕ) → d < q.none → get_or after d q.none ≡ q.none
  pub checks : (f : ℕ) → f < most_facts → get_or after (q.none + f) 0 ≡ check_rank all q f
  pub steps : (a : ℕ) → first_step q.none + a < length before → get_or after (first_step q.none + a) 0 ≡ step_rank all q masks a

-- what that asks: a word for each sequence and each check, and three masks for each step that has a word
pub record ItemsRankable (q : Asked) (masks ranks : List ℕ) : Type 0 where
  pub fact : q.fact < most_facts
  pub room : first_step q.none ≤ length ranks
  pub masked : 3 * length ranks ≤ length masks + 3 * first_step q.none
