-- Ranks: for each sequence a number, the least nesting depth of an untouched derivation or the fewest links of a chain. They are
-- worked out by rounds, each from the one before, and `none` stands for "no rank". What ranks mean is said of any table.
use Prim.Native.Nat.{ℕ, zero, suc, ◌+◌, ◌*◌, ◌≤◌, ◌<◌, min}
use Rattle.std.specs.Prelude.{◌≡◌, Bool, cond, ◌&&◌, length, take, drop, ltb}
use Rattle.std.proofs.Math.Bool.{true, false}
use mathlib.Core.List.{List}
use Rattle.std.proofs.Math.ListN.{get_or}
use Rattle.library.specs.Library.{Library, Alternative, Sequence, Entry, item, call, Item, entry_at}
use Rattle.runs.specs.Run.{RunOf, alternatives_of, alternative_of}
use Rattle.runs.specs.Touch.{Side, last, first, untouched, item_touch, Question, untouched_on, HasOutcome}
use Rattle.runs.specs.Algebra.{same_mark}
use Rattle.runs.specs.Possible.{has_run, possible_outcome}
use Rattle.general.specs.Scan.{every, least_below, greatest, list_below}
use Rattle.general.specs.Numbers.{total}
use Rattle.chains.specs.Link.{Chain}
use Rattle.chains.specs.Stands.{About, StandsFor}
use Rattle.chains.specs.Depth.{depth_of}

-- a rank for each sequence; those from `none` on are no rank
abbrev pub Ranks : Type 0
Ranks = ℕ → ℕ

-- what an alternative comes to by the ranks of the sequences
abbrev pub Look : Type 0
Look = Ranks → Alternative → ℕ

module _ (S : List Sequence) (look : Look) where
  -- a sequence is one above the least of its alternatives
  unfoldable pub lowered : Ranks → ℕ → ℕ
  unfolding least_below
  lowered T c = least_below (λ i. suc (look T (alternative_of S c i))) (T c) (length (alternatives_of S c))

  -- no look at an alternative lowers a rank
  abbrev pub Unlowered : Ranks → Type 0
  Unlowered T = (c i : ℕ) → i < length (alternatives_of S c) → T c ≤ suc (look T (alternative_of S c i))

  module _ (none : ℕ) where
    -- one round: every rank lowered by the ranks as they stand, as a list that is computed once
    unfoldable pub round : List ℕ → List ℕ
    unfolding lowered list_below
    round T = list_below (lowered (λ d. get_or T d none)) (length S)

    -- rounds, at most n of them, as long as a rank is lowered
    unfoldable pub rounds : ℕ → List ℕ → List ℕ
    unfolding round total
    rounds zero T = T
    rounds (suc n) T =
        let next : List ℕ = round T in
        elim (ltb (total next) (total T)) [ true ↦ rounds n next | false ↦ T ]

    -- the ranks, from no rank for any sequence
    unfoldable pub ranks : List ℕ
    unfolding rounds
    ranks = rounds (length S * none) (list_below (λ c. none) (length S))

-- "no rank": a rank is at most the number of sequences
abbrev pub unranked : Library → ℕ
unranked L = length L.sequences + 2

-- the rank of an entry: 0 for a step that passes the test, the sequence's for a call
abbrev pub entry_rank : ℕ → (Item → Bool) → Ranks → Entry → ℕ
entry_rank none test T (item a) = cond (test a) 0 none
entry_rank none test T (call d) = T d

-- whether an entry passes: a step by one test, a sequence by another
abbrev pub entry_passes : (Item → Bool) → (ℕ → Bool) → Entry → Bool
entry_passes test run (item a) = test a
entry_passes test run (call d) = run d

-- "1 plus the greatest depth among its entries": the greatest depth among the entries of an alternative, no rank where an entry has none
unfoldable pub depth_look : ℕ → (Item → Bool) → Look
unfolding greatest
depth_look none test T es = min none (greatest (entry_rank none test T) es)

-- whether all entries of an alternative pass, a step by the test and a sequence where it has a rank: 0 where they do
unfoldable pub pass_look : ℕ → (Item → Bool) → Look
unfolding every
pass_look none test T es = cond (every (entry_passes test (λ d. ltb (T d) none)) es) 0 none

-- the number of links after this one, for position p of an alternative: 0 for a step with the touch and the sequence's rank for a call,
-- where the entries before the position and those after it pass their tests
abbrev pub candidate : ℕ → (Item → Bool) → (Entry → Bool) → (Entry → Bool) → Ranks → Alternative → ℕ → ℕ
candidate none test ahead behind T es p =
    cond (every ahead (take p es) && every behind (drop (suc p) es)) (entry_rank none test T (entry_at es p)) none

-- the fewest links after this one, among the positions of an alternative
unfoldable pub link_look : ℕ → (Item → Bool) → (Entry → Bool) → (Entry → Bool) → Look
unfolding least_below every
link_look none test ahead behind T es = least_below (candidate none test ahead behind T es) none (length es)

module _ (L : Library) (q : Question) (f : ℕ) where
  -- the step has the mark asked for
  abbrev pub has_mark : Item → Bool
  has_mark a = same_mark (item_touch L q.side f a) q.mark

  -- "can stay untouched"
  abbrev pub can_stay : Entry → Bool
  can_stay = entry_passes (λ a. same_mark (item_touch L q.side f a) untouched) (λ d. possible_outcome L (untouched_on q) d f)

  -- "has a run", as every step does
  abbrev pub can_run : Entry → Bool
  can_run = entry_passes (λ a. true) (λ d. has_run L d)

-- "On the last side every later entry can stay untouched and every earlier sequence has a run; on the first side the other way
-- round.": what is asked of the entries before the position, and of those after it
abbrev pub ahead_of : Library → Question → ℕ → Side → Entry → Bool
ahead_of L q f last = can_run L q f
ahead_of L q f first = can_stay L q f

abbrev pub behind_of : Library → Question → ℕ → Side → Entry → Bool
behind_of L q f last = can_stay L q f
behind_of L q f first = can_run L q f

-- the looks of a question that asks for no touch, and of one that asks for a touch
abbrev pub untouched_look : Library → Question → ℕ → Look
untouched_look L q f = depth_look (unranked L) (has_mark L q f)

abbrev pub touch_look : Library → Question → ℕ → Look
touch_look L q f = link_look (unranked L) (has_mark L q f) (ahead_of L q f q.side) (behind_of L q f q.side)

-- a run of sequence c whose items all pass a test, by a derivation no deeper than n
pub record Passing (S : List Sequence) (test : Item → Bool) (c n : ℕ) : Type 0 where
  pub run : List Item
  pub derivation : RunOf S c run
  pub passes : every test run ≡ true
  pub depth : depth_of S derivation ≤ n

-- a chain about sequence c that stands for a run with the outcome, of no more than n links
pub record Linked (L : Library) (q : Question) (f c n : ℕ) : Type 0 where
  pub chain : Chain
  pub about : About c chain
  pub run : List Item
  pub stands : StandsFor L q f chain run
  pub outcome : HasOutcome L q f run
  pub links : length chain ≤ n

-- each rank below `none` is reached
abbrev pub Attained : (ℕ → ℕ → Type 0) → ℕ → Ranks → Type 0
Attained P none T = (c : ℕ) → T c < none → P c (T c)
