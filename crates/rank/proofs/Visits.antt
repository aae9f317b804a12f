-- Ranks lowered in place until no visit changes the table give the answer.
use Prim.Native.Nat.{ℕ, suc, ◌≤◌, ◌<◌}
use mathlib.Core.Path.{◌≡◌, ap}
use mathlib.Core.Logic.{◌≢◌}
use mathlib.Core.List.{List}
use native.Mathlib.Omega.{arith}
use native.Mathlib.Decide.{ℕ_discrete}
use lib.ListN.{length, get_or, replicate, length-replicate, length-set}
use lib.Seq.{get_or-set_same, get_or-set_other}
use Rattle.general.specs.Numbers.{total}
use Rattle.general.proofs.Scan.{total_set}
use Rattle.library.specs.Library.{Library, Sequence}
use Rattle.settling.specs.Settling.{here, next}
use Rattle.runs.specs.Run.{alternatives_of, alternative_of}
use Rattle.runs.specs.Touch.{untouched, Question}
use Rattle.runs.proofs.Possible.{alternative_below}
use Rattle.settling.specs.Settling.{Lowers}
use Rattle.settling.proofs.Visits.{reached_length}
use Rattle.chains.specs.Ranks.{Ranks, Look, lowered, Unlowered, Attained, Linked, Passing, unranked, has_mark, untouched_look, touch_look}
use Rattle.chains.specs.Answer.{touch_answer, untouched_answer, ranks_in, answer}
use Rattle.rank.specs.Visits.{visited, Visits, RanksSettled}
use Rattle.chains.proofs.Ranks.{lowered_le, lowered_look, lowered_reached, start_unranked, start_reached}
use Rattle.chains.proofs.Depth.{depth_reached}
use Rattle.chains.proofs.Links.{links_reached}
use Rattle.chains.proofs.Answers.{touch_table, untouched_table}

module _ (S : List Sequence) (look : Look) (none : ℕ) where
  -- the ranks in a list
  abbrev in_list : List ℕ → Ranks
  in_list T d = get_or T d none

  -- a visit keeps the length, and does not raise the sum
  pub visited_lower : (n : ℕ) → Lowers (visited S look none) total n n
  visited_lower n =
      record {
        keeps = λ T c. length-set T c (lowered S look (in_list T) c);
        lowers = λ T c lt long. omega (arith, total_set T c (lowered S look (in_list T) c) none (omega arith), lowered_le S look (in_list T) c);
      }

  -- a table that no visit lowers is closed
  pub visits_closed : (T : List ℕ) → ((c : ℕ) → c < length S → in_list T c ≤ lowered S look (in_list T) c) → Unlowered S look (in_list T)
  visits_closed T same c i lt =
      let h = same c (alternative_below S c i lt) in
      let h' = lowered_look S look (in_list T) c i lt in
      omega arith

  pub visited_capped : (T : List ℕ) (c : ℕ) → c < length T → ((d : ℕ) → in_list T d ≤ none) → (d : ℕ) → in_list (visited S look none T c) d ≤ none
  visited_capped T c lt le d = go (ℕ_discrete d c)
    where
      go : Dec (d ≡ c) → in_list (visited S look none T c) d ≤ none
      go (yes e) =
          rw (e, get_or-set_same T c (lowered S look (in_list T) c) none lt) (let h = lowered_le S look (in_list T) c in let h' = le c in omega arith)
      go (no e) = rw (get_or-set_other T c d (lowered S look (in_list T) c) none e) (le d)

  -- what one look at an alternative preserves holds of the ranks after a visit
  module _ (P : ℕ → ℕ → Type 0)
      (keeps : (T : Ranks) → Attained P none T → (c i : ℕ) → i < length (alternatives_of S c) → suc (look T (alternative_of S c i)) < none
      → P c (suc (look T (alternative_of S c i)))) where
    pub visited_reached : (T : List ℕ) (c : ℕ) → c < length T → Attained P none (in_list T) → Attained P none (in_list (visited S look none T c))
    visited_reached T c below reached d = go (ℕ_discrete d c)
      where
        go : Dec (d ≡ c) → in_list (visited S look none T c) d < none → P d (in_list (visited S look none T c) d)
        go (yes e) =
            rw (e, get_or-set_same T c (lowered S look (in_list T) c) none below) (lowered_reached S look none P keeps (in_list T) reached c)
        go (no e) = rw (get_or-set_other T c d (lowered S look (in_list T) c) none e) (reached d)

module _ (S : List Sequence) (look : Look) (none : ℕ) where
  pub visits_length : {before T : List ℕ} → Visits S look none before T → length T ≡ length before
  visits_length = reached_length (visited_lower S look none (length S))

  -- no visit changes the table: no look lowers a rank
  settled_closed : (T : List ℕ) → length S ≤ length T → RanksSettled S look none T → Unlowered S look (λ d. get_or T d none)
  settled_closed T long settled =
      visits_closed S look none T
      (λ c lt.
      let same = ap (λ (U : List ℕ). get_or U c none) (settled c lt) in
      let set_same = get_or-set_same T c (lowered S look (λ d. get_or T d none) c) none (omega arith) in
      omega arith)

  module _ (before : List ℕ) (long : length S ≤ length before) where
    visits_capped : ((c : ℕ) → get_or before c none ≤ none) → {T : List ℕ} → Visits S look none before T → (c : ℕ) → get_or T c none ≤ none
    visits_capped start here = start
    visits_capped start (next {table = T} c lt v) =
        let e = visits_length v in
        visited_capped S look none T c (omega arith) (visits_capped start v)

    visits_reached : (P : ℕ → ℕ → Type 0)
        → ((T : Ranks) → Attained P none T → (c i : ℕ) → i < length (alternatives_of S c) → suc (look T (alternative_of S c i)) < none
        → P c (suc (look T (alternative_of S c i))))
        → Attained P none (λ d. get_or before d none) → {T : List ℕ} → Visits S look none before T → Attained P none (λ d. get_or T d none)
    visits_reached P keeps start here = start
    visits_reached P keeps start (next {table = T} c lt v) =
        let e = visits_length v in
        visited_reached S look none P keeps T c (omega arith) (visits_reached P keeps start v)

-- ranks that are reached, that no look lowers, and none of which is above "no rank"
pub record Good (P : ℕ → ℕ → Type 0) (L : Library) (look : Look) (T : List ℕ) : Type 0 where
  pub reached : Attained P (unranked L) (ranks_in L T)
  pub closed : Unlowered L.sequences look (ranks_in L T)
  pub capped : (c : ℕ) → ranks_in L T c ≤ unranked L

-- visits from a table of n words without a rank, until none changes it
module _ (L : Library) (q : Question) (f n : ℕ) (T : List ℕ) (long : length L.sequences ≤ n) where
  pub settled_good : (P : ℕ → ℕ → Type 0) (look : Look)
      → ((T : Ranks) → Attained P (unranked L) T → (c i : ℕ) → i < length (alternatives_of L.sequences c)
      → suc (look T (alternative_of L.sequences c i)) < unranked L → P c (suc (look T (alternative_of L.sequences c i))))
      → Visits L.sequences look (unranked L) (replicate n (unranked L)) T → RanksSettled L.sequences look (unranked L) T → Good P L look T
  settled_good P look keeps visits settled =
      let count = length-replicate n (unranked L) in
      let same = visits_length L.sequences look (unranked L) visits in
      record {
        reached =
            visits_reached L.sequences look (unranked L) (replicate n (unranked L)) (omega arith) P keeps
            (start_reached L.sequences look (unranked L) P keeps n) visits;
        closed = settled_closed L.sequences look (unranked L) T (omega arith) settled;
        capped =
            visits_capped L.sequences look (unranked L) (replicate n (unranked L)) (omega arith)
            (λ c. let e = start_unranked L.sequences look (unranked L) n c in omega arith) visits;
      }

  -- for a question that asks for a touch
  pub touch_good : q.mark ≢ untouched → Visits L.sequences (touch_look L q f) (unranked L) (replicate n (unranked L)) T
      → RanksSettled L.sequences (touch_look L q f) (unranked L) T → Good (Linked L q f) L (touch_look L q f) T
  touch_good touch = settled_good (Linked L q f) (touch_look L q f) (links_reached L q f (unranked L) touch)

  pub settled_touch : q.mark ≢ untouched → Good (Linked L q f) L (touch_look L q f) T → (c : ℕ) → touch_answer L q f (ranks_in L T) c ≡ answer L q c f
  settled_touch touch good = touch_table L q f touch (ranks_in L T) good.reached good.closed good.capped

  -- and for one that asks for none
  pub settled_untouched : q.mark ≡ untouched → Visits L.sequences (untouched_look L q f) (unranked L) (replicate n (unranked L)) T
      → RanksSettled L.sequences (untouched_look L q f) (unranked L) T → (c : ℕ) → untouched_answer L q f (ranks_in L T) c ≡ answer L q c f
  settled_untouched leaves visits settled =
      let good =
      settled_good (Passing L.sequences (has_mark L q f)) (untouched_look L q f) (depth_reached L.sequences (unranked L) (has_mark L q f)) visits settled in
      untouched_table L q f leaves (ranks_in L T) good.reached good.closed good.capped
