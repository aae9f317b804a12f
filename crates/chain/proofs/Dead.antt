-- What a walk over entries ends at: by the tables of an accepted image a dead entry "names a sequence not found to have one by then".
-- It has: `runs_dead`, where any run will do, for every table in which each item has a rank, as it stands; `links_dead`, where links are asked
-- for: an entry is dead exactly where it names a sequence without a run. Where the run has to leave the fact untouched, `pass_is` of Describes
-- says it: a dead entry is a step that touches the fact, or names a sequence without a rank.
-- Assumes nothing.
use Prim.Native.Nat.{ℕ, ◌<◌}
use mathlib.Core.Path.{◌≡◌, refl, ap, ap₂, ◌∙◌}
use mathlib.Core.Logic.{⊎_elim}
use mathlib.Core.Bool.{Bool, true, not, ◌||◌}
use mathlib.Core.List.{List}
use lib.Dec.{ltb}
use borrow.Author.Tests.{ltb-true}
use Rattle.general.proofs.Bools.{or_left, or_right, or_cases, both_ways}
use Rattle.library.specs.Library.{Library, Entry, item, call}
use Rattle.walk.specs.Walk.{names_none}
use Rattle.runs.specs.Possible.{has_run}
use Rattle.runs.specs.Touch.{Side, last, first, Question}
use Rattle.chains.specs.Ranks.{Ranks, Attained, Linked, unranked, entry_rank, entry_passes, has_mark, can_stay, can_run, ahead_of, behind_of}
use Rattle.chains.proofs.Entries.{stays_run}
use Rattle.chains.proofs.Stands.{stands_run}
use Rattle.runs.proofs.Columns.{has_run_iff}
use Rattle.slot.specs.Slots.{in_ranks}
use Rattle.rank.specs.Tables.{lacks_in, lost_in}
use Rattle.chain.specs.Described.{ItemsBy, Described}
use Rattle.chain.proofs.Describes.{rank_is, pass_is}

-- an entry that does not pass, where every item does
none_passes : (run : ℕ → Bool) (e : Entry) → not (entry_passes (λ a. true) run e) ≡ names_none run e
none_passes run (item a) = refl
none_passes run (call d) = refl

-- a table in which each item has a rank
pub runs_dead : (m : ℕ) → 0 < m → (T : List ℕ) → ItemsBy m 0 (λ a. true) T → (e : Entry) → lacks_in m T e ≡ names_none (λ d. ltb (in_ranks m T d) m) e
runs_dead m some T items e =
    ap not (pass_is m some (λ a. true) (λ d. ltb (in_ranks m T d) m) T items (λ d. refl) e) ∙ none_passes (λ d. ltb (in_ranks m T d) m) e

module _ (L : Library) (Q : Question) (f : ℕ) where
  -- what can stay untouched has a run
  stay_runs : (e : Entry) → can_stay L Q f e ≡ true → can_run L Q f e ≡ true
  stay_runs (item a) stays = refl
  stay_runs (call d) stays = let r = (stays_run L Q f d).0 stays in (has_run_iff L d).1 (r.0, r.1)

  -- of the tests of a position one asks for a run, and the other for no less
  beside_runs : (s : Side) (e : Entry) → (ahead_of L Q f s e || behind_of L Q f s e) ≡ can_run L Q f e
  beside_runs last e =
      both_ways (can_run L Q f e || can_stay L Q f e) (can_run L Q f e)
      (λ h. ⊎_elim (λ r. r) (stay_runs e) (or_cases (can_run L Q f e) (can_stay L Q f e) h)) (or_left (can_run L Q f e) (can_stay L Q f e))
  beside_runs first e =
      both_ways (can_stay L Q f e || can_run L Q f e) (can_run L Q f e)
      (λ h. ⊎_elim (stay_runs e) (λ r. r) (or_cases (can_stay L Q f e) (can_run L Q f e) h)) (or_right (can_stay L Q f e) (can_run L Q f e))

  module _ (T : Ranks) (reached : Attained (Linked L Q f) (unranked L) T) where
    -- an entry with a rank has a run
    rank_runs : (e : Entry) → ltb (entry_rank (unranked L) (has_mark L Q f) T e) (unranked L) ≡ true → can_run L Q f e ≡ true
    rank_runs (item a) ranked = refl
    rank_runs (call d) ranked =
        let linked = reached d (ltb-true (T d) (unranked L) ranked) in
        (has_run_iff L d).1 (linked.run, stands_run L Q f linked.chain d linked.run linked.about linked.stands)

  -- tables that describe the library, and ranks that are reached
  pub links_dead : (ahead behind T : List ℕ) → Described L Q f ahead behind → ItemsBy (unranked L) (unranked L) (has_mark L Q f) T
      → Attained (Linked L Q f) (unranked L) (in_ranks (unranked L) T) → (e : Entry) → lost_in (unranked L) ahead behind T e ≡ names_none (λ d. has_run L d) e
  links_dead ahead behind T described items reached e =
      let m = unranked L in
      let beside = ap₂ (λ (a b : Bool). a || b) (described.by_ahead e) (described.by_behind e) ∙ beside_runs Q.side e in
      let rank = ap (λ (r : Entry → ℕ). ltb (r e) m) (rank_is m m (has_mark L Q f) T items) in
      ap not
      (ap₂ (λ (a b : Bool). a || b) beside rank
      ∙ both_ways (can_run L Q f e || ltb (entry_rank m (has_mark L Q f) (in_ranks m T) e) m) (can_run L Q f e)
      (λ h. ⊎_elim (λ r. r) (rank_runs (in_ranks m T) reached e) (or_cases (can_run L Q f e) _ h)) (or_left (can_run L Q f e) _))
      ∙ none_passes (λ d. has_run L d) e
