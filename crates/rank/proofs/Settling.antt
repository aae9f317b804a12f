-- A table of ranks that visits lower in place, by tables of words: what a visit promises, and what a settled table is to the definitions.
-- Assumes nothing.
use Prim.Native.Nat.{ℕ, ◌+◌, ◌≤◌, ◌<◌}
use native.Mathlib.Omega.{arith}
use mathlib.Core.Path.{◌≡◌, sym, ap, ◌∙◌, subst}
use mathlib.Core.List.{List}
use lib.ListN.{length, get_or, set, take, drop, length-set}
use lib.Seq.{set-get_or, take-set-lt, drop-set-lt, get_or-take}
use lib.Dec.{ltb}
use borrow.Author.Tests.{ltb-true, ltb-false}
use Rattle.library.specs.Library.{Sequence, Alternative, alternatives_from}
use Rattle.walk.specs.Walk.{alternatives_at}
use Rattle.settling.specs.Settling as settling
use Rattle.runs.specs.Run.{alternatives_of}
use Rattle.settling.specs.Settling.{Lowers}
use Rattle.general.specs.Numbers.{total}
use Rattle.chains.specs.Ranks.{Look}
use Rattle.rank.specs.Walk.{lowered_from}
use Rattle.rank.specs.Visits.{visited, Visits, RanksSettled}
use Rattle.slot.specs.Slots.{in_ranks}
use Rattle.rank.specs.Tables.{look_in, Rankable, RanksReadable, RanksVisitable, visited_rank, visited_ranks}
use Rattle.question.specs.declared.asked.Asked.{Asked}
use Rattle.general.proofs.Scan.{get_d_inside, total_set}
use Rattle.rank.proofs.Walk.{lowered_low, lowered_from_lem}

module _ (q : Asked) (ahead behind part places : List ℕ) where
  rank_low : (T : List ℕ) (c : ℕ) → visited_rank q ahead behind part places T c ≤ get_or T c q.none
  rank_low T c = lowered_low (look_in q ahead behind T) (get_or T c q.none) (alternatives_at part places c)

  rank_total : (T : List ℕ) (c : ℕ) → c < length T
      → total (visited_ranks q ahead behind part places T c) + get_or T c q.none ≡ total T + visited_rank q ahead behind part places T c
  rank_total T c lt = total_set T c (visited_rank q ahead behind part places T c) q.none lt

  -- a visit keeps the length, and does not raise the sum
  pub visits_lower : (n : ℕ) → Lowers (visited_ranks q ahead behind part places) total n n
  visits_lower n =
      record {
        keeps = λ T c. length-set T c (visited_rank q ahead behind part places T c);
        lowers = λ T c lt long. omega (arith, rank_total T c (omega arith), rank_low T c);
      }

  -- a visit, from what its code does
  pub visit_made : (T : List ℕ) (c old new : ℕ) (T' : List ℕ) → c < length T → old ≡ get_or T c 0
      → new ≡ lowered_from (look_in q ahead behind T) old (alternatives_at part places c) → T' ≡ set T c new
      → settling.Visit (visited_ranks q ahead behind part places) total T c T' (ltb new old)
  visit_made T c old new T' lt read found written =
      let inside : old ≡ get_or T c q.none = read ∙ get_d_inside T c 0 q.none lt in
      let rank : new ≡ visited_rank q ahead behind part places T c =
      found ∙ ap (λ (r : ℕ). lowered_from (look_in q ahead behind T) r (alternatives_at part places c)) inside in
      let done : T' ≡ visited_ranks q ahead behind part places T c = written ∙ ap (set T c) rank in
      record {
        done = done;
        falls = λ e. let fewer = ltb-true new old e in rw done (omega (arith, rank_total T c lt));
        stays = λ e.
            let more = ltb-false new old e in
            let same : new ≡ get_or T c 0 = omega (arith, rank_low T c) in
            written ∙ ap (set T c) same ∙ set-get_or T c 0;
      }

-- a table of the same length has the same words
pub rankable_at : {none : ℕ} {T part : List ℕ} (U : List ℕ) → length U ≡ length T → Rankable none T part → Rankable none U part
rankable_at U e r =
    record {
      within = λ i l.
          let w = r.within i l in
          record {
            high = w.high;
            step = λ k. omega (arith, w.step k);
            check = λ k. ((w.check k).0, omega (arith, (w.check k).1));
            sequence = λ k. ((w.sequence k).0, omega (arith, (w.sequence k).1));
          };
    }

pub readable_at : {none : ℕ} {ahead behind T part : List ℕ} (U : List ℕ) → length U ≡ length T → RanksReadable none ahead behind T part
    → RanksReadable none ahead behind U part
readable_at U e r = record { by_ahead = r.by_ahead; by_behind = r.by_behind; by_ranks = rankable_at U e r.by_ranks }

pub visitable_at : {q : Asked} {n : ℕ} {ahead behind T part places : List ℕ} (U : List ℕ) → length U ≡ length T → RanksVisitable q n ahead behind T part places
    → RanksVisitable q n ahead behind U part places
visitable_at U e v =
    record { readable = readable_at U e v.readable; low = v.low; ranked = omega (arith, v.ranked); placed = v.placed; within = v.within }

-- Where the words hold the alternatives of each sequence, and the tables say of an alternative what the look says, visits lower the ranks
-- of the sequences as the definitions do, and those of the items stay.
module _ (q : Asked) (ahead behind part places items : List ℕ) (S : List Sequence) (look : Look) (none n : ℕ) (count : n ≡ length S) (low : n ≤ none)
    (absent : q.none ≡ none) (looks : (T : List ℕ) → drop none T ≡ items → look_in q ahead behind T ≡ look (in_ranks none T))
    (reads : (c : ℕ) → c < n → alternatives_from (drop (get_or places c 0 + 1) part) ≡ alternatives_of S c) where
  visit_same : (T : List ℕ) (c : ℕ) → c < n → drop none T ≡ items
      → take none (visited_ranks q ahead behind part places T c) ≡ visited S look none (take none T) c
  visit_same T c lt kept =
      take-set-lt none T c (visited_rank q ahead behind part places T c) (omega arith)
      ∙ ap (set (take none T) c)
      (ap (λ (m : ℕ). lowered_from (look_in q ahead behind T) (get_or T c m) (alternatives_at part places c)) absent
      ∙ ap (λ (r : ℕ). lowered_from (look_in q ahead behind T) r (alternatives_at part places c)) (sym (get_or-take none T c none (omega arith)))
      ∙ ap (λ (v : Alternative → ℕ). lowered_from v (in_ranks none T c) (alternatives_at part places c)) (looks T kept)
      ∙ ap (lowered_from (look (in_ranks none T)) (in_ranks none T c)) (reads c lt)
      ∙ sym (lowered_from_lem S look (in_ranks none T) c))

  visit_keeps : (T : List ℕ) (c : ℕ) → c < n → drop none (visited_ranks q ahead behind part places T c) ≡ drop none T
  visit_keeps T c lt = drop-set-lt none T c (visited_rank q ahead behind part places T c) (omega arith)

  reached_kept : {before after : List ℕ} → settling.Reached (visited_ranks q ahead behind part places) n before after → drop none before ≡ items
      → drop none after ≡ items
  reached_kept settling.here kept = kept
  reached_kept (settling.next {table = T} c lt r) kept = visit_keeps T c lt ∙ reached_kept r kept

  reached_visits : {before after : List ℕ} → settling.Reached (visited_ranks q ahead behind part places) n before after → drop none before ≡ items
      → settling.Reached (visited S look none) n (take none before) (take none after)
  reached_visits settling.here kept = settling.here
  reached_visits {before} (settling.next {table = T} c lt r) kept =
      subst (settling.Reached (visited S look none) n (take none before)) (sym (visit_same T c lt (reached_kept r kept))) (settling.next c lt (reached_visits r kept))

  module _ {before after : List ℕ} (kept : drop none before ≡ items) (p : settling.Settles (visited_ranks q ahead behind part places) n before after) where
    pub settled_kept : drop none after ≡ items
    settled_kept = reached_kept p.reached kept

    pub settled_visits : Visits S look none (take none before) (take none after)
    settled_visits = subst (λ (m : ℕ). settling.Reached (visited S look none) m (take none before) (take none after)) count (reached_visits p.reached kept)

    pub settled_all : RanksSettled S look none (take none after)
    settled_all c lt =
        let below : c < n = omega arith in
        sym (visit_same after c below settled_kept) ∙ ap (take none) (p.settled c below)
