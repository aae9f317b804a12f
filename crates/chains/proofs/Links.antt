-- Numbers of links: a closed table has no rank above the number of links of a chain that stands for a run with the touch asked for, one
-- look at an alternative finds only numbers that a chain has, and a rank is at most the number of sequences. Then the chain that is
-- chosen by the ranks, link by link.
-- It has: `links_least` and `links_below` (no rank above the number of links), `links_reached` (a number that a chain has), `chosen_rank`,
-- `links_bound` and `chain_ranked` (the chain chosen). Depths are in Depth, what only has to pass in Passing.
use Prim.Native.Nat.{ℕ, suc, ◌+◌, ◌≤◌, ◌<◌}
use mathlib.Core.Path.{◌≡◌, refl, sym, ◌∙◌}
use mathlib.Core.Logic.{◌≢◌, ⊎_elim}
use mathlib.Core.Bool.{Bool, true, false, cond, ◌&&◌}
use mathlib.Core.List.{List, [], ◌∷◌, ◌++◌}
use native.Mathlib.Omega.{arith}
use lib.ListN.{length, take, drop}
use lib.Dec.{leb}
use borrow.Author.Tests.{leb-true, le-leb}
use Rattle.library.specs.Library.{Library, Alternative, Entry, item, call, Item, entry_at}
use Rattle.general.proofs.Bools.{and_parts, and_both}
use Rattle.runs.specs.Run.{alternatives_of, alternative_of}
use Rattle.runs.specs.Touch.{untouched, item_touch, Question, HasOutcome}
use Rattle.runs.specs.Algebra.{same_mark_refl, same_mark_eq}
use Rattle.runs.proofs.Possible.{alternative_below}
use Rattle.general.specs.Scan.{every}
use Rattle.chains.specs.Link.{touch_link, untouched_link, Chain}
use Rattle.chains.specs.Stands.{About, EntryTouches, Choices, StandsFor}
use Rattle.chains.specs.Ranks.{Ranks, Look, Unlowered, Attained, Linked, entry_rank, candidate, link_look, has_mark, ahead_of, behind_of}
use Rattle.chains.specs.Answer.{chosen_alternative, chosen_position}
use Rattle.general.proofs.Scan.{least_le, least_cases, first_found, Gapless, gapless_bound}
use Rattle.chains.proofs.Ranks.{Newest, alternative_newest}
use Rattle.chains.proofs.Depth.{step_rank_lem, step_passes}
use Rattle.chains.proofs.Entries.{beside_given, given_beside}
use Rattle.chains.proofs.Stands.{stands_outcome}

-- a value that is below `none` where its condition holds
cond_low : (b : Bool) (x none : ℕ) → cond b x none < none → (b ≡ true) × (cond b x none ≡ x)
cond_low true x none lt = (refl, refl)
cond_low false x none lt = absurd (omega arith)

cond_true : (b : Bool) (x none : ℕ) → b ≡ true → cond b x none ≡ x
cond_true b x none e = rw e

-- the entries of an alternative, and what the entry at a link's position gives
abbrev pub entries_of : Library → ℕ → ℕ → Alternative
entries_of L c i = alternative_of L.sequences c i

abbrev pub Touching : Library → Question → ℕ → Chain → Entry → List Item → Type 0
Touching L q f ls = EntryTouches L q f ls (λ u. StandsFor L q f ls u)

module _ (L : Library) (q : Question) (f none : ℕ) where
  -- the number of links after a position, and the look at an alternative
  abbrev pub after : Ranks → Alternative → ℕ → ℕ
  after = candidate none (has_mark L q f) (ahead_of L q f q.side) (behind_of L q f q.side)

  abbrev pub look : Look
  look = link_look none (has_mark L q f) (ahead_of L q f q.side) (behind_of L q f q.side)

  pub look_le : (T : Ranks) (es : Alternative) (p : ℕ) → p < length es → look T es ≤ after T es p
  unfolding link_look
  look_le T es p lt = least_le (after T es) none (length es) p lt

  look_reached : (T : Ranks) (es : Alternative) → look T es < none → (p : ℕ) × (p < length es) × (look T es ≡ after T es p)
  unfolding link_look
  look_reached T es lt = ⊎_elim (λ e. absurd (omega arith)) (λ r. r) (least_cases (after T es) none (length es))

  -- the rank of the entry that touches is at most n, where that of a sequence is
  touching_rank : (T : Ranks) (n : ℕ) (ls : Chain) → ((d : ℕ) (u : List Item) → About d ls → StandsFor L q f ls u → HasOutcome L q f u → T d ≤ n)
      → (e : Entry) (u : List Item) → Touching L q f ls e u → entry_rank none (has_mark L q f) T e ≤ n
  touching_rank T n ls low (item a) u (ends, one, touch) =
      let e = step_rank_lem none (has_mark L q f a) (rw touch (same_mark_refl q.mark)) in
      omega arith
  touching_rank T n ls low (call d) u (about, stands, outcome) = low d u about stands outcome

  -- the entries beside the position of a kind 11 link pass, so the links after it are those of its entry
  pub choices_rank : (T : Ranks) (n : ℕ) (ls : Chain) → ((d : ℕ) (u : List Item) → About d ls → StandsFor L q f ls u → HasOutcome L q f u → T d ≤ n)
      → (es : Alternative) (p : ℕ) (w : List Item) → Choices L q f es p (Touching L q f ls) w → after T es p ≤ n
  choices_rank T n ls low es p w k =
      let b = given_beside L q f q.side (take p es) (drop (suc p) es) k.earlier k.later k.stays in
      let e =
      cond_true (every (ahead_of L q f q.side) (take p es) && every (behind_of L q f q.side) (drop (suc p) es))
      (entry_rank none (has_mark L q f) T (entry_at es p)) none (and_both _ _ b.0 b.1) in
      let r = touching_rank T n ls low (entry_at es p) k.given k.touching in
      omega arith

  -- a closed table has no rank above the number of links
  pub links_least : q.mark ≢ untouched → (T : Ranks) → Unlowered L.sequences look T → (ls : Chain) (c : ℕ) (w : List Item) → About c ls
      → StandsFor L q f ls w → HasOutcome L q f w → T c ≤ length ls
  links_least touch T closed [] c w about stands outcome = absurd about
  links_least touch T closed (touch_link d i p ∷ ls) c w about (lt, k) outcome =
      let r = choices_rank T (length ls) ls (links_least touch T closed ls) (entries_of L d i) p w k in
      let l = look_le T (entries_of L d i) p k.listed in
      let s = closed d i lt in
      let le : T d ≤ suc (length ls) = omega arith in
      rw about at le
  links_least touch T closed (untouched_link d i ∷ ls) c w about (lt, ends, g, stays) outcome = absurd (touch (sym outcome ∙ stays))

  pub links_below : q.mark ≢ untouched → (T : Ranks) → Unlowered L.sequences look T → (c n : ℕ) → Linked L q f c n → T c ≤ n
  links_below touch T closed c n r =
      let le = links_least touch T closed r.chain c r.run r.about r.stands r.outcome in
      let le' = r.links in
      omega arith

  -- the entry that has a rank touches, by itself or by a run that a chain stands for
  pub record Entered (e : Entry) (n : ℕ) : Type 0 where
    pub links : Chain
    pub given : List Item
    pub touching : Touching L q f links e given
    pub fewer : length links ≤ n

  entry_linked : (T : Ranks) → Attained (Linked L q f) none T → (e : Entry) → entry_rank none (has_mark L q f) T e < none
      → Entered e (entry_rank none (has_mark L q f) T e)
  entry_linked T reached (item a) lt =
      record {
        links = [];
        given = a ∷ [];
        touching = (refl, refl, same_mark_eq (item_touch L q.side f a) q.mark (step_passes none (has_mark L q f a) lt));
        fewer = omega arith;
      }
  entry_linked T reached (call d) lt =
      let r = reached d lt in
      record { links = r.chain; given = r.run; touching = (r.about, r.stands, r.outcome); fewer = r.links }

  -- the choice of a link: it keeps the number of links fewest, and none that comes before it in the order of choices does
  pub record Chosen (T : Ranks) (c k i p : ℕ) : Type 0 where
    pub alternative : Newest L.sequences look T c k i
    pub inside : p < length (entries_of L c i)
    pub keeps : after T (entries_of L c i) p ≤ k
    pub first : (r : ℕ) → r < length (entries_of L c i) → after T (entries_of L c i) r ≤ k → p ≤ r

  abbrev pub chosen_at : Ranks → ℕ → ℕ → ℕ
  chosen_at T c k = chosen_alternative L.sequences look T k c

  abbrev pub position_at : Ranks → ℕ → ℕ → ℕ
  position_at T c k = chosen_position (after T (entries_of L c (chosen_at T c k))) k (entries_of L c (chosen_at T c k))

  position_chosen : (T : Ranks) (c k i : ℕ) → k < none → Newest L.sequences look T c k i
      → Chosen T c k i (chosen_position (after T (entries_of L c i)) k (entries_of L c i))
  unfolding chosen_position
  position_chosen T c k i lt a =
      let low = a.keeps in
      let m = look_reached T (entries_of L c i) (omega arith) in
      let inside = m.1 in
      let same = m.2 in
      let least = first_found (λ p. leb (after T (entries_of L c i) p) k) (length (entries_of L c i)) in
      let r = least m.0 inside (le-leb (after T (entries_of L c i) m.0) k (omega arith)) in
      let le = r.0 in
      record {
        alternative = a;
        inside = omega arith;
        keeps = leb-true (after T (entries_of L c i) (chosen_position (after T (entries_of L c i)) k (entries_of L c i))) k r.1;
        first = λ p l h. (least p l (le-leb (after T (entries_of L c i) p) k h)).0;
      }

  module _ (touch : q.mark ≢ untouched) where
    -- a position whose entries beside it pass, and an entry that touches, make a link
    pub linked : (c i p : ℕ) → i < length (alternatives_of L.sequences c) → p < length (entries_of L c i)
        → every (ahead_of L q f q.side) (take p (entries_of L c i)) ≡ true → every (behind_of L q f q.side) (drop (suc p) (entries_of L c i)) ≡ true
        → (ls : Chain) (g : List Item) → Touching L q f ls (entry_at (entries_of L c i) p) g → (w : List Item) × StandsFor L q f (touch_link c i p ∷ ls) w
    linked c i p lt at a b ls g touching =
        let r = beside_given L q f q.side (take p (entries_of L c i)) (drop (suc p) (entries_of L c i)) a b in (
          r.0 ++ (g ++ r.1),
          (
            lt,
            record {
              touch = touch;
              listed = at;
              before = r.0;
              given = g;
              after = r.1;
              split = refl;
              earlier = r.2;
              touching = touching;
              later = r.3;
              stays = r.4;
            },
          ),
        )

    -- what stands at a position with a rank: the tests pass, and the rank is the entry's
    pub position_low : (T : Ranks) (es : Alternative) (p : ℕ) → after T es p < none
        → (every (ahead_of L q f q.side) (take p es) ≡ true) × (every (behind_of L q f q.side) (drop (suc p) es) ≡ true)
        × (after T es p ≡ entry_rank none (has_mark L q f) T (entry_at es p))
    position_low T es p lt =
        let r =
        cond_low (every (ahead_of L q f q.side) (take p es) && every (behind_of L q f q.side) (drop (suc p) es))
        (entry_rank none (has_mark L q f) T (entry_at es p)) none lt in
        let b = and_parts (every (ahead_of L q f q.side) (take p es)) (every (behind_of L q f q.side) (drop (suc p) es)) r.0 in
        (b.0, b.1, r.1)

    -- one look at an alternative finds only a number that a chain has
    pub links_reached : (T : Ranks) → Attained (Linked L q f) none T → (c i : ℕ) → i < length (alternatives_of L.sequences c)
        → suc (look T (entries_of L c i)) < none → Linked L q f c (suc (look T (entries_of L c i)))
    links_reached T reached c i lt low =
        let m = look_reached T (entries_of L c i) (omega arith) in
        let p = m.0 in
        let same = m.2 in
        let b = position_low T (entries_of L c i) p (omega arith) in
        let value = b.2 in
        let r = entry_linked T reached (entry_at (entries_of L c i) p) (omega arith) in
        let s = linked c i p lt m.1 b.0 b.1 r.links r.given r.touching in
        let fewer = r.fewer in
        record {
          chain = touch_link c i p ∷ r.links;
          about = refl;
          run = s.0;
          stands = s.1;
          outcome = stands_outcome L q f c i p r.links s.0 s.1;
          links = omega arith;
        }

    -- Below: a table all of whose ranks are reached and that no look lowers.
    module _ (T : Ranks) (reached : Attained (Linked L q f) none T) (closed : Unlowered L.sequences look T) where
      -- an alternative that keeps the number of links fewest, and a position
      rank_alternative : (c k : ℕ) → T c ≡ suc k → suc k < none
          → (i : ℕ) × (i < length (alternatives_of L.sequences c)) × (look T (entries_of L c i) ≤ k)
      rank_alternative c k e lt = let r = reached c (omega arith) in go r.chain r.run r.about r.stands r.outcome (omega (arith, r.links))
        where
          go : (ls : Chain) (w : List Item) → About c ls → StandsFor L q f ls w → HasOutcome L q f w → length ls ≤ suc k
              → (i : ℕ) × (i < length (alternatives_of L.sequences c)) × (look T (entries_of L c i) ≤ k)
          go [] w about stands outcome le = absurd about
          go (touch_link d i p ∷ ls) w about (listed, s) outcome le =
              let r = choices_rank T (length ls) ls (links_least touch T closed ls) (entries_of L d i) p w s in
              let l = look_le T (entries_of L d i) p s.listed in
              let low : look T (entries_of L d i) ≤ k = omega arith in
              rw about at (found d i listed low)
            where
              found : (d i : ℕ) → i < length (alternatives_of L.sequences d) → look T (entries_of L d i) ≤ k
                  → (i : ℕ) × (i < length (alternatives_of L.sequences d)) × (look T (entries_of L d i) ≤ k)
              found d i listed low = (i, listed, low)
          go (untouched_link d i ∷ ls) w about (listed, ends, g, stays) outcome le = absurd (touch (sym outcome ∙ stays))

      pub chosen : (c k : ℕ) → T c ≡ suc k → suc k < none → Chosen T c k (chosen_at T c k) (position_at T c k)
      chosen c k e lt =
          let a = rank_alternative c k e lt in
          position_chosen T c k (chosen_at T c k) (omega arith) (alternative_newest L.sequences look T c k a.0 a.1 a.2)

      -- the entry of the choice has the rank below
      pub chosen_rank : (c k i p : ℕ) → T c ≡ suc k → suc k < none → Chosen T c k i p → entry_rank none (has_mark L q f) T (entry_at (entries_of L c i) p) ≡ k
      chosen_rank c k i p e lt ch =
          let keeps = ch.keeps in
          let value = (position_low T (entries_of L c i) p (omega arith)).2 in
          let l = look_le T (entries_of L c i) p ch.inside in
          let s = closed c i ch.alternative.listed in
          omega arith

      -- a sequence with a rank is one of the library's
      pub ranked_listed : (c : ℕ) → T c < none → c < length L.sequences
      ranked_listed c lt = let r = reached c lt in first_listed r.chain c r.run r.about r.stands
        where
          first_listed : (ls : Chain) (c : ℕ) (w : List Item) → About c ls → StandsFor L q f ls w → c < length L.sequences
          first_listed [] c w about stands = absurd about
          first_listed (touch_link d i p ∷ ls) c w about stands = rw about at (alternative_below L.sequences d i stands.0)
          first_listed (untouched_link d i ∷ ls) c w about stands = rw about at (alternative_below L.sequences d i stands.0)

      links_gapless : Gapless T none (length L.sequences)
      links_gapless = record { index = ranked_listed; next = next }
        where
          entry : (k : ℕ) → suc (suc k) < none → (e : Entry) → entry_rank none (has_mark L q f) T e ≡ suc k → (d : ℕ) × (T d ≡ suc k)
          entry k lt (call d) e = (d, e)
          entry k lt (item a) e = let z = step_rank_lem none (has_mark L q f a) (step_passes none (has_mark L q f a) (omega arith)) in absurd (omega arith)

          next : (c k : ℕ) → T c < none → T c ≡ suc (suc k) → (d : ℕ) × (T d ≡ suc k)
          next c k lt e =
              let ch = chosen c (suc k) e (omega arith) in
              entry k (omega arith) (entry_at (entries_of L c (chosen_at T c (suc k))) (position_at T c (suc k)))
              (chosen_rank c (suc k) (chosen_at T c (suc k)) (position_at T c (suc k)) e (omega arith) ch)

      -- a rank is at most the number of sequences
      pub links_bound : (c : ℕ) → T c < none → T c ≤ length L.sequences
      links_bound = gapless_bound T none (length L.sequences) links_gapless

      -- a sequence about which a chain stands for a run with the touch has a rank
      pub chain_ranked : length L.sequences + 2 ≤ none → (ls : Chain) (c : ℕ) (w : List Item) → About c ls → StandsFor L q f ls w → HasOutcome L q f w
          → T c ≤ length L.sequences
      chain_ranked room [] c w about stands outcome = absurd about
      chain_ranked room (touch_link d i p ∷ ls) c w about (lt, k) outcome =
          let r = choices_rank T (length L.sequences) ls (chain_ranked room ls) (entries_of L d i) p w k in
          let l = look_le T (entries_of L d i) p k.listed in
          let s = closed d i lt in
          rw about at (links_bound d (omega arith))
      chain_ranked room (untouched_link d i ∷ ls) c w about (lt, ends, g, stays) outcome = absurd (touch (sym outcome ∙ stays))
