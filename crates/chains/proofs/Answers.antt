-- The answer to a question: a chain that is answered keeps every promise of `Shows`, and "none" is answered exactly when no run has
-- the outcome.
-- It has: chains chosen by ranks stand for a run and are the newest (`links_stand`, `links_newest`); for either kind of question what is answered
-- and when none is (`touch_shows`, `touch_none`, `untouched_shows`, `untouched_none`), and for all (`answer_shows`, `answer_none`); and that
-- any table of right ranks gives the answer (`touch_table`, `untouched_table`). That there is one such chain is in Unique.
use Prim.Native.Nat.{ℕ, zero, suc, pred, ◌≤◌, ◌<◌}
use mathlib.Core.Path.{◌≡◌, refl, sym, ◌∙◌, ap, subst, fun_ext}
use mathlib.Core.Logic.{◌≢◌, ◌⊎◌, inl, inr, ⊎_elim, ◌↔◌}
use mathlib.Core.Bool.{Bool, true, false}
use mathlib.Core.List.{List, [], ◌∷◌}
use native.Mathlib.Omega.{arith}
use native.Mathlib.Nat.{eq-or-lt_of_le}
use lib.ListN.{length}
use lib.Dec.{ltb}
use borrow.Author.Tests.{ltb-true, ltb-false}
use Rattle.library.specs.Library.{Library, Entry, item, call, Item, entry_at}
use Rattle.runs.specs.Run.{Run, Gives, alternatives_of, alternative_of}
use Rattle.runs.specs.Touch.{Side, Mark, present, absent, untouched, item_touch, Question, HasOutcome}
use Rattle.runs.specs.Algebra.{same_mark_eq}
use Rattle.general.proofs.Bools.{passes_or_not}
use Rattle.runs.proofs.Outcome.{present≢untouched, absent≢untouched}
use Rattle.runs.proofs.Possible.{alternative_below}
use Rattle.chains.specs.Link.{touch_link, untouched_link, Chain}
use Rattle.chains.specs.Stands.{About, Choices, StandsFor}
use Rattle.chains.specs.Depth.{deepest}
use Rattle.chains.specs.Ranks.{Ranks, Unlowered, Attained, Linked, Passing, unranked, entry_rank, ranks, has_mark, untouched_look, touch_look}
use Rattle.chains.specs.Answer.{Answer, none, shown, chosen_alternative, followed, links_from, touch_answer, untouched_answer, ranks_in}
use Rattle.chains.specs.Answer.{touch_shown, untouched_shown, answer_for, answer}
use Rattle.chains.specs.Shows.{NoOlder, LeastDepth, Shows}
use Rattle.chains.proofs.Ranks.{Newest, alternative_newest, ranks_least, ranks_closed, ranks_capped, ranks_reached}
use Rattle.chains.proofs.Depth.{step_passes, step_rank_lem, Given, given_more, depth_least, depth_given, depth_reached, depth_exact, depth_below, run_ranked}
use Rattle.chains.proofs.Entries.{passes_untouched}
use Rattle.chains.proofs.Stands.{stands_run, stands_outcome, run_chain}
use Rattle.chains.proofs.Links.{entries_of, Touching, after, look_le, choices_rank, links_least, links_below, chosen_at, position_at}
use Rattle.chains.proofs.Links.{linked, position_low, links_reached, chosen, chosen_rank, links_bound, chain_ranked}

-- a chain about a sequence has a link
about_one : (ls : Chain) (c : ℕ) → About c ls → 1 ≤ length ls
about_one [] c about = absurd about
about_one (l ∷ ls) c about = omega arith

-- Questions that ask for a touch, by any table all of whose ranks are reached and that no look lowers.
module _ (L : Library) (q : Question) (f : ℕ) (touch : q.mark ≢ untouched) (T : Ranks)
    (reached : Attained (Linked L q f) (unranked L) T) (closed : Unlowered L.sequences (touch_look L q f) T) where
  -- the links after this one
  abbrev next : ℕ → ℕ → Chain
  next k d = links_from L q f T k d

  -- the links stand for a run, and are as many as the rank says
  pub record Standing (c k : ℕ) : Type 0 where
    pub about : About c (links_from L q f T k c)
    pub count : length (links_from L q f T k c) ≡ k
    pub run : List Item
    pub stands : StandsFor L q f (links_from L q f T k c) run
    pub outcome : HasOutcome L q f run

  -- the entry that is chosen touches, by the links after it
  entry_stands : (k : ℕ) → k < unranked L → ((d : ℕ) → T d ≡ k → Standing d k) → (e : Entry) → entry_rank (unranked L) (has_mark L q f) T e ≡ k
      → (length (followed e (next k)) ≡ k) × ((g : List Item) × Touching L q f (followed e (next k)) e g)
  entry_stands k lt rest (item a) e =
      let passes = step_passes (unranked L) (has_mark L q f a) (omega arith) in
      let z = step_rank_lem (unranked L) (has_mark L q f a) passes in
      (omega arith, (a ∷ [], (refl, refl, same_mark_eq (item_touch L q.side f a) q.mark passes)))
  entry_stands k lt rest (call d) e = let r = rest d e in (r.count, (r.run, (r.about, r.stands, r.outcome)))

  pub links_stand : (k c : ℕ) → T c ≡ k → k < unranked L → Standing c k
  unfolding links_from
  links_stand zero c e lt = let r = reached c (omega arith) in let o = about_one r.chain c r.about in let l = r.links in absurd (omega arith)
  links_stand (suc k) c e lt =
      let ch = chosen L q f (unranked L) touch T reached closed c k e lt in
      let i = chosen_at L q f (unranked L) T c k in
      let p = position_at L q f (unranked L) T c k in
      let keeps = ch.keeps in
      let beside = position_low L q f (unranked L) touch T (entries_of L c i) p (omega arith) in
      let entry =
      entry_stands k (omega arith) (λ d e'. links_stand k d e' (omega arith)) (entry_at (entries_of L c i) p)
      (chosen_rank L q f (unranked L) touch T reached closed c k i p e lt ch) in
      let s =
      linked L q f (unranked L) touch c i p ch.alternative.listed ch.inside beside.0 beside.1
      (followed (entry_at (entries_of L c i) p) (next k)) entry.1.0 entry.1.1 in
      record {
        about = refl;
        count = ap suc entry.0;
        run = s.0;
        stands = s.1;
        outcome = stands_outcome L q f c i p (followed (entry_at (entries_of L c i) p) (next k)) s.0 s.1;
      }

  -- every run that the links stand for has the outcome
  links_outcome : (k c : ℕ) (w : List Item) → StandsFor L q f (links_from L q f T k c) w → HasOutcome L q f w
  unfolding links_from
  links_outcome zero c w stands = absurd stands
  links_outcome (suc k) c w stands =
      stands_outcome L q f c (chosen_at L q f (unranked L) T c k) (position_at L q f (unranked L) T c k)
      (followed (entry_at (entries_of L c (chosen_at L q f (unranked L) T c k)) (position_at L q f (unranked L) T c k)) (next k)) w stands

  -- no chain with as many links makes a newer choice
  entry_newest : (k : ℕ) (ms : Chain) (g : List Item)
      → ((d : ℕ) → T d ≡ k → About d ms → StandsFor L q f ms g → HasOutcome L q f g → NoOlder (next k d) ms) → (e : Entry)
      → entry_rank (unranked L) (has_mark L q f) T e ≡ k → Touching L q f ms e g → NoOlder (followed e (next k)) ms
  entry_newest k ms g rest (item a) e touching = tt
  entry_newest k ms g rest (call d) e (about, stands, outcome) = rest d e about stands outcome

  first_newest : (k c j r : ℕ) (ms : Chain) (w : List Item) → T c ≡ suc k → suc k < unranked L → j < length (alternatives_of L.sequences c)
      → (s : Choices L q f (entries_of L c j) r (Touching L q f ms) w) → length ms ≡ k
      → ((d : ℕ) → T d ≡ k → About d ms → StandsFor L q f ms s.given → HasOutcome L q f s.given → NoOlder (next k d) ms)
      → NoOlder (links_from L q f T (suc k) c) (touch_link c j r ∷ ms)
  unfolding links_from
  first_newest k c j r ms w e lt listed s count rest =
      let ch = chosen L q f (unranked L) touch T reached closed c k e lt in
      let i = chosen_at L q f (unranked L) T c k in
      let p = position_at L q f (unranked L) T c k in
      let es = entries_of L c in
      let low : after L q f (unranked L) T (es j) r ≤ k =
      rw count at (choices_rank L q f (unranked L) T (length ms) ms (links_least L q f (unranked L) touch T closed ms) (es j) r w s) in
      let l = look_le L q f (unranked L) T (es j) r s.listed in (
        refl,
        ⊎_elim
            (λ (e' : j ≡ i). let same = sym e' in inr (
              same,
              ⊎_elim
                  (λ (at : p ≡ r). inr (
                    at,
                    entry_newest k ms s.given rest (entry_at (es i) p) (chosen_rank L q f (unranked L) touch T reached closed c k i p e lt ch)
                        (rw (at, same) s.touching),
                  ))
                  inl
                  (eq-or-lt_of_le (ch.first r (rw same s.listed) (rw same low))),
            ))
            inl
            (eq-or-lt_of_le (ch.alternative.highest j listed (omega arith))),
      )

  pub links_newest : (k c : ℕ) → T c ≡ k → k < unranked L → (ms : Chain) (w : List Item) → About c ms → StandsFor L q f ms w → HasOutcome L q f w
      → length ms ≡ k → NoOlder (links_from L q f T k c) ms
  unfolding links_from
  links_newest zero c e lt ms w about stands outcome count = tt
  links_newest (suc k) c e lt [] w about stands outcome count = absurd about
  links_newest (suc k) c e lt (touch_link d j r ∷ ms) w about (listed, s) outcome count =
      subst (λ x. NoOlder (links_from L q f T (suc k) x) (touch_link d j r ∷ ms)) about
      (first_newest k d j r ms w (ap T about ∙ e) lt listed s (omega arith)
      (λ b e' about' stands' outcome'. links_newest k b e' (omega arith) ms s.given about' stands' outcome' (omega arith)))
  links_newest (suc k) c e lt (untouched_link d j ∷ ms) w about (listed, ends, g, stays) outcome count = absurd (touch (sym outcome ∙ stays))

  -- the answer by the table: a chain where the sequence has a rank, none elsewhere
  touch_cases : (c : ℕ)
      → ((T c < unranked L) × (touch_answer L q f T c ≡ shown (links_from L q f T (T c) c))) ⊎ ((unranked L ≤ T c) × (touch_answer L q f T c ≡ none))
  unfolding touch_answer
  touch_cases c =
      ⊎_elim (λ (e : ltb (T c) (unranked L) ≡ true). inl (ltb-true (T c) (unranked L) e, rw (e, touch_answer)))
      (λ (e : ltb (T c) (unranked L) ≡ false). inr (ltb-false (T c) (unranked L) e, rw (e, touch_answer))) (passes_or_not (ltb (T c) (unranked L)))

  pub touch_shows : (c : ℕ) (ls : Chain) → touch_answer L q f T c ≡ shown ls → Shows L q c f ls
  touch_shows c ls e =
      ⊎_elim (λ (lt, s). subst (Shows L q c f) (same s) (all lt)) (λ (le, s). let z : ◌≡◌ {A = ℕ} 0 1 = cc in absurd (omega arith)) (touch_cases c)
    where
      same : touch_answer L q f T c ≡ shown (links_from L q f T (T c) c) → links_from L q f T (T c) c ≡ ls
      same s = cc

      all : T c < unranked L → Shows L q c f (links_from L q f T (T c) c)
      all lt =
          let r = links_stand (T c) c refl lt in
          let count = r.count in
          record {
            about = r.about;
            run = r.run;
            stands = r.stands;
            runs = λ w stands. (stands_run L q f (links_from L q f T (T c) c) c w r.about stands, links_outcome (T c) c w stands);
            fewest = λ ms w about stands outcome. let le = links_least L q f (unranked L) touch T closed ms c w about stands outcome in omega arith;
            newest = λ t ms w about stands outcome same_count. links_newest (T c) c refl lt ms w about stands outcome (omega arith);
            one = λ no. absurd (touch no);
            few = let le = links_bound L q f (unranked L) touch T reached closed c lt in omega arith;
          }

  pub touch_none : (c : ℕ) → (touch_answer L q f T c ≡ none) ↔ ((w : List Item) → Run L c w → ¬ HasOutcome L q f w)
  touch_none c = (there, back)
    where
      there : touch_answer L q f T c ≡ none → (w : List Item) → Run L c w → ¬ HasOutcome L q f w
      there e w run outcome =
          let k = run_chain L q f touch c w run outcome in
          let le = chain_ranked L q f (unranked L) touch T reached closed (omega arith) k.0 c w k.1 k.2 outcome in
          ⊎_elim (λ (lt, s). let z : ◌≡◌ {A = ℕ} 0 1 = cc in omega arith) (λ (no_lt, s). omega arith) (touch_cases c)

      back : ((w : List Item) → Run L c w → ¬ HasOutcome L q f w) → touch_answer L q f T c ≡ none
      back no_run =
          ⊎_elim
          (λ (lt, s). let r = reached c lt in absurd (no_run r.run (stands_run L q f r.chain c r.run r.about r.stands) r.outcome))
          (λ (le, s). s) (touch_cases c)

-- Questions that ask for no touch, likewise.
module _ (L : Library) (s : Side) (f : ℕ) where
  abbrev staying : Question
  staying = record { side = s; mark = untouched }

  abbrev leaves : Item → Bool
  leaves = has_mark L staying f

  module _ (T : Ranks) (reached : Attained (Passing L.sequences leaves) (unranked L) T)
      (closed : Unlowered L.sequences (untouched_look L staying f) T) where
    -- an alternative that comes to the least depth, with a derivation no deeper
    least_depth : (c k i : ℕ) → T c ≡ suc k → Newest L.sequences (untouched_look L staying f) T c k i
        → Given L.sequences (unranked L) leaves (alternative_of L.sequences c i) k → LeastDepth L staying f c i
    least_depth c k i e a g =
        record {
          listed = a.listed;
          run = g.list;
          derivation = g.derivation;
          leaves = (passes_untouched s (item_touch L s f) g.list).0 g.passes;
          least = least;
        }
      where
        least : (j : ℕ) → j < length (alternatives_of L.sequences c) → (w : List Item)
            (h : Gives L.sequences (alternative_of L.sequences c j) w) → HasOutcome L staying f w
            → (deepest L.sequences g.derivation < deepest L.sequences h)
            ⊎ ((deepest L.sequences g.derivation ≡ deepest L.sequences h) × (j ≤ i))
        least j lt w h o =
            let up = depth_least L.sequences (unranked L) leaves T closed h ((passes_untouched s (item_touch L s f) w).1 o) in
            let low = closed c j lt in
            let d = g.depth in
            ⊎_elim (λ (same : deepest L.sequences g.derivation ≡ deepest L.sequences h). inr (same, a.highest j lt (omega arith))) inl
            (eq-or-lt_of_le (omega arith))

    -- the alternative of least depth
    abbrev shallowest : ℕ → ℕ
    shallowest c = chosen_alternative L.sequences (untouched_look L staying f) T (pred (T c)) c

    shallowest_least : (c : ℕ) → T c < unranked L → LeastDepth L staying f c (shallowest c)
    shallowest_least c lt =
        let r = reached c lt in
        let exact = (depth_exact L.sequences (unranked L) leaves T reached closed c lt).1 in
        let a =
        alternative_newest L.sequences (untouched_look L staying f) T c (pred (T c)) r.derivation.alternative r.derivation.listed (omega arith) in
        let low = a.keeps in
        let g = depth_given L.sequences (unranked L) leaves T reached (alternative_of L.sequences c (shallowest c)) (omega arith) in
        least_depth c (pred (T c)) (shallowest c) (omega arith) a (given_more L.sequences (unranked L) leaves g low)

    -- the answer by the table
    untouched_cases : (c : ℕ)
        → ((T c < unranked L) × (untouched_answer L staying f T c ≡ shown (untouched_link c (shallowest c) ∷ [])))
        ⊎ ((unranked L ≤ T c) × (untouched_answer L staying f T c ≡ none))
    unfolding untouched_answer
    untouched_cases c =
        ⊎_elim (λ (e : ltb (T c) (unranked L) ≡ true). inl (ltb-true (T c) (unranked L) e, rw (e, untouched_answer)))
        (λ (e : ltb (T c) (unranked L) ≡ false). inr (ltb-false (T c) (unranked L) e, rw (e, untouched_answer)))
        (passes_or_not (ltb (T c) (unranked L)))

    pub untouched_shows : (c : ℕ) (ls : Chain) → untouched_answer L staying f T c ≡ shown ls → Shows L staying c f ls
    untouched_shows c ls e =
        ⊎_elim (λ (lt, h). subst (Shows L staying c f) (same h) (all lt)) (λ (le, h). let z : ◌≡◌ {A = ℕ} 0 1 = cc in absurd (omega arith))
        (untouched_cases c)
      where
        same : untouched_answer L staying f T c ≡ shown (untouched_link c (shallowest c) ∷ []) → untouched_link c (shallowest c) ∷ [] ≡ ls
        same h = cc

        all : T c < unranked L → Shows L staying c f (untouched_link c (shallowest c) ∷ [])
        all lt =
            let d = shallowest_least c lt in
            record {
              about = refl;
              run = d.run;
              stands = (d.listed, refl, d.derivation, d.leaves);
              runs = λ w stands. (stands_run L staying f (untouched_link c (shallowest c) ∷ []) c w refl stands, stands.3);
              fewest = λ ms w about stands outcome. about_one ms c about;
              newest = λ t ms w about stands outcome count. absurd (t refl);
              one = λ e. (shallowest c, refl, d);
              few = let below = alternative_below L.sequences c (shallowest c) d.listed in omega arith;
            }

    pub untouched_none : (c : ℕ) → (untouched_answer L staying f T c ≡ none) ↔ ((w : List Item) → Run L c w → ¬ HasOutcome L staying f w)
    untouched_none c = (there, back)
      where
        there : untouched_answer L staying f T c ≡ none → (w : List Item) → Run L c w → ¬ HasOutcome L staying f w
        there e w run outcome =
            let lt =
            run_ranked L.sequences (unranked L) leaves T reached closed (omega arith) c run
            ((passes_untouched s (item_touch L s f) w).1 outcome) in
            ⊎_elim (λ (l, h). let z : ◌≡◌ {A = ℕ} 0 1 = cc in omega arith) (λ (le, h). omega arith) (untouched_cases c)

        back : ((w : List Item) → Run L c w → ¬ HasOutcome L staying f w) → untouched_answer L staying f T c ≡ none
        back no_run =
            ⊎_elim
            (λ (lt, h). let r = reached c lt in
            absurd (no_run r.run r.derivation ((passes_untouched s (item_touch L s f) r.run).0 r.passes)))
            (λ (le, h). h) (untouched_cases c)

-- what holds of the answers that ask for a touch and of those that ask for none
module _ (L : Library) (c f : ℕ) (P : Question → Answer → Type 0)
    (touching : (q : Question) → q.mark ≢ untouched → (T : Ranks) → Attained (Linked L q f) (unranked L) T
    → Unlowered L.sequences (touch_look L q f) T → ((d : ℕ) → T d ≤ unranked L) → P q (touch_answer L q f T c))
    (leaving : (s : Side) (T : Ranks) → Attained (Passing L.sequences (leaves L s f)) (unranked L) T
    → Unlowered L.sequences (untouched_look L (staying L s f) f) T → ((d : ℕ) → T d ≤ unranked L)
    → P (staying L s f) (untouched_answer L (staying L s f) f T c)) where
  by_touch : (q : Question) → q.mark ≢ untouched → P q (touch_shown L q c f (ranks L.sequences (touch_look L q f) (unranked L)))
  unfolding touch_shown
  by_touch q touch =
      touching q touch (ranks_in L (ranks L.sequences (touch_look L q f) (unranked L)))
      (ranks_reached L.sequences (touch_look L q f) (unranked L) (Linked L q f) (links_reached L q f (unranked L) touch))
      (ranks_closed L.sequences (touch_look L q f) (unranked L))
      (ranks_capped L.sequences (touch_look L q f) (unranked L))

  by_mark : (s : Side) (m : Mark) → P (record { side = s; mark = m }) (answer_for L (record { side = s; mark = m }) c f m)
  unfolding untouched_shown
  by_mark s present = by_touch (record { side = s; mark = present }) present≢untouched
  by_mark s absent = by_touch (record { side = s; mark = absent }) absent≢untouched
  by_mark s untouched =
      leaving s (ranks_in L (ranks L.sequences (untouched_look L (staying L s f) f) (unranked L)))
      (ranks_reached L.sequences (untouched_look L (staying L s f) f) (unranked L) (Passing L.sequences (leaves L s f))
      (depth_reached L.sequences (unranked L) (leaves L s f)))
      (ranks_closed L.sequences (untouched_look L (staying L s f) f) (unranked L))
      (ranks_capped L.sequences (untouched_look L (staying L s f) f) (unranked L))

  by_answer : (q : Question) → P q (answer L q c f)
  unfolding answer
  by_answer q = by_mark q.side q.mark

-- a chain that is answered keeps every promise
pub answer_shows : (L : Library) (q : Question) (c f : ℕ) (ls : Chain) → answer L q c f ≡ shown ls → Shows L q c f ls
answer_shows L q c f =
    by_answer L c f (λ r a. (ls : Chain) → a ≡ shown ls → Shows L r c f ls)
    (λ r touch T reached closed capped. touch_shows L r f touch T reached closed c) (λ s T reached closed capped. untouched_shows L s f T reached closed c) q

-- ""none", exactly when no run has that outcome"
pub answer_none : (L : Library) (q : Question) (c f : ℕ) → (answer L q c f ≡ none) ↔ ((w : List Item) → Run L c w → ¬ HasOutcome L q f w)
answer_none L q c f =
    by_answer L c f (λ r a. (a ≡ none) ↔ ((w : List Item) → Run L c w → ¬ HasOutcome L r f w))
    (λ r touch T reached closed capped. touch_none L r f touch T reached closed c) (λ s T reached closed capped. untouched_none L s f T reached closed c) q

-- Any table of ranks that are reached, that no look lowers and none of which is above `unranked` gives the answer.
pub touch_table : (L : Library) (q : Question) (f : ℕ) → q.mark ≢ untouched → (T : Ranks) → Attained (Linked L q f) (unranked L) T
    → Unlowered L.sequences (touch_look L q f) T → ((d : ℕ) → T d ≤ unranked L) → (c : ℕ) → touch_answer L q f T c ≡ answer L q c f
touch_table L q f touch T reached closed capped c =
    by_answer L c f
    (λ r a. r.mark ≢ untouched → (T : Ranks) → Attained (Linked L r f) (unranked L) T → Unlowered L.sequences (touch_look L r f) T
    → ((d : ℕ) → T d ≤ unranked L) → touch_answer L r f T c ≡ a)
    (λ r t U reached' closed' capped' t' T reached closed capped. ap (λ (W : Ranks). touch_answer L r f W c) (fun_ext (λ d.
    let low = ranks_least (Linked L r f) (unranked L) T U (links_below L r f (unranked L) t T closed) capped reached' d in
    let up = ranks_least (Linked L r f) (unranked L) U T (links_below L r f (unranked L) t U closed') capped' reached d in
    let same : T d ≡ U d = omega arith in
    same)))
    (λ s U reached' closed' capped' t'. absurd (t' refl))
    q touch T reached closed capped

pub untouched_table : (L : Library) (q : Question) (f : ℕ) → q.mark ≡ untouched → (T : Ranks)
    → Attained (Passing L.sequences (has_mark L q f)) (unranked L) T → Unlowered L.sequences (untouched_look L q f) T
    → ((d : ℕ) → T d ≤ unranked L) → (c : ℕ) → untouched_answer L q f T c ≡ answer L q c f
untouched_table L q f leaving T reached closed capped c =
    by_answer L c f
    (λ r a. r.mark ≡ untouched → (T : Ranks) → Attained (Passing L.sequences (has_mark L r f)) (unranked L) T
    → Unlowered L.sequences (untouched_look L r f) T → ((d : ℕ) → T d ≤ unranked L) → untouched_answer L r f T c ≡ a)
    (λ r t U reached' closed' capped' t'. absurd (t t'))
    (λ s U reached' closed' capped' t' T reached closed capped. ap (λ (W : Ranks). untouched_answer L (staying L s f) f W c) (fun_ext (λ d.
    let P = Passing L.sequences (leaves L s f) in
    let low = ranks_least P (unranked L) T U (depth_below L.sequences (unranked L) (leaves L s f) T closed) capped reached' d in
    let up = ranks_least P (unranked L) U T (depth_below L.sequences (unranked L) (leaves L s f) U closed') capped' reached d in
    let same : T d ≡ U d = omega arith in
    same)))
    q leaving T reached closed capped
