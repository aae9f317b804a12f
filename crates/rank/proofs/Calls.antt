-- Ranks by stale sequences: a sequence's rank depends on those that it calls and on no other.
-- Assumes nothing.
use Prim.Native.Nat.{ℕ, suc, ◌≤◌, ◌<◌, min, max}
use native.Mathlib.Omega.{arith}
use native.Mathlib.Decide.{ℕ_discrete}
use mathlib.Core.Path.{◌≡◌, refl, sym, ap, ap₂, ◌∙◌, subst}
use mathlib.Core.Bool.{Bool, true, false, cond, ◌&&◌, false≢true}
use mathlib.Core.List.{List, [], ◌∷◌}
use lib.Dec.{ltb}
use lib.ListN.{length, get_or, set, take}
use lib.Seq.{set-get_or, take-set-lt, drop-set-lt, get_or-set_same, get_or-set_other}
use Rattle.library.specs.Library.{Entry, Alternative}
use Rattle.walk.specs.Walk.{alternatives_at}
use Rattle.general.specs.Tests.{All}
use Rattle.general.specs.Scan.{every}
use Rattle.callers.specs.Callers.{calls}
use Rattle.callers.proofs.Calls.{calls_all}
use Rattle.settling.specs.Settling.{Local}
use Rattle.question.specs.declared.asked.Asked.{Asked}
use Rattle.rank.specs.Walk.{lowered_from, depth_from, fewest_from}
use Rattle.slot.specs.Slots.{item_rank, rank_in, pass_in}
use Rattle.question.specs.Asked.{by_mark}
use Rattle.rank.specs.Tables.{depth_in, every_in, fewest_in, look_in, visited_rank, visited_ranks}

-- ---- what is made of entries depends on what is said of each

depth_same : (none : ℕ) (f g : Entry → ℕ) (d : ℕ) (es : List Entry) → All (λ e. f e ≡ g e) es → depth_from none f d es ≡ depth_from none g d es
unfolding depth_from
depth_same none f g d [] a = refl
depth_same none f g d (e ∷ es) a =
    ap (λ (r : ℕ). cond (ltb r none) (depth_from none f (max d r) es) none) a.0
    ∙ ap (λ (r : ℕ). cond (ltb (g e) none) r none) (depth_same none f g (max d (g e)) es a.1)

every_same : (p q : Entry → Bool) (es : List Entry) → All (λ e. p e ≡ q e) es → every p es ≡ every q es
unfolding every
every_same p q [] a = refl
every_same p q (e ∷ es) a = ap₂ (λ (x y : Bool). x && y) a.0 (every_same p q es a.1)

fewest_same : (none : ℕ) (f g : Entry → ℕ) (ahead behind : Entry → Bool) (floor best : ℕ) (es : List Entry) → All (λ e. f e ≡ g e) es
    → fewest_from none f ahead behind floor best es ≡ fewest_from none g ahead behind floor best es
unfolding fewest_from
fewest_same none f g ahead behind floor best [] a = refl
fewest_same none f g ahead behind floor best (e ∷ es) a =
    ap (λ (r : ℕ). fewest_from none f ahead behind (cond (ahead e) floor none) (min (cond (behind e) best none) (max r floor)) es) a.0
    ∙ fewest_same none f g ahead behind (cond (ahead e) floor none) (min (cond (behind e) best none) (max (g e) floor)) es a.1

lowered_same : (v w : Alternative → ℕ) (r : ℕ) (alts : List Alternative) → All (λ es. v es ≡ w es) alts → lowered_from v r alts ≡ lowered_from w r alts
unfolding lowered_from
lowered_same v w r [] a = refl
lowered_same v w r (es ∷ alts) a =
    ap (λ (x : ℕ). lowered_from v (min r (suc x)) alts) a.0 ∙ lowered_same v w (min r (suc (w es))) alts a.1

-- alternatives that lowered a rank do not lower it again
lowered_min : (v : Alternative → ℕ) (r k : ℕ) (alts : List Alternative) → lowered_from v (min r k) alts ≡ min (lowered_from v r alts) k
unfolding lowered_from
lowered_min v r k [] = refl
lowered_min v r k (es ∷ alts) =
    let swap : min (min r k) (suc (v es)) ≡ min (min r (suc (v es))) k = omega arith in
    ap (λ (x : ℕ). lowered_from v x alts) swap ∙ lowered_min v (min r (suc (v es))) k alts

lowered_again : (v : Alternative → ℕ) (r : ℕ) (alts : List Alternative) → lowered_from v (lowered_from v r alts) alts ≡ lowered_from v r alts
unfolding lowered_from
lowered_again v r [] = refl
lowered_again v r (es ∷ alts) =
    let s = suc (v es) in
    let low = lowered_min v r s alts in
    let once = lowered_min v (lowered_from v (min r s) alts) s alts in
    let twice = ap (λ (x : ℕ). lowered_from v x alts) low in
    let again = lowered_min v (lowered_from v r alts) s alts in
    let rest = lowered_again v r alts in
    omega arith

-- ---- two tables with the same ranks of the items and of the sequences called

module _ (q : Asked) (ahead behind T U : List ℕ) where
  -- an entry has the same rank by both
  abbrev Same : Entry → Type 0
  Same e = (past : ℕ) → rank_in q.none past T e ≡ rank_in q.none past U e

  ranks_same : (past : ℕ) (es : List Entry) → All Same es → All (λ e. rank_in q.none past T e ≡ rank_in q.none past U e) es
  ranks_same past [] a = tt
  ranks_same past (e ∷ es) a = (a.0 past, ranks_same past es a.1)

  pass_same : (es : List Entry) → All Same es → All (λ e. pass_in q.none T e ≡ pass_in q.none U e) es
  pass_same [] a = tt
  pass_same (e ∷ es) a = (ap (λ (r : ℕ). ltb r q.none) (a.0 0), pass_same es a.1)

  look_local : (es : List Entry) → All Same es → look_in q ahead behind T es ≡ look_in q ahead behind U es
  look_local es a =
      let none = q.none in
      let depth = depth_same none (rank_in none 0 T) (rank_in none 0 U) 0 es (ranks_same 0 es a) in
      let run = ap (λ (b : Bool). cond b 0 none) (every_same (pass_in none T) (pass_in none U) es (pass_same es a)) in
      ap₂ (λ (x y : ℕ). by_mark q.mark x y (fewest_in none ahead behind T es)) depth run
      ∙ ap (by_mark q.mark (depth_in none U es) (every_in none U es))
      (fewest_same none (rank_in none none T) (rank_in none none U) (pass_in none ahead) (pass_in none behind) 0 none es (ranks_same none es a))

  looks_local : (alts : List Alternative) → All (All Same) alts → All (λ es. look_in q ahead behind T es ≡ look_in q ahead behind U es) alts
  looks_local [] a = tt
  looks_local (es ∷ alts) a = (look_local es a.0, looks_local alts a.1)

-- ---- a visit depends on those that are called

module _ (q : Asked) (ahead behind part places : List ℕ) where
  abbrev given : List ℕ → ℕ → ℕ → ℕ
  given T r d = lowered_from (look_in q ahead behind T) r (alternatives_at part places d)

  -- what the alternatives of d make of a rank is the same after a rank that d does not call is written
  given_stays : (T : List ℕ) (c d r s : ℕ) → c < q.none → calls part places d c ≡ false → given (set T c s) r d ≡ given T r d
  given_stays T c d r s low apart =
      lowered_same (look_in q ahead behind (set T c s)) (look_in q ahead behind T) r (alternatives_at part places d)
      (looks_local q ahead behind (set T c s) T (alternatives_at part places d)
      (calls_all (Same q ahead behind (set T c s) T)
      (λ x past. ap (λ (items : List ℕ). item_rank past items x) (drop-set-lt q.none T c s low))
      (alternatives_at part places d)
      (λ e called past.
      ap (λ (D : List ℕ). get_or D e q.none) (take-set-lt q.none T c s low)
      ∙ get_or-set_other (take q.none T) c e s q.none
      (λ same. false≢true (sym apart ∙ subst (λ (k : ℕ). calls part places d k ≡ true) same called)))))

  visit_still : (T : List ℕ) (d : ℕ) → visited_rank q ahead behind part places T d ≡ get_or T d q.none → visited_ranks q ahead behind part places T d ≡ T
  visit_still T d e = ap (set T d) e ∙ set-get_or T d q.none

  still_rank : (T : List ℕ) (d : ℕ) → d < length T → visited_ranks q ahead behind part places T d ≡ T
      → visited_rank q ahead behind part places T d ≡ get_or T d q.none
  still_rank T d room e =
      sym (get_or-set_same T d (visited_rank q ahead behind part places T d) q.none room) ∙ ap (λ (U : List ℕ). get_or U d q.none) e

  visit_stays : (T : List ℕ) (c d : ℕ) → c < q.none → d < length T → (d ≡ c → ⊥) → calls part places d c ≡ false
      → visited_ranks q ahead behind part places T d ≡ T
      → visited_ranks q ahead behind part places (visited_ranks q ahead behind part places T c) d ≡ visited_ranks q ahead behind part places T c
  visit_stays T c d low room other apart still =
      let s = visited_rank q ahead behind part places T c in
      let rank = get_or-set_other T c d s q.none other in
      visit_still (set T c s) d
      (given_stays T c d (get_or (set T c s) d q.none) s low apart ∙ ap (λ (r : ℕ). given T r d) rank ∙ still_rank T d room still ∙ sym rank)

  visit_again : (T : List ℕ) (c : ℕ) → c < q.none → c < length T → calls part places c c ≡ false
      → visited_ranks q ahead behind part places (visited_ranks q ahead behind part places T c) c ≡ visited_ranks q ahead behind part places T c
  visit_again T c low room apart =
      let s = visited_rank q ahead behind part places T c in
      let rank = get_or-set_same T c s q.none room in
      visit_still (set T c s) c
      (given_stays T c c (get_or (set T c s) c q.none) s low apart ∙ ap (λ (r : ℕ). given T r c) rank
      ∙ lowered_again (look_in q ahead behind T) (get_or T c q.none) (alternatives_at part places c) ∙ sym rank)

  pub visits_local : (n : ℕ) → n ≤ q.none → Local (visited_ranks q ahead behind part places) (calls part places) n n
  visits_local n low =
      record {
        stays = λ T c d l k room apart still.
            elim (ℕ_discrete d c) [
              | yes same ↦
                  subst (λ (U : List ℕ). visited_ranks q ahead behind part places U d ≡ U)
                  (sym (subst (λ (k : ℕ). visited_ranks q ahead behind part places T k ≡ T) same still)) still
              | no other ↦ visit_stays T c d (omega arith) (omega arith) other apart still
            ];
        again = λ T c l room apart. visit_again T c (omega arith) (omega arith) apart;
      }
