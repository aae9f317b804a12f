-- Nesting depths: a closed table has no rank above the depth of a derivation, one look at an alternative finds only depths that a
-- derivation has, and a rank is at most the number of sequences. The derivations are those of runs all of whose items pass a test:
-- "does not touch the fact", or any item, where the ranked sequences are those with a run.
use Prim.Native.Nat.{ℕ, suc, ◌+◌, ◌≤◌, ◌<◌}
use mathlib.Core.Path.{◌≡◌, refl, sym, ◌∙◌}
use mathlib.Core.Bool.{Bool, true, false, cond, false≢true}
use mathlib.Core.List.{List, [], ◌∷◌, ◌++◌}
use native.Mathlib.Omega.{arith}
use lib.ListN.{length}
use Rattle.library.specs.Library.{Sequence, Entry, item, call, Item}
use Rattle.general.proofs.Bools.{and_parts, and_both}
use Rattle.runs.specs.Run.{RunOf, Gives, nothing, by_item, by_call, alternatives_of, alternative_of}
use Rattle.runs.proofs.Possible.{alternative_below}
use Rattle.general.specs.Scan.{every}
use Rattle.chains.specs.Depth.{deepest, depth_of}
use Rattle.chains.specs.Ranks.{Ranks, Unlowered, Attained, entry_rank, depth_look, Passing}
use Rattle.general.proofs.Scan.{every_append, greatest_reached, Gapless, gapless_bound}

-- the rank of a step that passes is 0, and below `none` only a step that passes has one
pub step_rank_lem : (none : ℕ) (b : Bool) → b ≡ true → cond b 0 none ≡ 0
step_rank_lem none true e = refl
step_rank_lem none false e = absurd (false≢true e)

pub step_passes : (none : ℕ) (b : Bool) → cond b 0 none < none → b ≡ true
step_passes none true lt = refl
step_passes none false lt = absurd (omega arith)

-- joined lists pass exactly when both do
pub append_passes : {A : Type 0} (p : A → Bool) (u v : List A) → every p (u ++ v) ≡ true → (every p u ≡ true) × (every p v ≡ true)
append_passes p u v h = and_parts (every p u) (every p v) (sym (every_append p u v) ∙ h)

pub passes_append : {A : Type 0} (p : A → Bool) (u v : List A) → every p u ≡ true → every p v ≡ true → every p (u ++ v) ≡ true
passes_append p u v h k = every_append p u v ∙ and_both (every p u) (every p v) h k

module _ (S : List Sequence) (none : ℕ) (test : Item → Bool) where
  -- a list that entries give, whose items all pass, by a derivation no deeper than n
  pub record Given (es : List Entry) (n : ℕ) : Type 0 where
    pub list : List Item
    pub derivation : Gives S es list
    pub passes : every test list ≡ true
    pub depth : deepest S derivation ≤ n

  pub given_more : {es : List Entry} {n k : ℕ} → Given es n → n ≤ k → Given es k
  given_more g le =
      let d = g.depth in
      record { list = g.list; derivation = g.derivation; passes = g.passes; depth = omega arith }

  -- a closed table has no rank above the depth of a derivation
  pub depth_least : (T : Ranks) → Unlowered S (depth_look none test) T → {es : List Entry} {w : List Item} (g : Gives S es w) → every test w ≡ true
      → depth_look none test T es ≤ deepest S g
  unfolding depth_look deepest every
  depth_least T closed nothing h = omega arith
  depth_least T closed (by_item {a = a} {w = w} g) h =
      let p = and_parts (test a) (every test w) h in
      let e = step_rank_lem none (test a) p.0 in
      let r = depth_least T closed g p.1 in
      omega arith
  depth_least T closed (by_call {c = c} {u = u} {v = v} i lt g g' e) h =
      let p = append_passes test u v (rw e at h) in
      let here = depth_least T closed g p.0 in
      let rest = depth_least T closed g' p.1 in
      let c_le = closed c i lt in
      omega arith

  pub depth_below : (T : Ranks) → Unlowered S (depth_look none test) T → (c n : ℕ) → Passing S test c n → T c ≤ n
  depth_below T closed c n r =
      let low = depth_least T closed r.derivation.given r.passes in
      let up = closed c r.derivation.alternative r.derivation.listed in
      let d = r.depth in
      omega arith

  -- one look at entries finds only a depth that a derivation has
  pub depth_given : (T : Ranks) → Attained (Passing S test) none T → (es : List Entry) → depth_look none test T es < none
      → Given es (depth_look none test T es)
  unfolding depth_look deepest every
  depth_given T reached [] lt = record { list = []; derivation = nothing; passes = refl; depth = omega arith }
  depth_given T reached (item a ∷ es) lt =
      let r = depth_given T reached es (omega arith) in
      let d = r.depth in
      record {
        list = a ∷ r.list;
        derivation = by_item r.derivation;
        passes = and_both (test a) (every test r.list) (step_passes none (test a) (omega arith)) r.passes;
        depth = omega arith;
      }
  depth_given T reached (call c ∷ es) lt =
      let r = depth_given T reached es (omega arith) in
      let s = reached c (omega arith) in
      let d = r.depth in
      let d' = s.depth in
      record {
        list = s.run ++ r.list;
        derivation = by_call s.derivation.alternative s.derivation.listed s.derivation.given r.derivation refl;
        passes = passes_append test s.run r.list s.passes r.passes;
        depth = omega arith;
      }

  -- and so at a sequence
  pub depth_reached : (T : Ranks) → Attained (Passing S test) none T → (c i : ℕ) → i < length (alternatives_of S c)
      → suc (depth_look none test T (alternative_of S c i)) < none → Passing S test c (suc (depth_look none test T (alternative_of S c i)))
  depth_reached T reached c i lt low =
      let r = depth_given T reached (alternative_of S c i) (omega arith) in
      let d = r.depth in
      record {
        run = r.list;
        derivation = record { alternative = i; listed = lt; given = r.derivation };
        passes = r.passes;
        depth = omega arith;
      }

  -- Below: a table all of whose ranks are reached and that no look lowers.
  module _ (T : Ranks) (reached : Attained (Passing S test) none T) (closed : Unlowered S (depth_look none test) T) where
    -- a rank is the least depth
    pub depth_exact : (c : ℕ) (lt : T c < none) → (T c ≡ depth_of S (reached c lt).derivation)
        × (T c ≡ suc (depth_look none test T (alternative_of S c (reached c lt).derivation.alternative)))
    depth_exact c lt =
        let r = reached c lt in
        let d = r.depth in
        let low = depth_least T closed r.derivation.given r.passes in
        let up = closed c r.derivation.alternative r.derivation.listed in
        (omega arith, omega arith)

    depth_gapless : Gapless T none (length S)
    unfolding depth_look
    depth_gapless =
        record {
          index = λ c lt. alternative_below S c (reached c lt).derivation.alternative (reached c lt).derivation.listed;
          next = next;
        }
      where
        entry : (k : ℕ) → suc (suc k) < none → (e : Entry) → entry_rank none test T e ≡ suc k → (d : ℕ) × (T d ≡ suc k)
        entry k lt (call d) e = (d, e)
        entry k lt (item a) e = let z = step_rank_lem none (test a) (step_passes none (test a) (omega arith)) in absurd (omega arith)

        next : (c k : ℕ) → T c < none → T c ≡ suc (suc k) → (d : ℕ) × (T d ≡ suc k)
        next c k lt e =
            let x = (depth_exact c lt).1 in
            let g = greatest_reached (entry_rank none test T) (alternative_of S c (reached c lt).derivation.alternative) k (omega arith) in
            entry k (omega arith) g.0 g.1

    -- a rank is at most the number of sequences
    pub depth_bound : (c : ℕ) → T c < none → T c ≤ length S
    depth_bound = gapless_bound T none (length S) depth_gapless

    -- every sequence with such a run has a rank
    module _ (room : length S + 2 ≤ none) where
      given_ranked : {es : List Entry} {w : List Item} → Gives S es w → every test w ≡ true → depth_look none test T es ≤ length S
      unfolding depth_look every
      given_ranked nothing h = omega arith
      given_ranked (by_item {a = a} {w = w} g) h =
          let p = and_parts (test a) (every test w) h in
          let e = step_rank_lem none (test a) p.0 in
          let r = given_ranked g p.1 in
          omega arith
      given_ranked (by_call {c = c} {u = u} {v = v} i lt g g' e) h =
          let p = append_passes test u v (rw e at h) in
          let here = given_ranked g p.0 in
          let rest = given_ranked g' p.1 in
          let low = closed c i lt in
          let le = depth_bound c (omega arith) in
          omega arith

      pub run_ranked : (c : ℕ) {w : List Item} → RunOf S c w → every test w ≡ true → T c < none
      run_ranked c r h =
          let low = closed c r.alternative r.listed in
          let le = given_ranked r.given h in
          omega arith
