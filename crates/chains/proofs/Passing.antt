-- Whether a sequence has a run all of whose items pass a test: ranks by a look that asks only whether all entries pass say so, where they are
-- reached and no look lowers them.
use Prim.Native.Nat.{ℕ, suc, ◌<◌}
use mathlib.Core.Path.{◌≡◌, refl, ap}
use mathlib.Core.Logic.{◌↔◌}
use mathlib.Core.Bool.{Bool, true, false, cond}
use mathlib.Core.List.{List}
use native.Mathlib.Omega.{arith}
use lib.ListN.{length}
use lib.Dec.{ltb}
use borrow.Author.Tests.{ltb-true, lt-ltb}
use Rattle.library.specs.Library.{Sequence, Entry, Item}
use Rattle.general.proofs.Bools.{and_parts, and_both, both_ways}
use Rattle.runs.specs.Run.{RunOf, Gives, nothing, by_item, by_call, alternatives_of, alternative_of}
use Rattle.general.specs.Scan.{every}
use Rattle.chains.specs.Ranks.{Ranks, Unlowered, Attained, entry_passes, pass_look}
use Rattle.chains.proofs.Depth.{append_passes}
use Rattle.chains.proofs.Entries.{passes_given}

module _ (S : List Sequence) (none : ℕ) (test : Item → Bool) where
  -- the sequence has such a run, whatever the rank
  abbrev pub Passable : ℕ → ℕ → Type 0
  Passable c n = (w : List Item) × RunOf S c w × (every test w ≡ true)

  abbrev pass : Ranks → Entry → Bool
  pass T = entry_passes test (λ d. ltb (T d) none)

  -- one look at an alternative finds only what is so
  pub pass_reached : (T : Ranks) → Attained Passable none T → (c i : ℕ) → i < length (alternatives_of S c)
      → suc (pass_look none test T (alternative_of S c i)) < none → Passable c (suc (pass_look none test T (alternative_of S c i)))
  unfolding pass_look
  pass_reached T reached c i lt low = go (every (pass T) (alternative_of S c i)) refl low
    where
      go : (b : Bool) → every (pass T) (alternative_of S c i) ≡ b → suc (cond b 0 none) < none → (w : List Item) × RunOf S c w × (every test w ≡ true)
      go true e l =
          let g =
          passes_given S test (λ d. ltb (T d) none) (λ d h. reached d (ltb-true (T d) none h)) (alternative_of S c i) e in
          (g.0, record { alternative = i; listed = lt; given = g.1 }, g.2)
      go false e l = absurd (omega arith)

  -- a table that no look lowers has a rank for each sequence with such a run
  module _ (T : Ranks) (closed : Unlowered S (pass_look none test) T) (room : 1 < none) where
    passed_low : (c i : ℕ) → i < length (alternatives_of S c) → every (pass T) (alternative_of S c i) ≡ true → T c < none
    unfolding pass_look
    passed_low c i lt e = let low = closed c i lt in let zero_look = ap (λ (b : Bool). cond b 0 none) e in omega arith

    given_passed : {es : List Entry} {w : List Item} → Gives S es w → every test w ≡ true → every (pass T) es ≡ true
    unfolding every
    given_passed nothing h = refl
    given_passed (by_item {a = a} {es = es} {w = w} g) h =
        let p = and_parts (test a) (every test w) h in
        and_both (test a) (every (pass T) es) p.0 (given_passed g p.1)
    given_passed (by_call {c = c} {es = es} {u = u} {v = v} i lt g g' e) h =
        let p = append_passes test u v (rw e at h) in
        and_both (ltb (T c) none) (every (pass T) es) (lt-ltb (T c) none (passed_low c i lt (given_passed g p.0))) (given_passed g' p.1)

    pub pass_exact : Attained Passable none T → (c : ℕ) (b : Bool) → ((b ≡ true) ↔ ((w : List Item) × RunOf S c w × (every test w ≡ true))) → ltb (T c) none ≡ b
    pass_exact reached c b right =
        both_ways (ltb (T c) none) b (λ e. right.1 (reached c (ltb-true (T c) none e)))
        (λ e. let r = right.0 e in lt-ltb (T c) none (passed_low c r.1.alternative r.1.listed (given_passed r.1.given r.2)))
