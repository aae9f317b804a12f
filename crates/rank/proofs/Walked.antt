-- What a walk over entries comes to, by what its turns say: what is known at the start and the entries from there on are worth what is known at the
-- end and those that are left.
-- Assumes nothing.
use Prim.Native.Nat.{ℕ, ◌+◌}
use mathlib.Core.Path.{◌≡◌, refl, sym, ap, ◌∙◌, subst}
use mathlib.Core.Bool.{Bool, true, false, cond}
use mathlib.Core.List.{List, [], ◌∷◌}
use lib.ListN.{get_or, drop}
use Rattle.std.specs.Prelude.{Option, Some, None, Result, Ok, Err}
use Rattle.image.specs.Word.{is_entry}
use Rattle.library.specs.Library.{Entry, entry_of, entries_from}
use Rattle.walk.specs.Walk.{walk_end}
use Rattle.walk.proofs.Walking.{entries_at, walk_out, walk_dead, walk_next}
use Rattle.walk.specs.Entries.{Walked, out, left, on}
use Rattle.rank.specs.Tables.{AlternativeRanked}

-- at the end, by how the walk ended: after the last entry, or at one that fails the test
module _ {A : Type 0} (part : List ℕ) (test : Entry → Bool) (worth : A → List Entry → ℕ) (dead : Entry → Bool) where
  abbrev pub Ended : A → ℕ → Result A A → ℕ → Type 0
  Ended a i (Ok b) e = (worth a (entries_from (drop i part)) ≡ worth b []) × (e ≡ walk_end dead part i)
  Ended a i (Err b) e =
      (worth a (entries_from (drop i part)) ≡ worth b (entries_from (drop e part))) × (walk_end dead part e ≡ walk_end dead part i)
      × (is_entry (get_or part e 0) ≡ true) × (test (entry_of (get_or part e 0)) ≡ false)

-- the walk goes on at an entry that passes a test, where `next` is known after it, and is left at one that doesn't
module _ {A : Type 0} (turn : A → ℕ → Option A → Type 0) (part : List ℕ) (test : Entry → Bool) (next : A → Entry → A)
    (says : (a : A) (w : ℕ) (r : Option A) → is_entry w ≡ true → turn a w r → r ≡ cond (test (entry_of w)) (Some (next a (entry_of w))) None)
    (worth : A → List Entry → ℕ) (dead : Entry → Bool) (alive : (e : Entry) → test e ≡ true → dead e ≡ false)
    (goes : (a : A) (e : Entry) (es : List Entry) → test e ≡ true → worth a (e ∷ es) ≡ worth (next a e) es) where
  -- what a turn says
  went : (a b : A) (w : ℕ) → is_entry w ≡ true → turn a w (Some b) → (test (entry_of w) ≡ true) × (b ≡ next a (entry_of w))
  went a b w entry told = go (test (entry_of w)) refl (says a w (Some b) entry told)
    where
      go : (t : Bool) → test (entry_of w) ≡ t → ◌≡◌ {A = Option A} (Some b) (cond t (Some (next a (entry_of w))) None)
          → (test (entry_of w) ≡ true) × (b ≡ next a (entry_of w))
      go true passes e = (passes, cc)
      go false passes e = cc

  stopped : (a : A) (w : ℕ) → is_entry w ≡ true → turn a w None → test (entry_of w) ≡ false
  stopped a w entry told = go (test (entry_of w)) refl (says a w None entry told)
    where
      go : (t : Bool) → test (entry_of w) ≡ t → ◌≡◌ {A = Option A} None (cond t (Some (next a (entry_of w))) None) → test (entry_of w) ≡ false
      go true passes e = cc
      go false passes e = passes

  pub walk_read : {a : A} {i : ℕ} {r : Result A A} {e : ℕ} → Walked turn part a i r e → Ended part test worth dead a i r e
  walk_read {a} {i} {r} {e} (out none known at) =
      subst (λ (s : Result A A). Ended part test worth dead a i s e) (sym known) (ap (worth a) (entries_at part i false none), at ∙ walk_out part i dead none)
  walk_read {a} {i} {r} {e} (left entry told known at) =
      subst (λ (s : Result A A). Ended part test worth dead a i s e) (sym known)
      (subst (λ (j : ℕ). Ended part test worth dead a i (Err a) j) (sym at) (refl, refl, entry, stopped a (get_or part i 0) entry told))
  walk_read {a} {i} {r} {e} (on {b = b} entry told rest) = further r (walk_read rest)
    where
      turned : (test (entry_of (get_or part i 0)) ≡ true) × (b ≡ next a (entry_of (get_or part i 0)))
      turned = went a b (get_or part i 0) entry told

      same : worth a (entries_from (drop i part)) ≡ worth b (entries_from (drop (i + 1) part))
      same =
          ap (worth a) (entries_at part i true entry) ∙ goes a (entry_of (get_or part i 0)) (entries_from (drop (i + 1) part)) turned.0
          ∙ ap (λ (k : A). worth k (entries_from (drop (i + 1) part))) (sym turned.1)

      end : walk_end dead part (i + 1) ≡ walk_end dead part i
      end = walk_next part i dead entry (alive (entry_of (get_or part i 0)) turned.0)

      further : (s : Result A A) → Ended part test worth dead b (i + 1) s e → Ended part test worth dead a i s e
      further (Ok k) ended = (same ∙ ended.0, ended.1 ∙ end)
      further (Err k) ended = (same ∙ ended.0, ended.1 ∙ end, ended.2, ended.3)

  -- where the entry that leaves the walk is dead, and there is no rank from it on
  module _ (none : ℕ) (dies : (a : A) (e : Entry) (es : List Entry) → test e ≡ false → (dead e ≡ true) × (worth a (e ∷ es) ≡ none))
      (value : Result A A → ℕ) (at_end : (a : A) → value (Ok a) ≡ worth a []) (at_dead : (a : A) → value (Err a) ≡ none) where
    pub walk_ranked : {a : A} {i : ℕ} {r : Result A A} {e : ℕ} → Walked turn part a i r e
        → AlternativeRanked (worth a) dead part i (record { value = value r; ended = e })
    walk_ranked {a} {i} {r} {e} walked = go r (walk_read walked)
      where
        go : (s : Result A A) → Ended part test worth dead a i s e → AlternativeRanked (worth a) dead part i (record { value = value s; ended = e })
        go (Ok b) ended = record { value = at_end b ∙ sym ended.0; ended = ended.1 }
        go (Err b) ended =
            let dead_there = dies b (entry_of (get_or part e 0)) (entries_from (drop (e + 1) part)) ended.3 in
            record {
              value = at_dead b ∙ sym dead_there.1 ∙ sym (ap (worth b) (entries_at part e true ended.2)) ∙ sym ended.0;
              ended = walk_dead part e dead ended.2 dead_there.0 ∙ ended.1;
            }
