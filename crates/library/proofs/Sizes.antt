-- The sizes of an accepted image's library: each list is read off the words after its opener, and there are few words.
-- Assumes nothing.
use Prim.Native.Nat.{ℕ, zero, suc, ◌-◌, ◌≤◌}
use native.Mathlib.Omega.{arith}
use mathlib.Core.Path.{◌≡◌}
use mathlib.Core.Bool.{Bool, true, false, cond}
use mathlib.Core.List.{List, [], ◌∷◌}
use lib.ListN.{length, get_or}
use Rattle.image.specs.Word.{is_kind, is_entry}
use Rattle.library.specs.Library.{entries_from, alternatives_from, sequences_from, sequences_part, library_of}
use Rattle.rules.specs.Checked.{checked}
use Rattle.library.specs.Accepted.{Small}
use Rattle.image.specs.declared.answer.Head.{Head}
use Rattle.library.proofs.Decode.{entries_short, alternatives_short}
use Rattle.library.proofs.Accepted.{faultless, parts, counted}
use Rattle.std.specs.Prelude.{Ok}

-- each alternative of a sequence
entries_in : (ws : List ℕ) (i : ℕ) → length (get_or (alternatives_from ws) i []) ≤ length ws
unfolding alternatives_from
entries_in [] i = omega arith
entries_in (w ∷ ws) i = go (is_kind 7 w) (is_entry w) i (entries_in ws)
  where
    go : (a b : Bool) (j : ℕ) → ((k : ℕ) → length (get_or (alternatives_from ws) k []) ≤ length ws)
        → length (get_or (cond a (entries_from ws ∷ alternatives_from ws) (cond b (alternatives_from ws) [])) j []) ≤ suc (length ws)
    go true b zero l = omega (arith, entries_short ws)
    go true b (suc j) l = omega (arith, l j)
    go false true j l = omega (arith, l j)
    go false false j l = omega arith

-- each sequence: its opener is one of the words
alternatives_in : (ws : List ℕ) (c : ℕ) → length (get_or (sequences_from ws) c []) ≤ length ws - 1
unfolding sequences_from
alternatives_in [] c = omega arith
alternatives_in (w ∷ ws) c = go (is_kind 6 w) c (alternatives_in ws)
  where
    go : (a : Bool) (d : ℕ) → ((k : ℕ) → length (get_or (sequences_from ws) k []) ≤ length ws - 1)
        → length (get_or (cond a (alternatives_from ws ∷ sequences_from ws) (sequences_from ws)) d []) ≤ suc (length ws) - 1
    go true zero l = omega (arith, alternatives_short ws)
    go true (suc d) l = omega (arith, l d)
    go false d l = omega (arith, l d)

entries_within : (ws : List ℕ) (c i : ℕ) → length (get_or (get_or (sequences_from ws) c []) i []) ≤ length ws - 1
unfolding sequences_from
entries_within [] c i = omega arith
entries_within (w ∷ ws) c i = go (is_kind 6 w) c (λ k. entries_within ws k i)
  where
    go : (a : Bool) (d : ℕ) → ((k : ℕ) → length (get_or (get_or (sequences_from ws) k []) i []) ≤ length ws - 1)
        → length (get_or (get_or (cond a (alternatives_from ws ∷ sequences_from ws) (sequences_from ws)) d []) i []) ≤ suc (length ws) - 1
    go true zero l = omega (arith, entries_in ws i)
    go true (suc d) l = omega (arith, l d)
    go false d l = omega (arith, l d)

pub small : (image : List ℕ) (h : Head) → checked image ≡ Ok h → Small (library_of image)
unfolding library_of
small image h accepted =
    let short = (parts image h accepted).sequences_short in
    record {
      sequences = omega (arith, (counted image h accepted).sequences, (faultless image h accepted).sequences_high);
      alternatives = λ c. omega (arith, alternatives_in (sequences_part image) c);
      entries = λ c i. omega (arith, entries_within (sequences_part image) c i);
    }
