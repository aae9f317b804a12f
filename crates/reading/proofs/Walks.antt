-- The rows that the loops over a sequence's words make: which entries are dead, by their rows, and alternatives without entries.
-- Assumes nothing.
use Prim.Native.Nat.{ℕ, zero, suc, ◌+◌, ◌-◌, ◌≤◌}
use native.Mathlib.Omega.{arith}
use mathlib.Core.Path.{◌≡◌, refl, sym, ap, ◌∙◌, subst}
use mathlib.Core.Bool.{Bool, true, false, cond, not}
use mathlib.Core.List.{List, [], ◌∷◌, ◌++◌}
use lib.ListN.{length, get_or, drop, replicate}
use lib.Dec.{ltb}
use borrow.Author.Tests.{eqb-true, lt-ltb}
use Rattle.image.specs.Word.{kind, payload, is_kind, is_entry}
use Rattle.library.specs.Library.{Entry, step, check, item, call, entry_of, Alternative, alternatives_from}
use Rattle.walk.specs.Walk.{walk_end}
use Rattle.walk.proofs.Walking.{opener_inside, entries_at, alternatives_at_lem, Walking, walking_here, Leaving, leaving_turn, leaving_rest, leaving_dead}
use Rattle.row.specs.Words.{no_row, start_row, join_rows, or_rows, row_in}
use Rattle.reading.specs.Walks.{RowWithin, is_dead, entry_in, joined_from, united_from, EmptiesEnd}
use Rattle.row.specs.declared.words.Row.{Row}
use Rattle.reading.specs.declared.read.Block.{Block}
use Rattle.row.proofs.Bits.{rows_again}

-- an entry in whose row no run is found names a sequence, since a run is found in the row of a step and in that of a check
pub dead_is : (b : Block) (steps table : List ℕ) (w : ℕ) → RowWithin steps table w → is_entry w ≡ true
    → is_dead table (entry_of w) ≡ not (ltb 0 (entry_in b steps table (entry_of w)).run)
dead_is b steps table w within e = go (is_kind 8 w) (is_kind 13 w) refl refl
  where
    go : (a d : Bool) → is_kind 8 w ≡ a → is_kind 13 w ≡ d
        → let x : Entry = cond a (item (step (payload w))) (cond d (item (check (payload w))) (call (payload w))) in
        is_dead table x ≡ not (ltb 0 (entry_in b steps table x).run)
    go true d k m = sym (ap not (lt-ltb 0 (row_in steps (payload w)).run (within.run (eqb-true (kind w) 8 k))))
    go false true k m = refl
    go false false k m = refl

-- an entry joined to what stands before it, where it is not dead, and nothing where it is
module _ (b : Block) (steps table : List ℕ) (X : Row) (e : Entry) (es : List Entry) where
  joined_live : is_dead table e ≡ false → joined_from b steps table X (e ∷ es) ≡ joined_from b steps table (join_rows X (entry_in b steps table e)) es
  unfolding joined_from
  joined_live live = ap (λ (t : Bool). cond t no_row (joined_from b steps table (join_rows X (entry_in b steps table e)) es)) live

  joined_dead : is_dead table e ≡ true → joined_from b steps table X (e ∷ es) ≡ no_row
  unfolding joined_from
  joined_dead dead = ap (λ (t : Bool). cond t no_row (joined_from b steps table (join_rows X (entry_in b steps table e)) es)) dead

-- an entry that stands in an alternative of which none so far is dead
module _ (b : Block) (steps table : List ℕ) (X : Row) {part : List ℕ} {whole : Row} {at i : ℕ}
    (here : Leaving part whole (is_dead table) at (joined_from b steps table X) i) (e : is_entry (get_or part i 0) ≡ true) where
  pub live_turn : {Y Z : Row} → Z ≡ join_rows X Y → Y ≡ entry_in b steps table (entry_of (get_or part i 0)) → is_dead table (entry_of (get_or part i 0)) ≡ false
      → Leaving part whole (is_dead table) at (joined_from b steps table Z) (i + 1)
  live_turn z y live =
      subst (λ (R : Row). Leaving part whole (is_dead table) at (joined_from b steps table R) (i + 1)) (sym (z ∙ ap (join_rows X) y))
      (leaving_turn here e live (joined_live b steps table X _ _ live))

  pub dead_end : {N : Row} → N ≡ no_row → is_dead table (entry_of (get_or part i 0)) ≡ true → (N ≡ whole) × (i ≡ walk_end (is_dead table) part at)
  dead_end none dead = (none ∙ sym (joined_dead b steps table X _ _ dead) ∙ leaving_rest here e, leaving_dead here e dead)

-- ---- alternatives without entries

empties_more : (n : ℕ) (alts : List Alternative) → replicate n [] ++ ([] ∷ alts) ≡ replicate (suc n) [] ++ alts
empties_more zero alts = refl
empties_more (suc n) alts = ap (λ (rest : List Alternative). [] ∷ rest) (empties_more n alts)

-- an alternative whose next word is no entry
empty_at : (part : List ℕ) (i : ℕ) → is_kind 7 (get_or part i 0) ≡ true → is_entry (get_or part (i + 1) 0) ≡ false
    → alternatives_from (drop i part) ≡ [] ∷ alternatives_from (drop (i + 1) part)
empty_at part i e none =
    alternatives_at_lem part i true (is_entry (get_or part i 0)) e refl
    ∙ ap (λ (es : Alternative). es ∷ alternatives_from (drop (i + 1) part)) (entries_at part (i + 1) false none)

pub empties_start : (part : List ℕ) (at : ℕ) → at ≤ length part → EmptiesEnd part at at
empties_start part at l =
    let none : at - at ≡ 0 = omega arith in
    record { low = omega arith; within = l; empties = ap (λ (n : ℕ). replicate n [] ++ alternatives_from (drop at part)) (sym none) }

pub empties_turn : {part : List ℕ} {at i : ℕ} → EmptiesEnd part at i → is_kind 7 (get_or part i 0) ≡ true → is_entry (get_or part (i + 1) 0) ≡ false
    → EmptiesEnd part at (i + 1)
empties_turn {part} {at} {i} here e none =
    let more : suc (i - at) ≡ i + 1 - at = omega (arith, here.low) in
    record {
      low = omega (arith, here.low);
      within = omega (arith, opener_inside part i e);
      empties =
          here.empties ∙ ap (λ (alts : List Alternative). replicate (i - at) [] ++ alts) (empty_at part i e none)
          ∙ empties_more (i - at) (alternatives_from (drop (i + 1) part))
          ∙ ap (λ (n : ℕ). replicate n [] ++ alternatives_from (drop (i + 1) part)) more;
    }

module _ (b : Block) (steps table : List ℕ) where
  abbrev empty : Row
  empty = start_row b.all

  -- a row that has the empty alternative's already
  united_empties : (X : Row) (n : ℕ) (alts : List Alternative) → or_rows X empty ≡ X
      → united_from b steps table X (replicate n [] ++ alts) ≡ united_from b steps table X alts
  unfolding united_from joined_from
  united_empties X zero alts has = refl
  united_empties X (suc n) alts has =
      ap (λ (Y : Row). united_from b steps table Y (replicate n [] ++ alts)) has ∙ united_empties X n alts has

  -- an alternative without entries, and those after it
  pub uniting_empties : {part : List ℕ} {whole : Row} (x : Row) {i r : ℕ} → Walking part whole (united_from b steps table x) i → is_kind 7 (get_or part i 0) ≡ true
      → is_entry (get_or part (i + 1) 0) ≡ false → EmptiesEnd part (i + 1) r → Walking part whole (united_from b steps table (or_rows x (start_row b.all))) r
  unfolding united_from joined_from
  uniting_empties {part} x {i} {r} here e none ends =
      let y = or_rows x empty in
      record {
        within = ends.within;
        same =
            sym (united_empties y (r - (i + 1)) (alternatives_from (drop r part)) (rows_again x empty))
            ∙ ap (united_from b steps table y) (sym ends.empties)
            ∙ ap (λ (es : Alternative). united_from b steps table x (es ∷ alternatives_from (drop (i + 1) part))) (sym (entries_at part (i + 1) false none))
            ∙ walking_here here e;
      }
