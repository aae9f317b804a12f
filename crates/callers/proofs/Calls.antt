-- Calls: what holds of the items, and of the sequences that alternatives call, holds of each of their entries; and the calls that are left
-- from an index of the words on.
-- Assumes nothing.
use Prim.Native.Nat.{ℕ, ◌+◌, ◌≤◌}
use mathlib.Core.Path.{◌≡◌, refl, sym, ap, ap₂, ◌∙◌}
use mathlib.Core.Bool.{Bool, true, false, ◌||◌, false≢true}
use mathlib.Core.Logic.{inl, inr, ⊎_elim}
use mathlib.Core.List.{List, [], ◌∷◌}
use lib.Dec.{eqb}
use lib.ListN.{length, get_or, drop, get_or-eq_default}
use borrow.Author.Tests.{eq-eqb}
use Rattle.image.specs.Word.{payload, is_kind, is_entry}
use Rattle.image.proofs.Words.{entry_of_lem}
use Rattle.library.specs.Library.{Item, step, check, Entry, item, call, entry_of, Alternative, entries_from, alternatives_from}
use Rattle.library.proofs.Decode.{kind_is, step_entry, check_entry, call_entry, entry_opens_none}
use Rattle.walk.specs.Walk.{entries_end}
use Rattle.walk.proofs.Walking.{entries_at, alternatives_at_lem, end_skips, end_ends}
use Rattle.general.specs.Tests.{All, some}
use Rattle.general.proofs.Bools.{or_left, or_right, or_cases, nor_left, nor_right}
use Rattle.library.specs.Calls.{is_call_of, calls_of}
use Rattle.callers.specs.Callees.{calls_left}

-- ---- something of each entry

module _ (P : Entry → Type 0) (items : (x : Item) → P (item x)) where
  entries_called : (es : List Entry) → ((d : ℕ) → some (is_call_of d) es ≡ true → P (call d)) → All P es
  unfolding some
  entries_called [] holds = tt
  entries_called (item x ∷ es) holds = (items x, entries_called es (λ d e. holds d e))
  entries_called (call c ∷ es) holds = (
    holds c (or_left (eqb c c) (some (is_call_of c) es) (eq-eqb c c refl)),
    entries_called es (λ d e. holds d (or_right (eqb c d) (some (is_call_of d) es) e)),
  )

  pub calls_all : (alts : List Alternative) → ((d : ℕ) → calls_of alts d ≡ true → P (call d)) → All (All P) alts
  unfolding some
  calls_all [] holds = tt
  calls_all (es ∷ alts) holds = (
    entries_called es (λ d e. holds d (or_left (some (is_call_of d) es) (calls_of alts d) e)),
    calls_all alts (λ d e. holds d (or_right (some (is_call_of d) es) (calls_of alts d) e)),
  )

-- ---- the calls that are left from an index on

left_by : (part : List ℕ) (i d : ℕ) {es : List Entry} {alts : List Alternative} → entries_from (drop i part) ≡ es → alternatives_from (drop i part) ≡ alts
    → calls_left part i d ≡ (some (is_call_of d) es || calls_of alts d)
left_by part i d = ap₂ (λ (es : List Entry) (alts : List Alternative). some (is_call_of d) es || calls_of alts d)

-- after the entries that stand from index `at` on, all calls of the alternatives from there on are left
pub left_start : (part : List ℕ) (at i d : ℕ) → i ≡ entries_end part at → calls_left part i d ≡ calls_of (alternatives_from (drop at part)) d
unfolding some
left_start part at i d e = ap (λ (k : ℕ). calls_left part k d) e ∙ left_by part (entries_end part at) d (end_ends part at) (sym (end_skips part at))

module _ (part : List ℕ) (i d : ℕ) where
  abbrev w : ℕ
  w = get_or part i 0

  or_assoc : (x y z : Bool) → ((x || y) || z) ≡ (x || (y || z))
  or_assoc true y z = refl
  or_assoc false y z = refl

  -- an entry
  left_entry : is_entry w ≡ true → calls_left part i d ≡ (is_call_of d (entry_of w) || calls_left part (i + 1) d)
  unfolding some
  left_entry e =
      left_by part i d (entries_at part i true e) (alternatives_at_lem part i false true (entry_opens_none w e) e)
      ∙ or_assoc (is_call_of d (entry_of w)) (some (is_call_of d) (entries_from (drop (i + 1) part))) (calls_of (alternatives_from (drop (i + 1) part)) d)

  left_item : is_entry w ≡ true → (x : Item) → entry_of w ≡ item x → calls_left part (i + 1) d ≡ calls_left part i d
  left_item e x is = sym (left_entry e ∙ ap (λ (y : Entry). is_call_of d y || calls_left part (i + 1) d) is)

  -- an alternative
  left_opener : is_kind 7 w ≡ true → calls_left part (i + 1) d ≡ calls_left part i d
  unfolding some
  left_opener e = go (is_entry w) refl
    where
      go : (b : Bool) → is_entry w ≡ b → calls_left part (i + 1) d ≡ calls_left part i d
      go true f = absurd (false≢true (sym (entry_opens_none w f) ∙ e))
      go false f = sym (left_by part i d (entries_at part i false f) (alternatives_at_lem part i true false e f))

  -- neither
  left_none : is_kind 7 w ≡ false → is_entry w ≡ false → calls_left part i d ≡ false
  unfolding some
  left_none e f = left_by part i d (entries_at part i false f) (alternatives_at_lem part i false false e f)

  -- a call
  pub left_call : is_kind 9 w ≡ true → calls_left part i d ≡ (eqb (payload w) d || calls_left part (i + 1) d)
  left_call nine =
      let k = kind_is 9 w nine in
      left_entry (entry_of_lem w (inr (inl k))) ∙ ap (λ (y : Entry). is_call_of d y || calls_left part (i + 1) d) (call_entry w k)

  -- the opener of an alternative, or an item
  pub left_on : is_kind 7 w || is_kind 8 w || is_kind 13 w ≡ true → calls_left part (i + 1) d ≡ calls_left part i d
  left_on inside =
      ⊎_elim
      (λ (on : is_kind 7 w || is_kind 8 w ≡ true).
      ⊎_elim left_opener
      (λ eight. let k = kind_is 8 w eight in left_item (entry_of_lem w (inl k)) (step (payload w)) (step_entry w k)) (or_cases (is_kind 7 w) (is_kind 8 w) on))
      (λ thirteen. let k = kind_is 13 w thirteen in left_item (entry_of_lem w (inr (inr k))) (check (payload w)) (check_entry w k))
      (or_cases (is_kind 7 w || is_kind 8 w) (is_kind 13 w) inside)

  -- another word, or the end of the words
  pub left_out : is_kind 9 w ≡ false → is_kind 7 w || is_kind 8 w || is_kind 13 w ≡ false → calls_left part i d ≡ false
  left_out nine outside =
      let early = nor_left (is_kind 7 w || is_kind 8 w) (is_kind 13 w) outside in
      let none : is_entry w ≡ false = rw (nor_right (is_kind 7 w) (is_kind 8 w) early, nine, nor_right (is_kind 7 w || is_kind 8 w) (is_kind 13 w) outside) in
      left_none (nor_left (is_kind 7 w) (is_kind 8 w) early) none

  pub left_past : length part ≤ i → calls_left part i d ≡ false
  left_past past =
      let zero_word = get_or-eq_default part 0 {n = i} past in
      left_none (ap (is_kind 7) zero_word) (ap is_entry zero_word)
