-- The word of an entry in a table of ranks.
-- Assumes nothing.
use Prim.Native.Nat.{ℕ, ◌+◌, ◌<◌}
use native.Mathlib.Omega.{arith}
use mathlib.Core.Path.{◌≡◌, refl, sym, ap, ◌∙◌}
use mathlib.Core.Logic.{⊎_elim}
use mathlib.Core.Bool.{Bool, true, false, cond}
use mathlib.Core.List.{List}
use lib.ListN.{length, get_or, drop}
use lib.Seq.{get_or-take, get_or-drop}
use Rattle.image.specs.Word.{most_facts, kind, payload, is_kind, is_entry}
use Rattle.library.specs.Library.{step, check, Entry, item, call, entry_of}
use Rattle.library.proofs.Decode.{step_entry, check_entry, call_entry}
use Rattle.image.proofs.Words.{entry_cases}
use Rattle.slot.specs.Slots.{entry_number, slot_of, rank_in, RankWithin}
use Rattle.general.proofs.Scan.{get_d_inside}

-- ---- the word of an entry

-- the number that a word names
pub entry_number_lem : (w : ℕ) → entry_number (entry_of w) ≡ payload w
entry_number_lem w = go (is_kind 8 w) (is_kind 13 w)
  where
    go : (b d : Bool) → entry_number (cond b (item (step (payload w))) (cond d (item (check (payload w))) (call (payload w)))) ≡ payload w
    go true d = refl
    go false true = refl
    go false false = refl

module _ (none w : ℕ) (T : List ℕ) (within : RankWithin none T w) (e : is_entry w ≡ true) where
  -- by the kind of the word
  pub slot_inside : slot_of none w < length T
  slot_inside =
      ⊎_elim (λ k. rw k (omega (arith, within.step k)))
      (λ s. ⊎_elim (λ k. rw k (omega (arith, (within.sequence k).1))) (λ k. rw k (omega (arith, (within.check k).1))) s) (entry_cases w e)

  pub slot_rank : (past : ℕ) → get_or T (slot_of none w) 0 ≡ rank_in none past T (entry_of w)
  slot_rank past = get_d_inside T (slot_of none w) 0 past slot_inside ∙ ⊎_elim by_step (λ s. ⊎_elim by_call by_check s) (entry_cases w e)
    where
      p : ℕ
      p = payload w

      -- the word, and the entry that it names
      named : (i : ℕ) (x : Entry) → slot_of none w ≡ i → get_or T i past ≡ rank_in none past T x → entry_of w ≡ x
          → get_or T (slot_of none w) past ≡ rank_in none past T (entry_of w)
      named i x slot rank entry = ap (λ (n : ℕ). get_or T n past) slot ∙ rank ∙ ap (rank_in none past T) (sym entry)

      by_step : kind w ≡ 8 → get_or T (slot_of none w) past ≡ rank_in none past T (entry_of w)
      by_step k =
          let at : slot_of none w ≡ none + (most_facts + p) = rw k (omega arith) in
          named (none + (most_facts + p)) (item (step p)) at (sym (get_or-drop none T (most_facts + p) past)) (step_entry w k)

      by_check : kind w ≡ 13 → get_or T (slot_of none w) past ≡ rank_in none past T (entry_of w)
      by_check k =
          let at : slot_of none w ≡ none + p = rw k (omega arith) in
          named (none + p) (item (check p)) at (sym (get_or-drop none T p past) ∙ sym (get_or-take most_facts (drop none T) p past (within.check k).0))
          (check_entry w k)

      by_call : kind w ≡ 9 → get_or T (slot_of none w) past ≡ rank_in none past T (entry_of w)
      by_call k =
          let at : slot_of none w ≡ p = rw k (omega arith) in
          let inside = within.sequence k in
          named p (call p) at (get_d_inside T p past none inside.1 ∙ sym (get_or-take none T p none inside.0)) (call_entry w k)
