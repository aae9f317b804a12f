-- The outcome table by stale sequences: a sequence's row depends on those that it calls and on no other.
-- Assumes nothing.
use Prim.Native.Nat.{ℕ, ◌+◌, ◌*◌, ◌≤◌}
use native.Mathlib.Omega.{arith}
use native.Mathlib.Decide.{ℕ_discrete}
use mathlib.Core.Path.{◌≡◌, refl, sym, ap, ap₂, ◌∙◌, subst}
use mathlib.Core.Bool.{Bool, true, false, cond, not, false≢true}
use mathlib.Core.List.{List, [], ◌∷◌}
use lib.ListN.{length}
use Rattle.row.specs.Words.{row_words, no_row, start_row, or_rows, join_rows, row_in, with_row}
use Rattle.library.specs.Library.{Entry, item, call, Alternative}
use lib.Dec.{ltb}
use Rattle.walk.specs.Walk.{alternatives_at}
use Rattle.general.specs.Tests.{All}
use Rattle.reading.specs.Walks.{is_dead, entry_in, joined_from, alternative_in, united_from}
use Rattle.reading.specs.declared.read.Block.{Block}
use Rattle.outcome.specs.Visited.{visited_row, visited}
use Rattle.callers.specs.Callers.{calls}
use Rattle.row.specs.declared.words.Row.{Row}
use Rattle.row.proofs.Bits.{rows_again}
use Rattle.outcome.proofs.Stores.{row_same, row_other, row_again}
use Rattle.callers.proofs.Calls.{calls_all}
use Rattle.settling.specs.Settling.{Local}

-- ---- two tables with the same rows of the sequences called

module _ (b : Block) (steps t t' : List ℕ) where
  -- an entry has the same row by both
  abbrev Same : Entry → Type 0
  Same e = entry_in b steps t e ≡ entry_in b steps t' e

  -- and is dead by both or by neither
  same_dead : (e : Entry) → Same e → is_dead t e ≡ is_dead t' e
  same_dead (item x) same = refl
  same_dead (call d) same = ap (λ (r : Row). not (ltb 0 r.run)) same

  joined_local : (X : Row) (es : List Entry) → All Same es → joined_from b steps t X es ≡ joined_from b steps t' X es
  unfolding joined_from
  joined_local X [] a = refl
  joined_local X (e ∷ es) a =
      ap₂ (λ (q : Bool) (r : Row). cond q no_row (joined_from b steps t (join_rows X r) es)) (same_dead e a.0) a.0
      ∙ ap (cond (is_dead t' e) no_row) (joined_local (join_rows X (entry_in b steps t' e)) es a.1)

  united_local : (X : Row) (alts : List Alternative) → All (All Same) alts → united_from b steps t X alts ≡ united_from b steps t' X alts
  unfolding united_from
  united_local X [] a = refl
  united_local X (es ∷ alts) a =
      ap (λ (r : Row). united_from b steps t (or_rows X r) alts) (joined_local (start_row b.all) es a.0)
      ∙ united_local (or_rows X (alternative_in b steps t' es)) alts a.1

-- ---- a visit depends on those that are called

module _ (b : Block) (steps part places : List ℕ) where
  given : List ℕ → ℕ → Row
  given t d = united_from b steps t no_row (alternatives_at part places d)

  -- what the alternatives of d give is the same after a row that d does not call is written
  given_stays : (t : List ℕ) (c d : ℕ) (r : Row) → calls part places d c ≡ false → given (with_row t c r) d ≡ given t d
  unfolding given
  given_stays t c d r apart =
      united_local b steps (with_row t c r) t no_row (alternatives_at part places d)
      (calls_all (Same b steps (with_row t c r) t) (λ a. refl) (alternatives_at part places d)
      (λ e called. row_other t c r e (λ same. false≢true (sym apart ∙ subst (λ (k : ℕ). calls part places d k ≡ true) same called))))

  -- a visit that would write the row that stands there
  visit_still : (t : List ℕ) (d : ℕ) → visited_row b steps part places t d ≡ row_in t d → visited b steps part places t d ≡ t
  visit_still t d e = ap (with_row t d) e ∙ row_again t d

  still_row : (t : List ℕ) (d : ℕ) → row_words * d + row_words ≤ length t → visited b steps part places t d ≡ t → visited_row b steps part places t d ≡ row_in t d
  still_row t d room e = sym (row_same t d (visited_row b steps part places t d) room) ∙ ap (λ (s : List ℕ). row_in s d) e

  visit_stays : (t : List ℕ) (c d : ℕ) → row_words * d + row_words ≤ length t → (d ≡ c → ⊥) → calls part places d c ≡ false → visited b steps part places t d ≡ t
      → visited b steps part places (visited b steps part places t c) d ≡ visited b steps part places t c
  unfolding given
  visit_stays t c d room other apart still =
      let r = visited_row b steps part places t c in
      let row = row_other t c r d other in
      visit_still (with_row t c r) d (ap₂ or_rows row (given_stays t c d r apart) ∙ still_row t d room still ∙ sym row)

  visit_again : (t : List ℕ) (c : ℕ) → row_words * c + row_words ≤ length t → calls part places c c ≡ false
      → visited b steps part places (visited b steps part places t c) c ≡ visited b steps part places t c
  unfolding given
  visit_again t c room apart =
      let r = visited_row b steps part places t c in
      let row = row_same t c r room in
      visit_still (with_row t c r) c (ap₂ or_rows row (given_stays t c c r apart) ∙ rows_again (row_in t c) (given t c) ∙ sym row)

  pub visits_local : (n : ℕ) → Local (visited b steps part places) (calls part places) n (row_words * n)
  visits_local n =
      record {
        stays = λ t c d low l room apart still.
            elim (ℕ_discrete d c) [
              | yes same ↦ subst (λ (s : List ℕ). visited b steps part places s d ≡ s) (sym (subst (λ (k : ℕ). visited b steps part places t k ≡ t) same still)) still
              | no other ↦ visit_stays t c d (omega arith) other apart still
            ];
        again = λ t c low room apart. visit_again t c (omega arith) apart;
      }
