-- A part that begins at a word that is no fact word, as a sequence's opener: the answer from there on does not depend on what the step sets
-- that was opened before. A clear word, of which alone that is asked, stands after a step's opener, where nothing is set, or is refused by 4.
-- Assumes nothing.
use Rattle.std.proofs.Common.{◌≡◌, ℕ, suc, Bool, true, false, cond, ◌||◌, List, [], ◌∷◌, refl, ap, ◌∙◌, arith}
use Rattle.std.proofs.lemmas.Bool.Decides.{nat_tests}
use Rattle.image.specs.Word.{is_kind, is_fact}
use Rattle.image.proofs.Words.{fact_kind}
use Rattle.rules.specs.Rules.{sets_after, fault_at}
use Rattle.rules.specs.Quick.{passed, seen}
use Rattle.rules.specs.Checked.{at_word}
use Rattle.rules.specs.Walk.{walk}
use Rattle.image.specs.declared.answer.Head.{Head}
use Rattle.image.specs.declared.answer.Refusal.TheVariants.{Kind}
use Rattle.rules.specs.declared.rules.Earlier.{Earlier}
use Rattle.std.specs.Prelude.{Option, Some}
use Rattle.image.specs.declared.answer.Refusal.{Refusal}

-- no fact word may stand after the word
abbrev NoFactAfter : ℕ → Type 0
NoFactAfter last = is_kind 5 last || is_fact last ≡ false

module _ (h : Head) (e : Earlier) (p w : ℕ) where
  -- a fact word is refused there, whatever is set
  fact_refused : (sets : ℕ) → NoFactAfter e.last → is_fact w ≡ true → fault_at h (seen e sets) p w ≡ Some (Kind p)
  fact_refused sets none fact = grind (arith, nat_tests, fact_kind w fact)

  -- a word that is no fact word has the same fault, whatever is set
  same_fault : (s t : ℕ) → is_fact w ≡ false → fault_at h (seen e s) p w ≡ fault_at h (seen e t) p w
  same_fault s t other = grind (arith, nat_tests)

  -- and so the same answer, where the words after it have
  past_word : (ws : List ℕ) (s t : ℕ) → is_fact w ≡ false
      → (NoFactAfter w → walk h (seen (passed e w) s) (suc p) ws ≡ walk h (seen (passed e w) t) (suc p) ws)
      → walk h (seen e s) p (w ∷ ws) ≡ walk h (seen e t) p (w ∷ ws)
  unfolding walk
  past_word ws s t other rest =
      ap (λ (f : Option Refusal). at_word f (walk h (seen (passed e w) (sets_after s w)) (suc p) ws)) (same_fault s t other)
      ∙ ap (at_word (fault_at h (seen e t) p w)) (rw three (go (is_kind 5 w) refl))
    where
      three : is_kind 3 w ≡ false
      three = grind (arith, nat_tests)

      go : (b : Bool) → is_kind 5 w ≡ b
          → walk h (seen (passed e w) (cond b 0 s)) (suc p) ws ≡ walk h (seen (passed e w) (cond b 0 t)) (suc p) ws
      go true five = refl
      go false five = rest (rw (five, other))

-- where no fact word may stand, the answer is the same, whatever is set
quiet : (h : Head) (e : Earlier) (p : ℕ) (ws : List ℕ) (s t : ℕ) → NoFactAfter e.last → walk h (seen e s) p ws ≡ walk h (seen e t) p ws
unfolding walk
quiet h e p [] s t none = refl
quiet h e p (w ∷ ws) s t none = go (is_fact w) refl (quiet h (passed e w) (suc p) ws s t)
  where
    go : (b : Bool) → is_fact w ≡ b
        → (NoFactAfter w → walk h (seen (passed e w) s) (suc p) ws ≡ walk h (seen (passed e w) t) (suc p) ws)
        → walk h (seen e s) p (w ∷ ws) ≡ walk h (seen e t) p (w ∷ ws)
    go true fact rest = rw (fact_refused h e p w s none fact, fact_refused h e p w t none fact)
    go false other rest = past_word h e p w ws s t other rest

pub from_middle : (h : Head) (e : Earlier) (p w : ℕ) (ws : List ℕ) (s t : ℕ) → is_fact w ≡ false
    → walk h (seen e s) p (w ∷ ws) ≡ walk h (seen e t) p (w ∷ ws)
from_middle h e p w ws s t other = past_word h e p w ws s t other (quiet h (passed e w) (suc p) ws s t)
