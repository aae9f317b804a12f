-- That the walk is the scan of document 01, and which case of `checked` holds where.
-- Assumes nothing.
use Rattle.std.proofs.Common.{◌≡◌, ℕ, suc, ◌+◌, ◌-◌, ◌<◌, ◌≤◌, true, false, List, [], ◌∷◌, ◌++◌, length, take, sym, refl, ap, ◌∙◌, ap₂, add-one, arith, length-append, le-leb}
use Rattle.std.proofs.lemmas.Bool.Decides.{nat_tests}
use mir.Val.{bool_byte}
use Rattle.image.specs.Word.{is_kind, sum_right, head_of, head_right}
use Rattle.image.specs.declared.answer.Head.{Head}
use Rattle.image.specs.declared.answer.Refusal.TheVariants.{Length, SumWord, HeadWord}
use Rattle.image.proofs.Head.{head_rule}
use Rattle.rules.specs.Rules.{opened, last_of, sets_after, sets_of, Before, earlier, fault_at}
use Rattle.rules.specs.Quick.{after}
use Rattle.rules.specs.Checked.{at_word, scan, all_but_last, between, first_word, last_word, checked}
use Rattle.rules.specs.Walk.{walk, opening}
use Rattle.rules.proofs.Sets.{sets_append}
use Rattle.std.specs.Prelude.{Err}

-- ---- the walk is the scan

pub opened_snoc : (k w : ℕ) (ws : List ℕ) → opened k (ws ++ (w ∷ [])) ≡ opened k ws + bool_byte (is_kind k w)
unfolding opened
opened_snoc k w [] = omega arith
opened_snoc k w (v ∷ ws) = omega (arith, opened_snoc k w ws)

last_snoc : (w : ℕ) (ws : List ℕ) → last_of (ws ++ (w ∷ [])) ≡ w
unfolding last_of
last_snoc w [] = refl
last_snoc w (v ∷ []) = refl
last_snoc w (v ∷ u ∷ ws) = last_snoc w (u ∷ ws)

sets_snoc : (w : ℕ) (ws : List ℕ) → sets_of 0 (ws ++ (w ∷ [])) ≡ sets_after (sets_of 0 ws) w
unfolding sets_of
sets_snoc w ws = sets_append 0 ws (w ∷ [])

earlier_snoc : (w : ℕ) (ws : List ℕ) → earlier (ws ++ (w ∷ [])) ≡ after (earlier ws) w
earlier_snoc w ws i =
    record { steps = opened_snoc 5 w ws i; sequences = opened_snoc 6 w ws i; last = last_snoc w ws i; sets = sets_snoc w ws i }

length_snoc : (w : ℕ) (ws : List ℕ) → length (ws ++ (w ∷ [])) ≡ suc (length ws)
length_snoc w ws = length-append ws (w ∷ []) ∙ add-one (length ws)

pub scan_walk : (h : Head) (before ws : List ℕ) → scan h before ws ≡ walk h (earlier before) (length before) ws
unfolding scan walk
scan_walk h before [] = refl
scan_walk h before (w ∷ ws) =
    ap (at_word (fault_at h (earlier before) (length before) w))
    (scan_walk h (before ++ (w ∷ [])) ws ∙ ap₂ (λ (e : Before) (p : ℕ). walk h e p ws) (earlier_snoc w before) (length_snoc w before))

-- ---- the cases

-- the head opens nothing and sets nothing
not_kind : (k j w : ℕ) → is_kind k w ≡ true → (k ≡ j → ⊥) → is_kind j w ≡ false
not_kind k j w e d = grind (arith, nat_tests)

head_opens : (w : ℕ) → head_right w ≡ true → earlier (w ∷ []) ≡ opening w
unfolding last_of opened sets_of
head_opens w e =
    let one = (head_rule w e).first in
    rw (not_kind 1 5 w one (omega arith), not_kind 1 6 w one (omega arith), not_kind 1 3 w one (omega arith))

take_one : (image : List ℕ) → 1 ≤ length image → take 1 image ≡ first_word image ∷ []
take_one [] l = absurd (omega arith)
take_one (w ∷ ws) l = refl

module _ (image : List ℕ) where
  pub refused_short : length image < 2 → Err Length ≡ checked image
  unfolding checked
  refused_short l = grind (arith, nat_tests)

  pub refused_long : 8192 < length image → Err Length ≡ checked image
  unfolding checked
  refused_long l = grind (arith, nat_tests)

  module _ (low : 2 ≤ length image) (high : length image ≤ 8192) where
    pub refused_sum : sum_right (all_but_last image) (last_word image) ≡ false → Err (SumWord (length image - 1)) ≡ checked image
    unfolding checked
    refused_sum s = simp (le-leb 2 (length image) low, le-leb (length image) 8192 high, s)

    pub refused_head : sum_right (all_but_last image) (last_word image) ≡ true → head_right (first_word image) ≡ false
        → Err HeadWord ≡ checked image
    unfolding checked
    refused_head s h = simp (le-leb 2 (length image) low, le-leb (length image) 8192 high, s, h)

    pub checked_walk : sum_right (all_but_last image) (last_word image) ≡ true → head_right (first_word image) ≡ true
        → walk (head_of (first_word image)) (opening (first_word image)) 1 (between image) ≡ checked image
    unfolding checked
    checked_walk s h = simp (le-leb 2 (length image) low, le-leb (length image) 8192 high, s, h)
        (sym (scan_walk (head_of (first_word image)) (take 1 image) (between image)
        ∙ ap (λ (b : List ℕ). walk (head_of (first_word image)) (earlier b) (length b) (between image)) (take_one image (omega arith))
        ∙ ap (λ (e : Before). walk (head_of (first_word image)) e 1 (between image)) (head_opens (first_word image) h)))
