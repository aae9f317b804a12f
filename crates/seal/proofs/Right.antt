-- What the sum word in the last place makes of an image: its parts (`earlier_snoc`, `last_snoc`, `image_split`); that it is right
-- (`sum_word_right`), and that no other word is (`sum_word_only`); that an image with a right sum word stays as it is (`right_stays`); and that
-- such an image never gets 2 from the check (`right_unrefused`).
-- Assumes nothing.
use Prim.Native.Nat.{ℕ, suc, ◌-◌, ◌/◌, ◌^◌, ◌≤◌}
use native.Mathlib.Omega.{arith}
use mathlib.Core.Path.{◌≡◌, sym, ap, ◌∙◌}
use mathlib.Core.Logic.{◌≢◌}
use mathlib.Core.Bool.{Bool, true, false, cond, ◌&&◌, ◌||◌}
use mathlib.Core.List.{List, [], ◌∷◌, ◌++◌}
use lib.ListN.{length, get_or, take, length-append, length-take, drop_of_length-le}
use lib.Seq.{take-append_seam, get_or-append_seam, split_at}
use lib.Dec.{leb, ltb, eqb}
use borrow.Author.Tests.{eq-eqb, eqb-true}
use Rattle.general.proofs.Bools.{and_left, and_right, and_both}
use Rattle.image.specs.Answer.{refusal_answer}
use Rattle.image.specs.Word.{most_words, kind, payload, is_kind, ordered_sum, sum_right, head_of, head_right}
use Rattle.image.specs.declared.answer.Head.{Head}
use Rattle.image.specs.declared.answer.Refusal.TheVariants.{Length, HeadWord, Kind, Payload, FactOrder, Missing, SetAndCleared}
use Rattle.rules.specs.Rules.{opened, earlier, may_stand, payload_right, in_order, clears_unset}
use Rattle.rules.specs.Checked.{at_word, scan, all_but_last, between, first_word, last_word, checked}
use Rattle.seal.specs.Answer.{sum_word, with_sum}
use Rattle.std.specs.Prelude.{Some, None, Ok, Err}
use Rattle.image.specs.Answer.{Checked}

-- ---- words with one word after them

length_snoc : (ws : List ℕ) (w : ℕ) → length (ws ++ (w ∷ [])) - 1 ≡ length ws
length_snoc ws w = omega (arith, length-append ws (w ∷ []))

pub earlier_snoc : (ws : List ℕ) (w : ℕ) → all_but_last (ws ++ (w ∷ [])) ≡ ws
earlier_snoc ws w = ap (λ (n : ℕ). take n (ws ++ (w ∷ []))) (length_snoc ws w) ∙ take-append_seam ws (w ∷ [])

pub last_snoc : (ws : List ℕ) (w : ℕ) → last_word (ws ++ (w ∷ [])) ≡ w
last_snoc ws w = ap (λ (n : ℕ). get_or (ws ++ (w ∷ [])) n 0) (length_snoc ws w) ∙ get_or-append_seam ws w [] 0

pub image_split : (image : List ℕ) → 1 ≤ length image → image ≡ all_but_last image ++ (last_word image ∷ [])
image_split image some =
    split_at image (length image - 1) 0 (omega arith)
    ∙ ap (λ (rest : List ℕ). all_but_last image ++ last_word image ∷ rest) (drop_of_length-le image {i = suc (length image - 1)} (omega arith))

pub length_sealed : (image : List ℕ) → 1 ≤ length image → length (with_sum image) ≡ length image
length_sealed image some =
    omega (arith, length-append (all_but_last image) (sum_word (all_but_last image) ∷ []), length-take (length image - 1) image)

-- ---- the sum word

pub sum_word_right : (ws : List ℕ) → sum_right ws (sum_word ws) ≡ true
sum_word_right ws =
    and_both (is_kind 15 (sum_word ws)) (eqb (payload (sum_word ws)) (ordered_sum ws)) (eq-eqb (kind (sum_word ws)) 15 (omega arith))
    (eq-eqb (payload (sum_word ws)) (ordered_sum ws) (omega arith))

pub sum_word_is : (ws : List ℕ) (w : ℕ) → kind w ≡ 15 → payload w ≡ ordered_sum ws → w ≡ sum_word ws
sum_word_is ws w fifteen rule = omega arith

pub sum_word_only : (ws : List ℕ) (w : ℕ) → sum_right ws w ≡ true → w ≡ sum_word ws
sum_word_only ws w right =
    let pays = eqb (payload w) (ordered_sum ws) in
    sum_word_is ws w (eqb-true (kind w) 15 (and_left (is_kind 15 w) pays right)) (eqb-true (payload w) (ordered_sum ws) (and_right (is_kind 15 w) pays right))

pub sealed_right : (image : List ℕ) → sum_right (all_but_last (with_sum image)) (last_word (with_sum image)) ≡ true
sealed_right image =
    let ws = all_but_last image in
    (λ i. sum_right (earlier_snoc ws (sum_word ws) i) (last_snoc ws (sum_word ws) i)) ∙ sum_word_right ws

pub right_stays : (image : List ℕ) → 1 ≤ length image → sum_right (all_but_last image) (last_word image) ≡ true → with_sum image ≡ image
right_stays image some right =
    ap (λ (w : ℕ). all_but_last image ++ (w ∷ [])) (sym (sum_word_only (all_but_last image) (last_word image) right)) ∙ sym (image_split image some)

-- ---- the check

-- it answers something else than 2: "N × 2^32 + P for refusal N at position P"
abbrev pub NotTwo : Checked → Type 0
NotTwo (Ok h) = Unit {0}
NotTwo (Err r) = refusal_answer r / 2 ^ 32 ≢ 2

either : (b : Bool) (x y : Checked) → NotTwo x → NotTwo y → NotTwo (cond b x y)
either true x y p q = p
either false x y p q = q

-- nothing that is found at a word is 2
fault_not : (a b c d : Bool) (p : ℕ) (after : Checked) → NotTwo after
    → NotTwo (at_word (cond a (cond b (cond c (cond d None (Some (SetAndCleared p))) (Some (FactOrder p))) (Some (Payload p))) (Some (Kind p))) after)
fault_not true true true true p after rest = rest
fault_not true true true false p after rest = λ e. omega arith
fault_not true true false d p after rest = λ e. omega arith
fault_not true false c d p after rest = λ e. omega arith
fault_not false b c d p after rest = λ e. omega arith

scan_not : (h : Head) (before ws : List ℕ) → NotTwo (scan h before ws)
unfolding scan
scan_not h before [] =
    either (ltb (opened 5 before) h.steps || ltb (opened 6 before) h.sequences) (Err (Missing (length before))) (Ok h) (λ e. omega arith) tt
scan_not h before (w ∷ ws) =
    let e = earlier before in
    fault_not (may_stand h e w) (payload_right h e w) (in_order e w) (clears_unset e.sets w) (length before) (scan h (before ++ (w ∷ [])) ws)
    (scan_not h (before ++ (w ∷ [])) ws)

pub right_unrefused : (image : List ℕ) → sum_right (all_but_last image) (last_word image) ≡ true → NotTwo (checked image)
unfolding checked
right_unrefused image right =
    rw right
    (either (leb 2 (length image) && leb (length image) most_words) _ (Err Length)
    (either (head_right (first_word image)) (scan (head_of (first_word image)) (take 1 image) (between image)) (Err HeadWord)
    (scan_not (head_of (first_word image)) (take 1 image) (between image)) (λ e. omega arith)) (λ e. omega arith))
