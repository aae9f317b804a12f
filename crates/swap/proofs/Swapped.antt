-- An accepted image in which two different entries change places gets 2 (`swap_noticed`), and so does any image with a right sum word in which
-- two words change places that do not count alike, and neither of which counts 8,192 or more above the other (`words_noticed`).
-- Assumes nothing.
use Prim.Native.Nat.{ℕ, zero, suc, ◌+◌, ◌-◌, ◌≤◌, ◌<◌}
use native.Mathlib.Omega.{arith}
use mathlib.Core.Path.{◌≡◌, sym, ap, ◌∙◌}
use mathlib.Core.Bool.{true, false, and-false}
use mathlib.Core.Logic.{⊎_elim}
use mathlib.Core.List.{List}
use lib.ListN.{length, get_or, set, take, length-set, length-take}
use lib.Seq.{get_or-set_other, get_or-take, take-set-lt}
use lib.Dec.{eqb}
use borrow.Author.Tests.{eqb-true, ne_eqb}
use Rattle.general.proofs.Bools.{and_right}
use Rattle.image.specs.Word.{kind, payload, is_kind, is_entry, counts_as, ordered_sum, sum_right}
use Rattle.image.specs.declared.answer.Head.{Head}
use Rattle.image.specs.declared.answer.Refusal.TheVariants.{SumWord}
use Rattle.image.proofs.Head.{head_rule}
use Rattle.image.proofs.Words.{entry_cases, entry_high}
use Rattle.rules.specs.Checked.{all_but_last, first_word, last_word, checked, Accepts}
use Rattle.rules.specs.Rules.{earlier}
use Rattle.rules.proofs.Checked.{refused_sum}
use Rattle.rules.proofs.Faultless.{fine, payloads}
use Rattle.library.proofs.Decode.{kind_is}
use Rattle.library.proofs.Accepted.{checks, faultless}
use Rattle.swap.specs.Swapped.{swapped, Noticed}
use Rattle.swap.proofs.Sums.{Close, payload_apart}
use Rattle.std.specs.Prelude.{Err}

-- ---- lists in which two words change places

module _ (ws : List ℕ) (i j : ℕ) where
  length_swapped : length (swapped ws i j) ≡ length ws
  length_swapped = simp length-set

  other_swapped : (p : ℕ) → (p ≡ i → ⊥) → (p ≡ j → ⊥) → get_or (swapped ws i j) p 0 ≡ get_or ws p 0
  other_swapped p not_i not_j = get_or-set_other (set ws i (get_or ws j 0)) j p (get_or ws i 0) 0 not_j ∙ get_or-set_other ws i p (get_or ws j 0) 0 not_i

  take_swapped : (n : ℕ) → i < n → j < n → take n (swapped ws i j) ≡ swapped (take n ws) i j
  take_swapped n l u =
      rw (get_or-take n ws i 0 l, get_or-take n ws j 0 u)
      (take-set-lt n (set ws i (get_or ws j 0)) j (get_or ws i 0) u ∙ ap (λ (x : List ℕ). set x j (get_or ws i 0)) (take-set-lt n ws i (get_or ws j 0) l))

-- ---- an image with a right sum word

-- a sum word that is right over some words is wrong over others that give another payload
sum_wrong : (earlier others : List ℕ) (w : ℕ) → sum_right earlier w ≡ true → (ordered_sum others ≡ ordered_sum earlier → ⊥) → sum_right others w ≡ false
sum_wrong earlier others w right apart =
    let was = eqb-true (payload w) (ordered_sum earlier) (and_right (is_kind 15 w) (eqb (payload w) (ordered_sum earlier)) right) in
    rw (ne_eqb (payload w) (ordered_sum others) (λ e. apart (sym e ∙ was))) (and-false (is_kind 15 w))

module _ (image : List ℕ) (i j : ℕ) (one : i + 1 < length image) (other : j + 1 < length image) where
  earlier_swapped : all_but_last (swapped image i j) ≡ swapped (all_but_last image) i j
  earlier_swapped = rw (length_swapped image i j) (take_swapped image i j (length image - 1) (omega arith) (omega arith))

  last_swapped : last_word (swapped image i j) ≡ last_word image
  last_swapped = rw (length_swapped image i j) (other_swapped image i j (length image - 1) (omega arith) (omega arith))

  pub words_noticed : length image ≤ 8192 → sum_right (all_but_last image) (last_word image) ≡ true
      → Close (counts_as (get_or image i 0)) (counts_as (get_or image j 0)) → checked (swapped image i j) ≡ Err (SumWord (length image - 1))
  words_noticed high right close =
      let earlier = all_but_last image in
      let one_stays = get_or-take (length image - 1) image i 0 (omega arith) in
      let other_stays = get_or-take (length image - 1) image j 0 (omega arith) in
      let long = length-take (length image - 1) image in
      let apart = payload_apart earlier i j (omega arith) (omega arith) (omega arith) (rw (one_stays, other_stays) close) in
      let wrong = sum_wrong earlier (swapped earlier i j) (last_word image) right apart in
      let length_stays = length_swapped image i j in
      sym (rw length_stays at (refused_sum (swapped image i j) (omega arith) (omega arith) (rw (earlier_swapped, last_swapped) wrong)))

-- ---- entries of an accepted image

-- what an entry's kind and payload keep to: it counts 8,192 or more, and less than 16,384
record EntryWord (w : ℕ) : Type 0 where
  low : 8 ≤ kind w
  high : kind w < 16
  names : payload w < 1024

-- 1,024 times the kind: no two different entries count alike
entries_close : (v w : ℕ) → EntryWord v → EntryWord w → (v ≡ w → ⊥) → Close (counts_as v) (counts_as w)
entries_close v w one other differ = omega arith

module _ (image : List ℕ) (h : Head) (a : Accepts image h) where
  -- the head is no entry, and an entry after it names a step, a sequence or a fact that the head counts
  entry_word : (p : ℕ) → p + 1 < length image → is_entry (get_or image p 0) ≡ true → EntryWord (get_or image p 0)
  entry_word zero l is =
      let w = first_word image in
      absurd (omega (arith, entry_high w is, kind_is 1 w (head_rule w (checks image h a).head).first))
  entry_word (suc p) l is =
      let w = get_or image (suc p) 0 in
      let f = faultless image h a in
      let e = earlier (take (suc p) image) in
      let rule = payloads h e w (fine h e (suc p) w (f.between (suc p) (omega arith) l)).pays in
      ⊎_elim (λ k. omega (arith, rule.names_step k))
      (λ o. ⊎_elim (λ k. omega (arith, rule.names_sequence k)) (λ k. omega (arith, rule.names_fact k)) o) (entry_cases w is)

pub swap_noticed : Noticed
swap_noticed image h i j a two =
    let one = entry_word image h a i two.one_before two.one_entry in
    let other = entry_word image h a j two.other_before two.other_entry in
    let close = entries_close (get_or image i 0) (get_or image j 0) one other two.differ in
    words_noticed image i j two.one_before two.other_before (checks image h a).high (checks image h a).sum close
