-- Laws of the walk: one word, the way out at a fault, the end; and a sequence's words.
-- Assumes nothing.
use Prim.Native.Nat.{ℕ, suc, ◌+◌, ◌-◌, ◌≤◌, ◌<◌}
use native.Mathlib.Omega.{arith}
use Rattle.std.proofs.lemmas.Bool.Decides.{nat_tests}
use native.Mathlib.Numerals.{add-one}
use mathlib.Core.Path.{◌≡◌, refl, sym, ap, ap₂, ◌∙◌, subst}
use mathlib.Core.List.{List}
use lib.ListN.{length, get_or, take, drop}
use mathlib.Core.Bool.{true}
use lib.Seq.{drop-cons, drop-length}
use borrow.Author.Tests.{eqb-true}
use Rattle.image.specs.Word.{kind, is_kind}
use Rattle.rules.specs.Rules.{sets_of, Before, fault_at}
use Rattle.rules.specs.Quick.{body_right, inside_right, after, passed, with_last, seen, up_to, in_alternative}
use Rattle.rules.specs.Checked.{at_word}
use Rattle.rules.specs.Walk.{ended, walk}
use Rattle.reader.specs.Readers.{Read, FourRight, FoursRead}
use Rattle.reader.specs.declared.check.Body.{Body}
use Rattle.image.specs.declared.answer.Head.{Head}
use Rattle.image.specs.declared.answer.Refusal.{Refusal}
use Rattle.rules.specs.declared.rules.Earlier.{Earlier}
use Rattle.general.proofs.Bools.{byte_le}
use Rattle.general.proofs.Numbers.{whole_rest}
use Rattle.rules.proofs.Right.{Passing, body_passing, inside_body}
use Rattle.rules.proofs.Sets.{sets_next}
use Rattle.rules.proofs.Faultless.{fine, none_found}
use Rattle.rules.proofs.Middle.{from_middle}
use Rattle.std.specs.Prelude.{Option, Some, None, Err}
use Rattle.image.specs.Answer.{Checked}

walk_drop : (h : Head) (b : Before) (p i : ℕ) (ws : List ℕ) → i < length ws
    → walk h b p (drop i ws) ≡ at_word (fault_at h b p (get_or ws i 0)) (walk h (after b (get_or ws i 0)) (p + 1) (drop (i + 1) ws))
unfolding walk
walk_drop h b p i ws l = rw (add-one i, add-one p) (ap (walk h b p) (drop-cons ws i 0 l))

-- the answer at a word of the part, and from the word after it on
walk_word : (h : Head) (part : List ℕ) (e : Earlier) (p i : ℕ) → i < length part
    → let w = get_or part i 0 in
    walk h (up_to part e i) (p + i) (drop i part)
    ≡ at_word (fault_at h (up_to part e i) (p + i) w) (walk h (up_to part (passed e w) (i + 1)) (p + (i + 1)) (drop (i + 1) part))
walk_word h part e p i l =
    let w = get_or part i 0 in
    let place : p + i + 1 ≡ p + (i + 1) = omega arith in
    walk_drop h (up_to part e i) (p + i) i part l
    ∙ ap₂ (λ (s q : ℕ). at_word (fault_at h (up_to part e i) (p + i) w) (walk h (seen (passed e w) s) q (drop (i + 1) part)))
    (sym (sets_next part i l)) place

-- ---- what a reader promises holds at the head of its loop too

module _ (h : Head) (part : List ℕ) (e : Earlier) (at : ℕ) where
  pub read_start : at ≤ length part → Read h part e at e at
  read_start l = grind arith

  module _ (now : Earlier) (i : ℕ) (here : Read h part e at now i) where
    abbrev rest : ℕ → Checked
    rest p = walk h (up_to part (passed now (get_or part i 0)) (i + 1)) (p + (i + 1)) (drop (i + 1) part)

    -- a word without a fault
    pub read_turn : i < length part → ((p : ℕ) → None ≡ fault_at h (up_to part now i) p (get_or part i 0))
        → Read h part e at (passed now (get_or part i 0)) (i + 1)
    read_turn l fine =
        record {
          low = omega (arith, here.low);
          within = omega arith;
          same = λ p. here.same p ∙ walk_word h part now p i l ∙ ap (λ (f : Option Refusal). at_word f (rest p)) (sym (fine (p + i)));
        }

    pub read_pass : (then : Earlier) → i < length part → Passing h now (sets_of 0 (take i part)) (get_or part i 0) then → Read h part e at then (i + 1)
    read_pass then l passing = subst (λ (x : Earlier). Read h part e at x (i + 1)) passing.past (read_turn l passing.faultless)

    -- words that another reader passed by
    pub read_on : (then : Earlier) (j : ℕ) → Read h part now i then j → Read h part e at then j
    read_on then j more = record { low = omega (arith, here.low, more.low); within = more.within; same = λ p. here.same p ∙ more.same p }

    -- another reader's answer from here on, a word with a fault, and the end
    pub read_answer : (p : ℕ) (r : Checked) → r ≡ walk h (up_to part now i) (p + i) (drop i part) → r ≡ walk h (up_to part e at) (p + at) (drop at part)
    read_answer p r rest = rest ∙ sym (here.same p)

    pub read_refused : (p : ℕ) (x : Refusal) (fault : Option Refusal) → i < length part → fault ≡ Some x
        → fault ≡ fault_at h (up_to part now i) (p + i) (get_or part i 0) → Err x ≡ walk h (up_to part e at) (p + at) (drop at part)
    read_refused p x fault l found judged =
        sym (here.same p ∙ walk_word h part now p i l ∙ ap (λ (f : Option Refusal). at_word f (rest p)) (sym judged ∙ found))

    pub read_end : (p : ℕ) → i ≡ length part → ended h (seen now 0) (p + length part) ≡ walk h (up_to part e at) (p + at) (drop at part)
    unfolding walk
    read_end p l =
        ap (λ (n : ℕ). ended h (seen now 0) (p + n)) (sym l)
        ∙ sym (here.same p ∙ ap (walk h (up_to part now i) (p + i)) (ap (λ (n : ℕ). drop n part) l ∙ drop-length part))

-- what is carried of the head alone
abbrev pub begun : ℕ → Earlier
begun first = record { steps = 0; sequences = 0; last = first }

-- the answer from a part's first word on
pub whole_answer : (h : Head) (part : List ℕ) (e : Earlier) (p : ℕ) (r : Checked) → r ≡ walk h (up_to part e 0) (p + 0) (drop 0 part)
    → r ≡ walk h (seen e 0) p part
unfolding sets_of
whole_answer h part e p r same = let place : p + 0 ≡ p = omega arith in rw place at same

-- and from a sequence's opener on, where a part begins anew
pub middle_answer : (h : Head) (part : List ℕ) (e : Earlier) (p i : ℕ) (r : Checked) → i < length part → is_kind 6 (get_or part i 0) ≡ true
    → r ≡ walk h (seen e 0) p (take (length part - i) (drop i part)) → r ≡ walk h (up_to part e i) p (drop i part)
middle_answer h part e p i r l opens same =
    let w = get_or part i 0 in
    let six = eqb-true (kind w) 6 opens in
    let words = drop-cons part i 0 l in
    same ∙ ap (walk h (seen e 0) p) (whole_rest i part ∙ words)
    ∙ from_middle h e p w (drop (suc i) part) 0 (sets_of 0 (take i part)) (rw six)
    ∙ ap (walk h (up_to part e i) p) (sym words)

-- the loops over words, steps and sequences of a part that begins at position p: no more is opened than was read
pub record Reading (p : ℕ) (h : Head) (part : List ℕ) (e₀ : Earlier) (at : ℕ) (e : Earlier) (i : ℕ) : Type 0 where
  pub read : Read h part e₀ at e i
  pub steps : e.steps ≤ p + i
  pub sequences : e.sequences ≤ p + i

module _ (p : ℕ) (h : Head) (part : List ℕ) (e₀ : Earlier) (at : ℕ) (e : Earlier) (i : ℕ) (here : Reading p h part e₀ at e i) where
  pub reading_turn : (fault : Option Refusal) → i < length part → fault ≡ None → fault ≡ fault_at h (up_to part e i) (p + i) (get_or part i 0)
      → Reading p h part e₀ at (passed e (get_or part i 0)) (i + 1)
  reading_turn fault l none judged =
      let w = get_or part i 0 in
      let turn = read_turn h part e₀ at e i here.read l (λ q. none_found h (up_to part e i) q w (fine h (up_to part e i) (p + i) w (sym judged ∙ none))) in
      grind (arith, byte_le (is_kind 5 w), byte_le (is_kind 6 w))

  pub reading_on : (last next : ℕ) → Read h part e i (with_last e last) next → Reading p h part e₀ at (with_last e last) next
  reading_on last next more = grind (arith, read_on h part e₀ at e i here.read (with_last e last) next more)

-- ---- a sequence's words

-- the loops over a sequence's words, four at a time and one by one
pub record Fours (h : Head) (part : List ℕ) (last at l i : ℕ) : Type 0 where
  pub read : (e : Earlier) → 0 < e.sequences → Read h part (with_last e last) at (with_last e l) i
  pub follows : in_alternative l ≡ true

module _ (h : Head) (part : List ℕ) (last at : ℕ) where
  pub one_turn : (l i j : ℕ) → i < length part → i + 1 ≡ j → inside_right h (get_or part i 0) ≡ true
      → Fours h part last at l i → Fours h part last at (get_or part i 0) j
  one_turn l i j lt next right here =
      let w = get_or part i 0 in
      let body : (e : Earlier) → 0 < e.sequences → body_right h e l w ≡ true = λ e opened. inside_body h e l w opened here.follows right in
      record {
        read = λ e opened.
            subst (Read h part (with_last e last) at (with_last e w)) next
            (read_pass h part (with_last e last) at (with_last e l) i (here.read e opened) (with_last e w) lt (body_passing h e l w (body e opened) (sets_of 0 (take i part))));
        follows = grind (arith, nat_tests);
      }

  pub fours_turn : (l i : ℕ) → i + 4 ≤ length part → FourRight h part i → Fours h part last at l i
      → Fours h part last at (get_or part (i + 3) 0) (i + 4)
  fours_turn l i lt right here =
      one_turn (get_or part (i + 2) 0) (i + 3) (i + 4) (omega arith) (omega arith) right.fourth
      (one_turn (get_or part (i + 1) 0) (i + 2) (i + 3) (omega arith) (omega arith) right.third
      (one_turn (get_or part i 0) (i + 1) (i + 2) (omega arith) (omega arith) right.second
      (one_turn l i (i + 1) (omega arith) refl right.first here)))

-- where one has stopped, another reads on
pub fours_on : (h : Head) (part : List ℕ) (last at l i : ℕ) (r : Body) → Fours h part last at l i → FoursRead h part l i r → FoursRead h part last at r
fours_on h part last at l i r here rest e opened = read_on _ _ _ _ _ _ (here.read e opened) _ _ (rest e opened)
