-- What acceptance says, proved from the check's definition: no word has a fault, each part holds its own kinds of words with their
-- numbers, and the library is counted as the head says.
-- It has, in this order: where a word may stand; the words of either part; the numbers of openers and how many there are; the parts of the
-- words between; the library's steps and entries; and of an accepted image `checks`, `faultless`, `parts`, `counted`, `library_is`, `steps_below`
-- and `alternatives_named`, which are what other crates cite. What a passed test says stands in Passed, that no step clears what it sets in
-- Apart, how large a library can be in Sizes, where its parts meet in Seam.
-- Assumes nothing.
use Prim.Native.Nat.{ℕ, zero, suc, ◌+◌, ◌-◌, ◌≤◌, ◌<◌}
use native.Mathlib.Nat.{le_of_suc-le-suc, add-zero, zero-add}
use native.Mathlib.Omega.{arith}
use mathlib.Core.Path.{◌≡◌, refl, sym, ap, ap₂, ◌∙◌}
use mathlib.Core.Bool.{Bool, true, false, cond, ◌&&◌, ◌||◌}
use mathlib.Core.Logic.{◌⊎◌, inl, inr, ⊎_elim}
use mathlib.Core.List.{List, [], ◌∷◌, ◌++◌, append-nil}
use lib.ListN.{length, get_or, take, length-append, length-take, get_or-append}
use lib.Seq.{take-append-le, append_snoc, take-take, get_or-take}
use lib.Dec.{leb, ltb, eqb}
use borrow.Author.Tests.{leb-true, ltb-true, eqb-true, eqb-false}
use mir.Val.{bool_byte}
use Rattle.image.specs.Word.{kind, payload, is_kind, is_fact, is_entry, head_of, head_right, sum_right}
use Rattle.rules.specs.Rules.{opened, Before, earlier, may_stand, fault_at}
use Rattle.rules.specs.Quick.{after}
use Rattle.rules.specs.Checked.{scan, all_but_last, between, first_word, last_word, checked}
use Rattle.rules.specs.Walk.{walk, opening}
use Rattle.library.specs.Library.{step, check, item, call, entry_of, facts_from, steps_from, alternatives_from, sequences_from, before_sequences, from_sequences, steps_part, sequences_part, library_of}
use Rattle.general.specs.Tests.{All}
use Rattle.library.specs.Accepted.{Faultless, StepWord, SequenceWord, Parts, Named, Below, Counted, HighEntry}
use Rattle.image.specs.declared.answer.Head.{Head}
use Rattle.image.specs.declared.answer.Refusal.TheVariants.{Length, SumWord, HeadWord}
use Rattle.general.proofs.Bools.{and_left, and_right, or_cases, or_five}
use Rattle.image.proofs.Head.{HeadRule, head_rule}
use Rattle.image.proofs.Words.{fact_kind, entry_kinds, entry_high}
use Rattle.library.proofs.Decode.{is_not, kind_is, alternatives_all, parts_opened, parts_joined, steps_length, sequences_length}
use Rattle.rules.proofs.Checked.{checked_walk}
use Rattle.rules.proofs.Faultless.{Fine, fine, payloads}
use Rattle.library.proofs.Passed.{passed, passed_word, walk_cons, walk_nil}
use Rattle.library.proofs.Apart.{steps_apart}
use Rattle.library.proofs.Seam.{length_between}
use Rattle.std.specs.Prelude.{None, Ok}

-- ---- where a word may stand

-- which clause of the rule for kinds lets a word stand
data Place (h : Head) (e : Before) (w : ℕ) : Type 0 where
  fact_word : is_fact w ≡ true → (is_kind 5 e.last || is_fact e.last) ≡ true → Place h e w
  step_opener : kind w ≡ 5 → e.sequences ≡ 0 → Place h e w
  sequence_opener : kind w ≡ 6 → h.steps ≤ e.steps → Place h e w
  alternative_opener : kind w ≡ 7 → 0 < e.sequences → Place h e w
  entry_word : is_entry w ≡ true → (is_kind 7 e.last || is_entry e.last) ≡ true → Place h e w

place : (h : Head) (e : Before) (w : ℕ) → may_stand h e w ≡ true → Place h e w
place h e w s = go (or_five (is_fact w && after_step) (is_kind 5 w && eqb e.sequences 0) (is_kind 6 w && leb h.steps e.steps) (is_kind 7 w && ltb 0 e.sequences) (is_entry w && after_entry) s)
  where
    after_step : Bool
    after_step = is_kind 5 e.last || is_fact e.last

    after_entry : Bool
    after_entry = is_kind 7 e.last || is_entry e.last

    go : (is_fact w && after_step ≡ true) ⊎ (is_kind 5 w && eqb e.sequences 0 ≡ true) ⊎ (is_kind 6 w && leb h.steps e.steps ≡ true)
        ⊎ (is_kind 7 w && ltb 0 e.sequences ≡ true) ⊎ (is_entry w && after_entry ≡ true) → Place h e w
    go (inl t) = fact_word (and_left (is_fact w) after_step t) (and_right (is_fact w) after_step t)
    go (inr (inl t)) = step_opener (kind_is 5 w (and_left (is_kind 5 w) _ t)) (eqb-true _ _ (and_right (is_kind 5 w) _ t))
    go (inr (inr (inl t))) = sequence_opener (kind_is 6 w (and_left (is_kind 6 w) _ t)) (leb-true _ _ (and_right (is_kind 6 w) _ t))
    go (inr (inr (inr (inl t)))) = alternative_opener (kind_is 7 w (and_left (is_kind 7 w) _ t)) (ltb-true _ _ (and_right (is_kind 7 w) _ t))
    go (inr (inr (inr (inr t)))) = entry_word (and_left (is_entry w) after_entry t) (and_right (is_entry w) after_entry t)

-- ---- the words of the two parts

small : (w : ℕ) → (is_kind 5 w || is_fact w) ≡ true → kind w ≤ 5
small w s = ⊎_elim (λ t. omega (arith, kind_is 5 w t)) (λ t. omega (arith, fact_kind w t)) (or_cases (is_kind 5 w) (is_fact w) s)

large : (w : ℕ) → (is_kind 7 w || is_entry w) ≡ true → 7 ≤ kind w
large w s = ⊎_elim (λ t. omega (arith, kind_is 7 w t)) (λ t. omega (arith, entry_high w t)) (or_cases (is_kind 7 w) (is_entry w) s)

step_word : (h : Head) (e : Before) (w : ℕ) → Fine h e w → e.sequences ≡ 0 → kind e.last ≤ 5 → (kind w ≡ 6 → ⊥) → StepWord h w
step_word h e w f none last other = go (place h e w f.stands)
  where
    go : Place h e w → StepWord h w
    go (fact_word t a) =
        record { low = (fact_kind w t).0; high = omega (arith, fact_kind w t); fact = λ k. (payloads h e w f.pays).fact t }
    go (step_opener t a) = record { low = omega arith; high = omega arith; fact = λ k. absurd (omega arith) }
    go (sequence_opener t a) = absurd (other t)
    go (alternative_opener t a) = absurd (omega arith)
    go (entry_word t a) = absurd (omega (arith, large e.last a))

sequence_word : (h : Head) (e : Before) (w : ℕ) → Fine h e w → (kind w ≡ 6) ⊎ ((0 < e.sequences) × (6 ≤ kind e.last)) → SequenceWord h w
sequence_word h e w f late =
    record {
      among = go (place h e w f.stands) late;
      step = (payloads h e w f.pays).names_step;
      sequence = (payloads h e w f.pays).names_sequence;
      check = (payloads h e w f.pays).names_fact;
    }
  where
    go : Place h e w → (kind w ≡ 6) ⊎ ((0 < e.sequences) × (6 ≤ kind e.last)) → (kind w ≡ 6) ⊎ (kind w ≡ 7) ⊎ (is_entry w ≡ true)
    go p (inl six) = inl six
    go (fact_word t a) (inr l) = absurd (omega (arith, small e.last a))
    go (step_opener t a) (inr l) = absurd (omega arith)
    go (sequence_opener t a) (inr l) = inl t
    go (alternative_opener t a) (inr l) = inr (inl t)
    go (entry_word t a) (inr l) = inr (inr t)

-- it is an entry if its kind is 8 or above
pub sequence_entry : {h : Head} (w : ℕ) → SequenceWord h w → HighEntry w
sequence_entry w word k = ⊎_elim (λ six. absurd (omega arith)) (λ more. ⊎_elim (λ seven. absurd (omega arith)) (λ entry. entry) more) word.among

sequence_high : {h : Head} (w : ℕ) → SequenceWord h w → 6 ≤ kind w
sequence_high w word = ⊎_elim (λ k. omega arith) (λ k. ⊎_elim (λ l. omega arith) (λ l. omega (arith, entry_high w l)) k) word.among

opens : (k w : ℕ) → (kind w ≡ k → ⊥) → bool_byte (is_kind k w) ≡ 0
opens k w d = ap bool_byte (is_not k w d)

steps_words : (h : Head) (e : Before) (p : ℕ) (ws : List ℕ) (g : Head) → walk h e p ws ≡ Ok g → e.sequences ≡ 0 → kind e.last ≤ 5
    → All (StepWord h) (before_sequences ws)
unfolding before_sequences
steps_words h e p [] g a none last = tt
steps_words h e p (w ∷ ws) g a none last =
    let c = walk_cons h e p w ws g a in
    go (is_kind 6 w) refl (fine h e p w c.0) (steps_words h (after e w) (suc p) ws g c.1)
  where
    go : (b : Bool) → is_kind 6 w ≡ b → Fine h e w
        → (e.sequences + bool_byte (is_kind 6 w) ≡ 0 → kind w ≤ 5 → All (StepWord h) (before_sequences ws))
        → All (StepWord h) (cond b [] (w ∷ before_sequences ws))
    go true q f rest = tt
    go false q f rest =
        let word = step_word h e w f none last (eqb-false (kind w) 6 q) in
        (word, rest (omega (arith, ap bool_byte q)) word.high)

later_words : (h : Head) (e : Before) (p : ℕ) (ws : List ℕ) (g : Head) → walk h e p ws ≡ Ok g → 0 < e.sequences → 6 ≤ kind e.last
    → All (SequenceWord h) ws
later_words h e p [] g a some last = tt
later_words h e p (w ∷ ws) g a some last =
    let c = walk_cons h e p w ws g a in
    let word = sequence_word h e w (fine h e p w c.0) (inr (some, last)) in
    (word, later_words h (after e w) (suc p) ws g c.1 (omega arith) (sequence_high w word))

sequences_words : (h : Head) (e : Before) (p : ℕ) (ws : List ℕ) (g : Head) → walk h e p ws ≡ Ok g → All (SequenceWord h) (from_sequences ws)
unfolding from_sequences
sequences_words h e p [] g a = tt
sequences_words h e p (w ∷ ws) g a =
    let c = walk_cons h e p w ws g a in
    go (is_kind 6 w) refl (fine h e p w c.0) c.1 (sequences_words h (after e w) (suc p) ws g c.1)
  where
    go : (b : Bool) → is_kind 6 w ≡ b → Fine h e w → walk h (after e w) (suc p) ws ≡ Ok g → All (SequenceWord h) (from_sequences ws)
        → All (SequenceWord h) (cond b (w ∷ ws) (from_sequences ws))
    go true q f r rest =
        (sequence_word h e w f (inl (kind_is 6 w q)), later_words h (after e w) (suc p) ws g r (omega (arith, ap bool_byte q)) (omega (arith, kind_is 6 w q)))
    go false q f r rest = rest

-- ---- the numbers of openers, and how many there are

numbers : (h : Head) (e : Before) (p : ℕ) (ws : List ℕ) (g : Head) → walk h e p ws ≡ Ok g → (i : ℕ) → i < length ws
    → (kind (get_or ws i 0) ≡ 5 → payload (get_or ws i 0) ≡ e.steps + opened 5 (take i ws))
    × (kind (get_or ws i 0) ≡ 6 → payload (get_or ws i 0) ≡ e.sequences + opened 6 (take i ws))
unfolding opened
numbers h e p [] g a i l = absurd (omega arith)
numbers h e p (w ∷ ws) g a zero l =
    let f = payloads h e w (fine h e p w (walk_cons h e p w ws g a).0).pays in
    ((λ k. omega (arith, f.step k)), (λ k. omega (arith, f.sequence k)))
numbers h e p (w ∷ ws) g a (suc i) l =
    let ih = numbers h (after e w) (suc p) ws g (walk_cons h e p w ws g a).1 i (le_of_suc-le-suc l) in
    ((λ k. omega (arith, ih.0 k)), (λ k. omega (arith, ih.1 k)))

counts : (h : Head) (e : Before) (p : ℕ) (ws : List ℕ) (g : Head) → walk h e p ws ≡ Ok g → e.steps ≤ h.steps → e.sequences ≤ h.sequences
    → (e.steps + opened 5 ws ≡ h.steps) × (e.sequences + opened 6 ws ≡ h.sequences)
unfolding opened
counts h e p [] g a s q = omega (arith, walk_nil h e p g a)
counts h e p (w ∷ ws) g a s q =
    let c = walk_cons h e p w ws g a in
    let f = payloads h e w (fine h e p w c.0).pays in
    let ih =
    counts h (after e w) (suc p) ws g c.1 (grows 5 w e.steps h.steps s (λ k. omega (arith, f.step k)))
    (grows 6 w e.sequences h.sequences q (λ k. omega (arith, f.sequence k))) in
    omega arith
  where
    grows : (k w n m : ℕ) → n ≤ m → (kind w ≡ k → n < m) → n + bool_byte (is_kind k w) ≤ m
    grows k w n m l more = go (is_kind k w) refl
      where
        go : (b : Bool) → is_kind k w ≡ b → n + bool_byte b ≤ m
        go true q = omega (arith, more (kind_is k w q))
        go false q = omega arith

walk_head : (h : Head) (e : Before) (p : ℕ) (ws : List ℕ) (g : Head) → walk h e p ws ≡ Ok g → h ≡ g
walk_head h e p [] g a = (walk_nil h e p g a).0
walk_head h e p (w ∷ ws) g a = walk_head h (after e w) (suc p) ws g (walk_cons h e p w ws g a).1

-- ---- the two parts of the words between

steps_numbers : (h : Head) (e : Before) (p : ℕ) (ws : List ℕ) (g : Head) → walk h e p ws ≡ Ok g → (i : ℕ) → i < length (before_sequences ws)
    → kind (get_or (before_sequences ws) i 0) ≡ 5 → payload (get_or (before_sequences ws) i 0) ≡ e.steps + opened 5 (take i (before_sequences ws))
steps_numbers h e p ws g a i l k =
    let b = before_sequences ws in
    let f = from_sequences ws in
    let j = parts_joined ws in
    let at : get_or ws i 0 ≡ get_or b i 0 = ap (λ (x : List ℕ). get_or x i 0) (sym j) ∙ get_or-append b f 0 i l in
    let cut : take i ws ≡ take i b = ap (take i) (sym j) ∙ take-append-le i b f (omega arith) in
    let below : i < length ws = omega (arith, ap length j, length-append b f) in
    ap payload (sym at) ∙ (numbers h e p ws g a i below).0 (ap kind at ∙ k) ∙ ap (λ (x : List ℕ). e.steps + opened 5 x) cut

sequences_numbers : (h : Head) (e : Before) (p : ℕ) (ws : List ℕ) (g : Head) → walk h e p ws ≡ Ok g → (i : ℕ) → i < length (from_sequences ws)
    → kind (get_or (from_sequences ws) i 0) ≡ 6 → payload (get_or (from_sequences ws) i 0) ≡ e.sequences + opened 6 (take i (from_sequences ws))
unfolding from_sequences
sequences_numbers h e p [] g a i = λ l k. absurd (omega arith)
sequences_numbers h e p (w ∷ ws) g a i = go (is_kind 6 w) refl (sequences_numbers h (after e w) (suc p) ws g (walk_cons h e p w ws g a).1 i)
  where
    go : (b : Bool) → is_kind 6 w ≡ b
        → (i < length (from_sequences ws) → kind (get_or (from_sequences ws) i 0) ≡ 6 → payload (get_or (from_sequences ws) i 0) ≡ e.sequences + bool_byte (is_kind 6 w) + opened 6 (take i (from_sequences ws)))
        → i < length (cond b (w ∷ ws) (from_sequences ws)) → kind (get_or (cond b (w ∷ ws) (from_sequences ws)) i 0) ≡ 6
        → payload (get_or (cond b (w ∷ ws) (from_sequences ws)) i 0) ≡ e.sequences + opened 6 (take i (cond b (w ∷ ws) (from_sequences ws)))
    go true q rest l k = (numbers h e p (w ∷ ws) g a i l).1 k
    go false q rest l k = omega (arith, rest l k, ap bool_byte q)

-- no step is opened among the sequences
no_steps : (h : Head) (ws : List ℕ) → All (SequenceWord h) ws → opened 5 ws ≡ 0
unfolding opened
no_steps h [] a = refl
no_steps h (w ∷ ws) a = omega (arith, no_steps h ws a.1, opens 5 w (λ k. omega (arith, sequence_high w a.0)))

-- no sequence is opened among the steps
no_sequences : (h : Head) (ws : List ℕ) → All (StepWord h) ws → opened 6 ws ≡ 0
unfolding opened
no_sequences h [] a = refl
no_sequences h (w ∷ ws) a = omega (arith, no_sequences h ws a.1, opens 6 w (λ k. omega (arith, a.0.high)))

-- ---- the library's steps and entries

facts_below : (h : Head) (k : ℕ) (ws : List ℕ) → All (StepWord h) ws → All (λ (f : ℕ). f < h.facts) (facts_from k ws)
unfolding facts_from
facts_below h k [] a = tt
facts_below h k (w ∷ ws) a = go (is_fact w) (is_kind k w) refl (facts_below h k ws a.1)
  where
    go : (b c : Bool) → is_fact w ≡ b → All (λ (f : ℕ). f < h.facts) (facts_from k ws)
        → All (λ (f : ℕ). f < h.facts) (cond b (cond c (payload w ∷ facts_from k ws) (facts_from k ws)) [])
    go true true q rest = (a.0.fact (fact_kind w q).1, rest)
    go true false q rest = rest
    go false c q rest = tt

pub steps_below : (h : Head) (ws : List ℕ) → All (StepWord h) ws → All (Below h.facts) (steps_from ws)
unfolding steps_from
steps_below h [] a = tt
steps_below h (w ∷ ws) a = go (is_kind 5 w) (steps_below h ws a.1)
  where
    go : (b : Bool) → All (Below h.facts) (steps_from ws)
        → All (Below h.facts) (cond b (record { needs = facts_from 2 ws; sets = facts_from 3 ws; clears = facts_from 4 ws } ∷ steps_from ws) (steps_from ws))
    go true rest = ((facts_below h 2 ws a.1, facts_below h 3 ws a.1, facts_below h 4 ws a.1), rest)
    go false rest = rest

entry_named : (h : Head) (w : ℕ) → SequenceWord h w → is_entry w ≡ true → Named h (entry_of w)
entry_named h w s e = go (is_kind 8 w) (is_kind 13 w) refl refl
  where
    go : (b c : Bool) → is_kind 8 w ≡ b → is_kind 13 w ≡ c → Named h (cond b (item (step (payload w))) (cond c (item (check (payload w))) (call (payload w))))
    go true c q r = s.step (kind_is 8 w q)
    go false true q r = s.check (kind_is 13 w r)
    go false false q r = s.sequence (entry_kinds w e (eqb-false (kind w) 8 q) (eqb-false (kind w) 13 r))

pub alternatives_named : (h : Head) (ws : List ℕ) → All (SequenceWord h) ws → All (All (Named h)) (alternatives_from ws)
alternatives_named h = alternatives_all (Named h) (All (SequenceWord h)) (λ w ws o a. a.1) (λ w ws e a. entry_named h w a.0 e)

sequences_named : (h : Head) (ws : List ℕ) → All (SequenceWord h) ws → All (All (All (Named h))) (sequences_from ws)
unfolding sequences_from
sequences_named h [] a = tt
sequences_named h (w ∷ ws) a = go (is_kind 6 w) (sequences_named h ws a.1)
  where
    go : (b : Bool) → All (All (All (Named h))) (sequences_from ws) → All (All (All (Named h))) (cond b (alternatives_from ws ∷ sequences_from ws) (sequences_from ws))
    go true rest = (alternatives_named h ws a.1, rest)
    go false rest = rest

-- ---- an accepted image

-- no word that was looked at has a fault
scanned : (h : Head) (before ws : List ℕ) (g : Head) → scan h before ws ≡ Ok g → (i : ℕ) → i < length ws
    → fault_at h (earlier (before ++ take i ws)) (length before + i) (get_or ws i 0) ≡ None
unfolding scan
scanned h before [] g a i l = absurd (omega arith)
scanned h before (w ∷ ws) g a zero l = rw (append-nil before, add-zero (length before)) (passed_word (fault_at h (earlier before) (length before) w) _ g a).0
scanned h before (w ∷ ws) g a (suc i) l =
    let n : length before + suc i ≡ length (before ++ (w ∷ [])) + i = omega (arith, length-append before (w ∷ [])) in
    ap₂ (λ (b : List ℕ) (p : ℕ). fault_at h (earlier b) p (get_or ws i 0)) (sym (append_snoc before w (take i ws))) n
    ∙ scanned h (before ++ (w ∷ [])) ws g (passed_word (fault_at h (earlier before) (length before) w) _ g a).1 i (le_of_suc-le-suc l)

pub record Checks (image : List ℕ) (h : Head) : Type 0 where
  pub low : 2 ≤ length image
  pub high : length image ≤ 8192
  pub sum : sum_right (all_but_last image) (last_word image) ≡ true
  pub head : head_right (first_word image) ≡ true
  pub scans : scan (head_of (first_word image)) (take 1 image) (between image) ≡ Ok h

pub checks : (image : List ℕ) (h : Head) → checked image ≡ Ok h → Checks image h
unfolding checked
checks image h a =
    let l = passed (leb 2 (length image) && leb (length image) 8192) _ Length h a in
    let s = passed (sum_right (all_but_last image) (last_word image)) _ (SumWord (length image - 1)) h l.1 in
    let k = passed (head_right (first_word image)) _ HeadWord h s.1 in
    record {
      low = leb-true 2 (length image) (and_left (leb 2 (length image)) _ l.0);
      high = leb-true (length image) 8192 (and_right (leb 2 (length image)) _ l.0);
      sum = s.0;
      head = k.0;
      scans = k.1;
    }

walked : (image : List ℕ) (h : Head) → checked image ≡ Ok h
    → walk (head_of (first_word image)) (opening (first_word image)) 1 (between image) ≡ Ok h
walked image h a = let c = checks image h a in checked_walk image c.low c.high c.sum c.head ∙ a

-- the words up to a word between, and that word, as the scan has them
up_to : (image : List ℕ) (i : ℕ) → 1 ≤ length image → i ≤ length image - 2 → take 1 image ++ take i (between image) ≡ take (suc i) image
up_to [] i l u = absurd (omega arith)
up_to (w ∷ ws) i l u = ap (λ (x : List ℕ). w ∷ x) (take-take i (length (w ∷ ws) - 2) ws u)

word_between : (image : List ℕ) (i : ℕ) → i < length image - 2 → get_or (between image) i 0 ≡ get_or image (suc i) 0
word_between [] i l = absurd (omega arith)
word_between (w ∷ ws) i l = get_or-take (length (w ∷ ws) - 2) ws i 0 l

module _ (image : List ℕ) (h : Head) (a : checked image ≡ Ok h) where
  head_is : h ≡ head_of (first_word image)
  head_is = sym (walk_head (head_of (first_word image)) _ _ (between image) h (walked image h a))

  -- the walk and the scan, at the head that was accepted
  walks : walk h (opening (first_word image)) 1 (between image) ≡ Ok h
  walks = ap (λ (g : Head). walk g (opening (first_word image)) 1 (between image)) head_is ∙ walked image h a

  scans : scan h (take 1 image) (between image) ≡ Ok h
  scans = ap (λ (g : Head). scan g (take 1 image) (between image)) head_is ∙ (checks image h a).scans

  rule : HeadRule (first_word image)
  rule = head_rule (first_word image) (checks image h a).head

  no_fault : (p : ℕ) → 1 ≤ p → p + 1 < length image → fault_at h (earlier (take p image)) p (get_or image p 0) ≡ None
  no_fault zero l u = absurd (omega arith)
  no_fault (suc i) l u =
      let one : length (take 1 image) + i ≡ suc i = omega (arith, length-take 1 image) in
      ap₂ (λ (b : List ℕ) (w : ℕ). fault_at h (earlier b) (suc i) w) (sym (up_to image i (omega arith) (omega arith))) (sym (word_between image i (omega arith)))
      ∙ ap (λ (p : ℕ). fault_at h (earlier (take 1 image ++ take i (between image))) p (get_or (between image) i 0)) (sym one)
      ∙ scanned h (take 1 image) (between image) h scans i (omega (arith, length_between image))

  pub faultless : Faultless image h
  faultless =
      let c = checks image h a in
      let r = rule in
      record {
        low = c.low;
        high = c.high;
        head = head_is;
        facts_low = rw head_is r.facts_low;
        facts_high = rw head_is r.facts_high;
        steps_high = rw head_is r.steps_high;
        sequences_high = rw head_is r.sequences_high;
        payload = rw head_is (omega arith);
        between = no_fault;
      }

  pub parts : Parts image h
  unfolding steps_part sequences_part
  parts =
      let e = opening (first_word image) in
      let ws = between image in
      let one : kind (first_word image) ≡ 1 = kind_is 1 (first_word image) rule.first in
      let steps = steps_words h e 1 ws h walks refl (omega arith) in
      let sequences = sequences_words h e 1 ws h walks in
      let n = counts h e 1 ws h walks (omega arith) (omega arith) in
      record {
        steps = steps;
        steps_numbered = λ i l k. steps_numbers h e 1 ws h walks i l k ∙ zero-add _;
        steps_opened = omega (arith, n, parts_opened 5 ws, no_steps h (from_sequences ws) sequences);
        sequences = sequences;
        sequences_numbered = λ i l k. sequences_numbers h e 1 ws h walks i l k ∙ zero-add _;
        sequences_opened = omega (arith, n, parts_opened 6 ws, no_sequences h (before_sequences ws) steps);
        sequences_short =
            omega (arith, ap length (parts_joined ws), length-append (before_sequences ws) (from_sequences ws), length_between image, (checks image h a).high);
      }

  pub counted : Counted (library_of image) h
  unfolding library_of steps_part
  counted =
      record {
        facts = ap (λ (g : Head). g.facts) (sym head_is);
        steps = steps_length (steps_part image) ∙ parts.steps_opened;
        sequences = sequences_length (sequences_part image) ∙ parts.sequences_opened;
        below = steps_below h (steps_part image) parts.steps;
        apart = steps_apart h (opening (first_word image)) 1 (between image) h walks;
        named = sequences_named h (sequences_part image) parts.sequences;
      }

  -- the library by its head and its two parts
  pub library_is : library_of image ≡ record { facts = h.facts; steps = steps_from (steps_part image); sequences = sequences_from (sequences_part image) }
  unfolding library_of
  library_is =
      ap (λ (g : Head). record { facts = g.facts; steps = steps_from (steps_part image); sequences = sequences_from (sequences_part image) }) (sym head_is)
