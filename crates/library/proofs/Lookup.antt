-- What the tables say where they are looked up: a step's three words bit by bit, and a sequence by its place.
-- Assumes nothing.
use Prim.Native.Nat.{ℕ, zero, suc, ◌+◌, ◌*◌, ◌^◌, ◌≤◌, ◌<◌}
use native.Mathlib.Nat.{le_of_suc-le-suc, zero-add}
use native.Mathlib.Decide.{dec_lt}
use native.Mathlib.Omega.{arith}
use mathlib.Core.Path.{◌≡◌, refl, sym, ap, ap₂, ◌∙◌}
use mathlib.Core.Bool.{Bool, true, false, cond, ◌||◌}
use mathlib.Core.List.{List, [], ◌∷◌}
use lib.ListN.{length, get_or, drop, get_or-eq_default}
use mir.Val.{bool_byte}
use Rattle.column.specs.Column.{bit}
use Rattle.column.specs.Sets.{in_column}
use Rattle.column.proofs.Bits.{bit_column, column_lt, column_none}
use Rattle.column.proofs.Low.{column_low}
use Rattle.column.proofs.Operations.{in_column_lem}
use Rattle.image.specs.Word.{kind, is_kind}
use Rattle.rules.specs.Rules.{opened}
use Rattle.library.specs.Library.{has, Step, alternatives_from, sequences_from}
use Rattle.general.specs.Tests.{All}
use Rattle.column.specs.Words.{block, facts_in}
use Rattle.library.specs.Tables.{mask_words, mask_of, masks, places_from}
use Rattle.library.proofs.Decode.{kind_is, sequences_open, sequences_skip}
use borrow.Author.Tests.{eqb-false, ne_eqb}

-- bit b of a mask is set exactly where fact 64 k + b is one of its facts
pub mask_bit : (k : ℕ) (facts : List ℕ) (b : ℕ) → b < 64 → bit (mask_of k facts) b ≡ bool_byte (has (64 * k + b) facts)
unfolding mask_of
mask_bit k facts b l = bit_column 64 (block k (λ (f : ℕ). has f facts)) b l

pub mask_has : (k : ℕ) (facts : List ℕ) (b : ℕ) → b < 64 → in_column (mask_of k facts) b ≡ has (64 * k + b) facts
unfolding mask_of
mask_has k facts b l = in_column_lem 64 (block k (λ (f : ℕ). has f facts)) b l

pub mask_none : (k : ℕ) → mask_of k [] ≡ 0
unfolding mask_of has
mask_none k = column_none 64

pub mask_lt : (k : ℕ) (facts : List ℕ) → mask_of k facts < 2 ^ 64
unfolding mask_of
mask_lt k facts = column_lt 64 (block k (λ (f : ℕ). has f facts))

-- three words a step
masks_length : (b : ℕ) (ss : List Step) → length (masks b ss) ≡ mask_words * length ss
unfolding masks
masks_length b [] = refl
masks_length b (s ∷ ss) = omega (arith, masks_length b ss)

-- the words of step a
row_at : (b : ℕ) (ss : List Step) (a : ℕ) (d : Step) → a < length ss
    → (get_or (masks b ss) (mask_words * a) 0 ≡ mask_of b (get_or ss a d).needs)
    × (get_or (masks b ss) (mask_words * a + 1) 0 ≡ mask_of b (get_or ss a d).sets)
    × (get_or (masks b ss) (mask_words * a + 2) 0 ≡ mask_of b (get_or ss a d).clears)
unfolding masks
row_at b [] a d l = absurd (omega arith)
row_at b (s ∷ ss) zero d l = (refl, refl, refl)
row_at b (s ∷ ss) (suc a) d l =
    let n : mask_words * suc a ≡ suc (suc (suc (mask_words * a))) = omega arith in
    let m : mask_words * suc a + 1 ≡ suc (suc (suc (mask_words * a + 1))) = omega arith in
    let k : mask_words * suc a + 2 ≡ suc (suc (suc (mask_words * a + 2))) = omega arith in
    let ih = row_at b ss a d (le_of_suc-le-suc l) in
    (rw n ih.0, rw m ih.1, rw k ih.2)

-- a step that names no fact
abbrev pub no_facts : Step
no_facts = record { needs = []; sets = []; clears = [] }

-- the words of step a; past the steps, those of one that names no fact
pub words_at : (b : ℕ) (ss : List Step) (a : ℕ)
    → (get_or (masks b ss) (mask_words * a) 0 ≡ mask_of b (get_or ss a no_facts).needs)
    × (get_or (masks b ss) (mask_words * a + 1) 0 ≡ mask_of b (get_or ss a no_facts).sets)
    × (get_or (masks b ss) (mask_words * a + 2) 0 ≡ mask_of b (get_or ss a no_facts).clears)
words_at b ss a =
    elim (dec_lt a (length ss)) [
      | yes l ↦ row_at b ss a no_facts l
      | no l ↦
          let past : get_or ss a no_facts ≡ no_facts = get_or-eq_default ss no_facts {n = a} (omega arith) in
          let nothing : (k : ℕ) → mask_words * length ss ≤ k → get_or (masks b ss) k 0 ≡ mask_of b [] =
          λ k le. get_or-eq_default (masks b ss) 0 {n = k} (omega (arith, masks_length b ss)) ∙ sym (mask_none b) in (
            nothing (mask_words * a) (omega arith) ∙ ap (λ (s : Step). mask_of b s.needs) (sym past),
            nothing (mask_words * a + 1) (omega arith) ∙ ap (λ (s : Step). mask_of b s.sets) (sym past),
            nothing (mask_words * a + 2) (omega arith) ∙ ap (λ (s : Step). mask_of b s.clears) (sym past),
          )
    ]

-- word j, which has index p where the first word has index i, opens sequence c
record Opens (ws : List ℕ) (i c p : ℕ) : Type 0 where
  j : ℕ
  index : p ≡ i + j
  within : j < length ws
  opener : kind (get_or ws j 0) ≡ 6
  reads : alternatives_from (drop (suc j) ws) ≡ get_or (sequences_from ws) c []

opens_at : (ws : List ℕ) (i c : ℕ) → c < opened 6 ws → Opens ws i c (get_or (places_from i ws) c 0)
unfolding places_from opened
opens_at [] i c l = absurd (omega arith)
opens_at (w ∷ ws) i c l = go (is_kind 6 w) refl c l (λ (n : ℕ). opens_at ws (suc i) n)
  where
    go : (b : Bool) → is_kind 6 w ≡ b → (c : ℕ) → c < bool_byte (is_kind 6 w) + opened 6 ws
        → ((n : ℕ) → n < opened 6 ws → Opens ws (suc i) n (get_or (places_from (suc i) ws) n 0))
        → Opens (w ∷ ws) i c (get_or (cond b (i ∷ places_from (suc i) ws) (places_from (suc i) ws)) c 0)
    go true e zero l rest =
        let k = kind_is 6 w e in
        record { j = 0; index = omega arith; within = omega arith; opener = k; reads = rw (sequences_open w ws k) }
    go true e (suc c) l rest =
        let r = rest c (omega (arith, ap bool_byte e)) in
        record { j = suc r.j; index = omega (arith, r.index); within = omega (arith, r.within); opener = r.opener; reads = rw (sequences_open w ws (kind_is 6 w e)) r.reads }
    go false e c l rest =
        let r = rest c (omega (arith, ap bool_byte e)) in
        record { j = suc r.j; index = omega (arith, r.index); within = omega (arith, r.within); opener = r.opener; reads = rw (sequences_skip w ws (eqb-false (kind w) 6 e)) r.reads }

-- word p opens sequence c, whose alternatives are read off the words after it
pub record Placed (ws : List ℕ) (c p : ℕ) : Type 0 where
  pub within : p < length ws
  pub opener : kind (get_or ws p 0) ≡ 6
  pub reads : alternatives_from (drop (suc p) ws) ≡ get_or (sequences_from ws) c []

-- the table of places has the place of each sequence
pub place_at : (ws : List ℕ) (c : ℕ) → c < opened 6 ws → Placed ws c (get_or (places_from 0 ws) c 0)
place_at ws c l =
    let o = opens_at ws 0 c l in
    let e : get_or (places_from 0 ws) c 0 ≡ o.j = o.index ∙ zero-add o.j in
    rw e (record { within = o.within; opener = o.opener; reads = o.reads })

-- a word a sequence
pub places_length : (i : ℕ) (ws : List ℕ) → length (places_from i ws) ≡ opened 6 ws
unfolding places_from opened
places_length i [] = refl
places_length i (w ∷ ws) = go (is_kind 6 w) (places_length (suc i) ws)
  where
    go : (b : Bool) → length (places_from (suc i) ws) ≡ opened 6 ws → length (cond b (i ∷ places_from (suc i) ws) (places_from (suc i) ws)) ≡ bool_byte b + opened 6 ws
    go true ih = omega arith
    go false ih = omega arith

-- the mask of facts below n has no bit from n upward
none_above : (n : ℕ) (facts : List ℕ) → All (λ (f : ℕ). f < n) facts → (k : ℕ) → n ≤ k → has k facts ≡ false
unfolding has
none_above n [] a k l = refl
none_above n (f ∷ facts) a k l = ap₂ ◌||◌ (ne_eqb f k (λ e. omega (arith, a.0))) (none_above n facts a.1 k l)

pub mask_low : (k n : ℕ) (facts : List ℕ) → All (λ (f : ℕ). f < n) facts → mask_of k facts < 2 ^ facts_in n k
unfolding mask_of
mask_low k n facts a = column_low 64 (facts_in n k) (block k (λ (f : ℕ). has f facts)) (λ b l u. none_above n facts a (64 * k + b) (omega arith))
