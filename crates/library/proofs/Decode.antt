-- How the library is read off the words, one word at a time, and what stands where: the laws by which the crates above follow the
-- decoding without opening it.
-- It has: kinds of words, and the entry that a word names by its kind; one word more of entries, alternatives, sequences, steps and facts (`entries_cons`, `alternatives_cons`, `sequences_open`,
-- `steps_open`, `facts_here`); the two parts; how many steps and sequences there are, and the one at a number (`step_at`,
-- `sequence_at`). Loops over them are in crate `walk` (proofs/Walking).
-- Assumes nothing.
use Prim.Native.Nat.{ℕ, zero, suc, ◌+◌, ◌≤◌, ◌<◌}
use native.Mathlib.Nat.{le_of_suc-le-suc, zero-add}
use native.Mathlib.Numerals.{one-add}
use native.Mathlib.Decide.{dec_lt}
use native.Mathlib.Omega.{arith}
use mathlib.Core.Path.{◌≡◌, refl, sym, ap, ◌∙◌, subst}
use mathlib.Core.Bool.{Bool, true, false, cond, or-false}
use mathlib.Core.List.{List, [], ◌∷◌, ◌++◌}
use lib.ListN.{length, get_or, take, drop, get_or-eq_default}
use lib.Dec.{eqb, leb}
use borrow.Author.Tests.{eq-eqb, ne_eqb, eqb-true, le-leb, leb-true}
use mir.Val.{bool_byte}
use Rattle.image.specs.Word.{kind, payload, is_kind, is_entry}
use Rattle.rules.specs.Rules.{opened}
use Rattle.general.specs.Tests.{All}
use Rattle.library.specs.Library.{has, Step, step, check, Entry, item, call, entry_of, facts_from, steps_from, entries_from, alternatives_from, sequences_from, before_sequences, from_sequences}
use Rattle.image.proofs.Words.{fact_of, entry_high}
use Rattle.general.proofs.Bools.{both_ways}
use Rattle.library.specs.Accepted.{HighEntry}

-- ---- kinds

pub is : (k w : ℕ) → kind w ≡ k → is_kind k w ≡ true
is k w e = eq-eqb (kind w) k e

pub is_not : (k w : ℕ) → (kind w ≡ k → ⊥) → is_kind k w ≡ false
is_not k w d = ne_eqb (kind w) k d

pub kind_is : (k w : ℕ) → is_kind k w ≡ true → kind w ≡ k
kind_is k w e = eqb-true (kind w) k e

pub entry_opens_none : (w : ℕ) → is_entry w ≡ true → is_kind 7 w ≡ false
entry_opens_none w e = is_not 7 w (λ q. omega (arith, entry_high w e))

-- a word of the sequences' part is an entry exactly where its kind is 8 or above
pub entry_part : (w : ℕ) → HighEntry w → leb 8 (kind w) ≡ is_entry w
entry_part w high =
    both_ways (leb 8 (kind w)) (is_entry w) (λ e. high (leb-true 8 (kind w) e)) (λ e. le-leb 8 (kind w) (entry_high w e))

-- the words of a part that are such, and 0, which stands past them
pub high_at : (part : List ℕ) → ((i : ℕ) → i < length part → HighEntry (get_or part i 0)) → (i : ℕ) → HighEntry (get_or part i 0)
high_at part each i =
    elim (dec_lt i (length part)) [
      | yes l ↦ each i l
      | no l ↦ λ k. absurd (omega (arith, get_or-eq_default part 0 {n = i} (omega arith)))
    ]

-- ---- the entry that a word names, by its kind

pub step_entry : (w : ℕ) → kind w ≡ 8 → entry_of w ≡ item (step (payload w))
step_entry w k = rw k

pub check_entry : (w : ℕ) → kind w ≡ 13 → entry_of w ≡ item (check (payload w))
check_entry w k = rw k

pub call_entry : (w : ℕ) → kind w ≡ 9 → entry_of w ≡ call (payload w)
call_entry w k = rw k

-- ---- facts of a list

pub has_none : (f : ℕ) → has f [] ≡ false
unfolding has
has_none f = refl

pub has_one : (f g : ℕ) → has f (g ∷ []) ≡ eqb g f
unfolding has
has_one f g = or-false (eqb g f)

-- ---- one word of the decoding

pub entries_nil : entries_from [] ≡ []
unfolding entries_from
entries_nil = refl

-- an entry, or the alternative's end
pub entries_cons : (w : ℕ) (ws : List ℕ) (b : Bool) → is_entry w ≡ b → entries_from (w ∷ ws) ≡ cond b (entry_of w ∷ entries_from ws) []
unfolding entries_from
entries_cons w ws b e = ap (λ (c : Bool). cond c (entry_of w ∷ entries_from ws) []) e

pub alternatives_nil : alternatives_from [] ≡ []
unfolding alternatives_from
alternatives_nil = refl

-- an alternative, an entry, or the sequence's end
pub alternatives_cons : (w : ℕ) (ws : List ℕ) (a b : Bool) → is_kind 7 w ≡ a → is_entry w ≡ b
    → alternatives_from (w ∷ ws) ≡ cond a (entries_from ws ∷ alternatives_from ws) (cond b (alternatives_from ws) [])
unfolding alternatives_from
alternatives_cons w ws a b e f =
    ap (λ (c : Bool). cond c (entries_from ws ∷ alternatives_from ws) (cond (is_entry w) (alternatives_from ws) [])) e
    ∙ ap (λ (c : Bool). cond a (entries_from ws ∷ alternatives_from ws) (cond c (alternatives_from ws) [])) f

pub sequences_open : (w : ℕ) (ws : List ℕ) → kind w ≡ 6 → sequences_from (w ∷ ws) ≡ alternatives_from ws ∷ sequences_from ws
unfolding sequences_from
sequences_open w ws e = simp (is 6 w e)

pub sequences_skip : (w : ℕ) (ws : List ℕ) → (kind w ≡ 6 → ⊥) → sequences_from (w ∷ ws) ≡ sequences_from ws
unfolding sequences_from
sequences_skip w ws d = simp (is_not 6 w d)

pub steps_open : (w : ℕ) (ws : List ℕ) → kind w ≡ 5
    → steps_from (w ∷ ws) ≡ record { needs = facts_from 2 ws; sets = facts_from 3 ws; clears = facts_from 4 ws } ∷ steps_from ws
unfolding steps_from
steps_open w ws e = simp (is 5 w e)

pub steps_skip : (w : ℕ) (ws : List ℕ) → (kind w ≡ 5 → ⊥) → steps_from (w ∷ ws) ≡ steps_from ws
unfolding steps_from
steps_skip w ws d = simp (is_not 5 w d)

pub facts_here : (k w : ℕ) (ws : List ℕ) → 2 ≤ k → k ≤ 4 → kind w ≡ k → facts_from k (w ∷ ws) ≡ payload w ∷ facts_from k ws
unfolding facts_from
facts_here k w ws l u e = simp (fact_of w (omega arith) (omega arith), is k w e)

pub facts_other : (k w : ℕ) (ws : List ℕ) → 2 ≤ kind w → kind w ≤ 4 → (kind w ≡ k → ⊥) → facts_from k (w ∷ ws) ≡ facts_from k ws
unfolding facts_from
facts_other k w ws l u d = simp (fact_of w l u, is_not k w d)

pub facts_end : (k w : ℕ) (ws : List ℕ) → kind w ≡ 5 → facts_from k (w ∷ ws) ≡ []
unfolding facts_from
facts_end k w ws e =
    simp (is_not 2 w (λ q. omega arith), is_not 3 w (λ q. omega arith), is_not 4 w (λ q. omega arith))

-- ---- the entries of a sequence

-- Q passes on from each word of a sequence to the words after it, and gives P of each entry that a word names
module _ (P : Entry → Type 0) (Q : List ℕ → Type 0) (later : (w : ℕ) (ws : List ℕ) → is_kind 6 w ≡ false → Q (w ∷ ws) → Q ws)
    (names : (w : ℕ) (ws : List ℕ) → is_entry w ≡ true → Q (w ∷ ws) → P (entry_of w)) where
  after_entry : (w : ℕ) (ws : List ℕ) → is_entry w ≡ true → Q (w ∷ ws) → Q ws
  after_entry w ws e = later w ws (is_not 6 w (λ k. omega (arith, entry_high w e)))

  entries_all : (ws : List ℕ) → Q ws → All P (entries_from ws)
  entries_all [] q = subst (All P) (sym entries_nil) tt
  entries_all (w ∷ ws) q = go (is_entry w) refl (λ r. entries_all ws r)
    where
      go : (b : Bool) → is_entry w ≡ b → (Q ws → All P (entries_from ws)) → All P (entries_from (w ∷ ws))
      go true e rest = subst (All P) (sym (entries_cons w ws true e)) (names w ws e q, rest (after_entry w ws e q))
      go false e rest = subst (All P) (sym (entries_cons w ws false e)) tt

  pub alternatives_all : (ws : List ℕ) → Q ws → All (All P) (alternatives_from ws)
  alternatives_all [] q = subst (All (All P)) (sym alternatives_nil) tt
  alternatives_all (w ∷ ws) q = go (is_kind 7 w) (is_entry w) refl refl (λ r. alternatives_all ws r)
    where
      go : (a b : Bool) → is_kind 7 w ≡ a → is_entry w ≡ b → (Q ws → All (All P) (alternatives_from ws)) → All (All P) (alternatives_from (w ∷ ws))
      go true b e f rest =
          let more = later w ws (is_not 6 w (λ k. omega (arith, kind_is 7 w e))) q in
          subst (All (All P)) (sym (alternatives_cons w ws true b e f)) (entries_all ws more, rest more)
      go false true e f rest = subst (All (All P)) (sym (alternatives_cons w ws false true e f)) (rest (after_entry w ws f q))
      go false false e f rest = subst (All (All P)) (sym (alternatives_cons w ws false false e f)) tt

pub entries_short : (ws : List ℕ) → length (entries_from ws) ≤ length ws
entries_short [] = omega (arith, ap (λ (es : List Entry). length es) entries_nil)
entries_short (w ∷ ws) = go (is_entry w) refl (entries_short ws)
  where
    go : (b : Bool) → is_entry w ≡ b → length (entries_from ws) ≤ length ws → length (entries_from (w ∷ ws)) ≤ suc (length ws)
    go true e l = omega (arith, ap (λ (es : List Entry). length es) (entries_cons w ws true e))
    go false e l = omega (arith, ap (λ (es : List Entry). length es) (entries_cons w ws false e))

pub alternatives_short : (ws : List ℕ) → length (alternatives_from ws) ≤ length ws
unfolding alternatives_from
alternatives_short [] = omega arith
alternatives_short (w ∷ ws) = go (is_kind 7 w) (is_entry w) (alternatives_short ws)
  where
    go : (a b : Bool) → length (alternatives_from ws) ≤ length ws
        → length (cond a (entries_from ws ∷ alternatives_from ws) (cond b (alternatives_from ws) [])) ≤ suc (length ws)
    go true b l = omega arith
    go false true l = omega arith
    go false false l = omega arith

-- ---- the two parts

pub parts_opened : (k : ℕ) (ws : List ℕ) → opened k (before_sequences ws) + opened k (from_sequences ws) ≡ opened k ws
unfolding opened before_sequences from_sequences
parts_opened k [] = refl
parts_opened k (w ∷ ws) = go (is_kind 6 w) (parts_opened k ws)
  where
    go : (b : Bool) → opened k (before_sequences ws) + opened k (from_sequences ws) ≡ opened k ws
        → opened k (cond b [] (w ∷ before_sequences ws)) + opened k (cond b (w ∷ ws) (from_sequences ws)) ≡ bool_byte (is_kind k w) + opened k ws
    go true ih = omega arith
    go false ih = omega arith

pub parts_joined : (ws : List ℕ) → before_sequences ws ++ from_sequences ws ≡ ws
unfolding before_sequences from_sequences
parts_joined [] = refl
parts_joined (w ∷ ws) = go (is_kind 6 w) (parts_joined ws)
  where
    go : (b : Bool) → before_sequences ws ++ from_sequences ws ≡ ws → cond b [] (w ∷ before_sequences ws) ++ cond b (w ∷ ws) (from_sequences ws) ≡ w ∷ ws
    go true ih = refl
    go false ih = ap (λ (l : List ℕ). w ∷ l) ih

-- ---- how many steps and sequences are read, and where they stand

-- a list that has one element more where a test holds
module _ {A : Type 0} where
  length_more : (b : Bool) (x : A) (xs : List A) → length (cond b (x ∷ xs) xs) ≡ bool_byte b + length xs
  length_more true x xs = sym (one-add (length xs))
  length_more false x xs = sym (zero-add (length xs))

  get_d_more : (b : Bool) (x d : A) (xs : List A) (n : ℕ) → get_or (cond b (x ∷ xs) xs) (bool_byte b + n) d ≡ get_or xs n d
  get_d_more true x d xs n = rw (one-add n)
  get_d_more false x d xs n = rw (zero-add n)

pub steps_length : (ws : List ℕ) → length (steps_from ws) ≡ opened 5 ws
unfolding steps_from opened
steps_length [] = refl
steps_length (w ∷ ws) = length_more (is_kind 5 w) _ (steps_from ws) ∙ ap (λ (n : ℕ). bool_byte (is_kind 5 w) + n) (steps_length ws)

pub sequences_length : (ws : List ℕ) → length (sequences_from ws) ≡ opened 6 ws
unfolding sequences_from opened
sequences_length [] = refl
sequences_length (w ∷ ws) = length_more (is_kind 6 w) _ (sequences_from ws) ∙ ap (λ (n : ℕ). bool_byte (is_kind 6 w) + n) (sequences_length ws)

-- the opener at index i decodes to the sequence with as many sequences before it as openers stand before it
pub sequence_at : (ws : List ℕ) (i : ℕ) → i < length ws → kind (get_or ws i 0) ≡ 6
    → get_or (sequences_from ws) (opened 6 (take i ws)) [] ≡ alternatives_from (drop (suc i) ws)
unfolding opened sequences_from
sequence_at [] i l e = absurd (omega arith)
sequence_at (w ∷ ws) zero l e = simp (is 6 w e)
sequence_at (w ∷ ws) (suc i) l e =
    get_d_more (is_kind 6 w) (alternatives_from ws) [] (sequences_from ws) (opened 6 (take i ws)) ∙ sequence_at ws i (le_of_suc-le-suc l) e

-- likewise for a step: its needs, sets and clears are read off the words after its opener
pub step_at : (ws : List ℕ) (i : ℕ) (d : Step) → i < length ws → kind (get_or ws i 0) ≡ 5
    → get_or (steps_from ws) (opened 5 (take i ws)) d
    ≡ record { needs = facts_from 2 (drop (suc i) ws); sets = facts_from 3 (drop (suc i) ws); clears = facts_from 4 (drop (suc i) ws) }
unfolding opened steps_from
step_at [] i d l e = absurd (omega arith)
step_at (w ∷ ws) zero d l e = simp (is 5 w e)
step_at (w ∷ ws) (suc i) d l e =
    get_d_more (is_kind 5 w) _ d (steps_from ws) (opened 5 (take i ws)) ∙ step_at ws i d (le_of_suc-le-suc l) e
