-- The words of a sequence at an index: one word more of entries and of alternatives, where the entries of an alternative end and where a walk
-- over them does, and the loops over them. There is one record for a loop over the entries of an alternative, one for a walk that ends at the
-- first dead one, and one for a loop over the alternatives of a sequence: what the loop makes of those that are left is the whole. Each has
-- laws for the start, a turn and the ways out.
-- Assumes nothing.
use Prim.Native.Nat.{ℕ, zero, suc, ◌+◌, ◌-◌, ◌≤◌, ◌<◌}
use native.Mathlib.Decide.{dec_lt}
use native.Mathlib.Omega.{arith}
use native.Mathlib.Numerals.{add-one}
use mathlib.Core.Path.{◌≡◌, refl, sym, ap, ap₂, ◌∙◌}
use mathlib.Core.Bool.{Bool, true, false, cond, false≢true}
use mathlib.Core.List.{List, [], ◌∷◌}
use lib.ListN.{length, get_or, drop, length-drop, drop_of_length-le, get_or-eq_default}
use lib.Seq.{drop-cons, drop-nil, drop-drop, get_or-drop}
use Rattle.std.specs.List.{take_while}
use Rattle.std.proofs.lemmas.List.Sums.{take_while-cons}
use Rattle.general.specs.Scan.{first_index}
use Rattle.general.proofs.Scan.{first_le}
use Rattle.image.specs.Word.{is_kind, is_entry}
use Rattle.library.specs.Library.{Entry, entry_of, Alternative, entry_at, entries_from, alternatives_from}
use Rattle.walk.specs.Walk.{entries_end, walk_end}
use Rattle.library.proofs.Decode.{entry_opens_none, entries_nil, entries_cons, entries_short, alternatives_nil, alternatives_cons}

-- what a test says of the word at an index, by the word that was read there
pub tested : {w v : ℕ} (test : ℕ → Bool) {b c : Bool} → w ≡ v → b ≡ test w → b ≡ c → test v ≡ c
tested test at told is = sym (ap test at) ∙ sym told ∙ is

-- ---- at an index

module _ (part : List ℕ) (i : ℕ) where
  -- the words from i on, of which there is one
  cut : i < length part → drop i part ≡ get_or part i 0 ∷ drop (i + 1) part
  cut l = drop-cons part i 0 l ∙ ap (λ (n : ℕ). get_or part i 0 ∷ drop n part) (sym (add-one i))

  -- past the words stands 0, which is no entry and opens no alternative
  inside : (test : ℕ → Bool) → test 0 ≡ false → test (get_or part i 0) ≡ true → i < length part
  inside test none e =
      elim (dec_lt i (length part)) [
        | yes l ↦ l
        | no l ↦ absurd (false≢true (sym none ∙ sym (ap test (get_or-eq_default part 0 {n = i} (omega arith))) ∙ e))
      ]

  pub entry_inside : is_entry (get_or part i 0) ≡ true → i < length part
  entry_inside e = inside is_entry refl e

  pub opener_inside : is_kind 7 (get_or part i 0) ≡ true → i < length part
  opener_inside e = inside (is_kind 7) refl e

  -- an entry, or the alternative's end
  pub entries_at : (b : Bool) → is_entry (get_or part i 0) ≡ b
      → entries_from (drop i part) ≡ cond b (entry_of (get_or part i 0) ∷ entries_from (drop (i + 1) part)) []
  entries_at b e =
      elim (dec_lt i (length part)) [
        | yes l ↦ ap entries_from (cut l) ∙ entries_cons (get_or part i 0) (drop (i + 1) part) b e
        | no l ↦
            ap entries_from (drop_of_length-le part {i = i} (omega arith)) ∙ entries_nil
            ∙ ap (λ (x : Bool). cond x (entry_of (get_or part i 0) ∷ entries_from (drop (i + 1) part)) [])
            (sym (ap is_entry (get_or-eq_default part 0 {n = i} (omega arith))) ∙ e)
      ]

  -- an alternative, an entry, or the sequence's end
  pub alternatives_at_lem : (a b : Bool) → is_kind 7 (get_or part i 0) ≡ a → is_entry (get_or part i 0) ≡ b
      → alternatives_from (drop i part)
      ≡ cond a (entries_from (drop (i + 1) part) ∷ alternatives_from (drop (i + 1) part)) (cond b (alternatives_from (drop (i + 1) part)) [])
  alternatives_at_lem a b e f =
      elim (dec_lt i (length part)) [
        | yes l ↦ ap alternatives_from (cut l) ∙ alternatives_cons (get_or part i 0) (drop (i + 1) part) a b e f
        | no l ↦
            let zero_word = get_or-eq_default part 0 {n = i} (omega arith) in
            ap alternatives_from (drop_of_length-le part {i = i} (omega arith)) ∙ alternatives_nil
            ∙ ap₂ (λ (x y : Bool). cond x (entries_from (drop (i + 1) part) ∷ alternatives_from (drop (i + 1) part)) (cond y (alternatives_from (drop (i + 1) part)) []))
            (sym (ap (is_kind 7) zero_word) ∙ e) (sym (ap is_entry zero_word) ∙ f)
      ]

-- ---- where the entries end

-- a walk over alternatives passes over the entries before them, some or all
alternatives_skip : (n : ℕ) (ws : List ℕ) → n ≤ length (entries_from ws) → alternatives_from (drop n ws) ≡ alternatives_from ws
alternatives_skip zero ws le = refl
alternatives_skip (suc n) [] le = ap alternatives_from (drop-nil (suc n))
alternatives_skip (suc n) (w ∷ ws) le = go (is_entry w) refl (alternatives_skip n ws)
  where
    go : (b : Bool) → is_entry w ≡ b → (n ≤ length (entries_from ws) → alternatives_from (drop n ws) ≡ alternatives_from ws)
        → alternatives_from (drop n ws) ≡ alternatives_from (w ∷ ws)
    go true e rest =
        rest (omega (arith, ap (λ (es : List Entry). length es) (entries_cons w ws true e)))
        ∙ sym (alternatives_cons w ws false true (entry_opens_none w e) e)
    go false e rest = absurd (omega (arith, ap (λ (es : List Entry). length es) (entries_cons w ws false e)))

-- after them stands no entry
entries_over : (ws : List ℕ) → entries_from (drop (length (entries_from ws)) ws) ≡ []
entries_over [] = ap entries_from (drop-nil (length (entries_from []))) ∙ entries_nil
entries_over (w ∷ ws) = go (is_entry w) refl (entries_over ws)
  where
    go : (b : Bool) → is_entry w ≡ b → entries_from (drop (length (entries_from ws)) ws) ≡ []
        → entries_from (drop (length (entries_from (w ∷ ws))) (w ∷ ws)) ≡ []
    go true e rest = ap (λ (es : List Entry). entries_from (drop (length es) (w ∷ ws))) (entries_cons w ws true e) ∙ rest
    go false e rest = ap (λ (es : List Entry). entries_from (drop (length es) (w ∷ ws))) (entries_cons w ws false e) ∙ entries_cons w ws false e

module _ (part : List ℕ) (at : ℕ) where
  pub end_ends : entries_from (drop (entries_end part at) part) ≡ []
  end_ends = sym (ap entries_from (drop-drop (length (entries_from (drop at part))) at part)) ∙ entries_over (drop at part)

  pub end_within : at ≤ length part → entries_end part at ≤ length part
  end_within l = omega (arith, entries_short (drop at part), length-drop at part)

  -- from there on, and from any entry before, the same alternatives follow
  some_skip : (n : ℕ) → n ≤ length (entries_from (drop at part)) → alternatives_from (drop at part) ≡ alternatives_from (drop (at + n) part)
  some_skip n le = sym (alternatives_skip n (drop at part) le) ∙ ap alternatives_from (drop-drop n at part)

  pub end_skips : alternatives_from (drop at part) ≡ alternatives_from (drop (entries_end part at) part)
  end_skips = some_skip (length (entries_from (drop at part))) (omega arith)

  -- an entry stands there
  module _ (e : is_entry (get_or part at 0) ≡ true) where
    end_next : (k : ℕ) → at + 1 ≡ k → entries_end part k ≡ entries_end part at
    end_next k next =
        sym (ap (entries_end part) next) ∙ (let one = ap (λ (es : List Entry). length es) (entries_at part at true e) in omega arith)

  -- where a walk ends
  module _ (dead : Entry → Bool) where
    abbrev left : Alternative
    left = entries_from (drop at part)

    walk_short : first_index (λ p. dead (entry_at left p)) (length left) ≤ length left
    walk_short = first_le (λ p. dead (entry_at left p)) (length left)

    pub walk_skips : alternatives_from (drop at part) ≡ alternatives_from (drop (walk_end dead part at) part)
    walk_skips = some_skip (first_index (λ p. dead (entry_at left p)) (length left)) walk_short

    pub walk_within : at ≤ length part → walk_end dead part at ≤ length part
    walk_within l = omega (arith, walk_short, end_within l)

    walk_by : (es : Alternative) → left ≡ es → walk_end dead part at ≡ at + first_index (λ p. dead (entry_at es p)) (length es)
    walk_by es = ap (λ (xs : Alternative). at + first_index (λ p. dead (entry_at xs p)) (length xs))

    -- at the word after the entries, at a dead entry, or after one that is not
    pub walk_out : is_entry (get_or part at 0) ≡ false → at ≡ walk_end dead part at
    unfolding first_index
    walk_out e = omega (arith, walk_by [] (entries_at part at false e))

    walk_entry : (b : Bool) → is_entry (get_or part at 0) ≡ true → dead (entry_of (get_or part at 0)) ≡ b → walk_end dead part at ≡ cond b at (walk_end dead part (at + 1))
    unfolding first_index
    walk_entry b e told =
        let rest = entries_from (drop (at + 1) part) in
        walk_by (entry_of (get_or part at 0) ∷ rest) (entries_at part at true e)
        ∙ ap (λ (x : Bool). at + cond x 0 (suc (first_index (λ p. dead (entry_at rest p)) (length rest)))) told
        ∙ go b (first_index (λ p. dead (entry_at rest p)) (length rest))
      where
        go : (x : Bool) (n : ℕ) → at + cond x 0 (suc n) ≡ cond x at (at + 1 + n)
        go true n = omega arith
        go false n = omega arith

    pub walk_dead : is_entry (get_or part at 0) ≡ true → dead (entry_of (get_or part at 0)) ≡ true → at ≡ walk_end dead part at
    walk_dead e told = sym (walk_entry true e told)

    pub walk_next : is_entry (get_or part at 0) ≡ true → dead (entry_of (get_or part at 0)) ≡ false → walk_end dead part (at + 1) ≡ walk_end dead part at
    walk_next e told = sym (walk_entry false e told)

-- as many entries stand at the head of words as words that are entries
pub entries_long : (ws : List ℕ) → length (entries_from ws) ≡ length (take_while is_entry ws)
entries_long [] = ap length entries_nil
entries_long (w ∷ ws) =
    ap length (entries_cons w ws (is_entry w) refl) ∙ go (is_entry w) (entries_long ws) ∙ ap length (sym (take_while-cons is_entry w ws))
  where
    go : (b : Bool) → length (entries_from ws) ≡ length (take_while is_entry ws)
        → length (cond b (entry_of w ∷ entries_from ws) []) ≡ length (cond b (w ∷ take_while is_entry ws) [])
    go true rest = ap (λ (n : ℕ). suc n) rest
    go false rest = refl

-- the n words from index `at` on are entries
pub passed_below : (part : List ℕ) (at n : ℕ) → ((i : ℕ) → i < n → is_entry (get_or (drop at part) i 0) ≡ true)
    → entries_end part (at + n) ≡ entries_end part at
passed_below part at zero each = ap (entries_end part) (omega arith)
passed_below part at (suc n) each =
    end_next part (at + n) (ap is_entry (sym (get_or-drop at part n 0)) ∙ each n (omega arith)) (at + suc n) (omega arith)
    ∙ passed_below part at n (λ i l. each i (omega arith))

-- ---- a loop over the entries of an alternative, which stand from index `at` on

-- at the head, with the entries from i on left: they are those that are left of all, and end where all end
pub record Folding (part : List ℕ) {R : Type 0} (whole : R) (at : ℕ) (rest : List Entry → R) (i : ℕ) : Type 0 where
  pub low : at ≤ i
  pub within : i ≤ length part
  pub same : rest (entries_from (drop i part)) ≡ whole
  pub passed : drop (i - at) (entries_from (drop at part)) ≡ entries_from (drop i part)
  pub ends : entries_end part i ≡ entries_end part at

pub folding_start : {part : List ℕ} {R : Type 0} {whole : R} {at : ℕ} {rest : List Entry → R} → at ≤ length part
    → rest (entries_from (drop at part)) ≡ whole → Folding part whole at rest at
folding_start {part} {at} l same =
    let none : at - at ≡ 0 = omega arith in
    record { low = omega arith; within = l; same = same; passed = ap (λ (n : ℕ). drop n (entries_from (drop at part))) none; ends = refl }

-- the element at an index, and those after it
pub drop_next : {A : Type 0} (l : List A) (n : ℕ) (x : A) (xs : List A) → drop n l ≡ x ∷ xs → (drop (suc n) l ≡ xs) × ((d : A) → get_or l n d ≡ x)
drop_next [] zero x xs e = let z : ◌≡◌ {A = ℕ} 0 1 = cc in absurd (omega arith)
drop_next [] (suc n) x xs e = let z : ◌≡◌ {A = ℕ} 0 1 = cc in absurd (omega arith)
drop_next (y ∷ ys) zero x xs e = (cc, λ d. cc)
drop_next (y ∷ ys) (suc n) x xs e = drop_next ys n x xs e

module _ {part : List ℕ} {R : Type 0} {whole : R} {at : ℕ} {rest : List Entry → R} {i : ℕ} (here : Folding part whole at rest i) where
  module _ (e : is_entry (get_or part i 0) ≡ true) where
    next_entry : (drop (suc (i - at)) (entries_from (drop at part)) ≡ entries_from (drop (i + 1) part))
        × ((d : Entry) → get_or (entries_from (drop at part)) (i - at) d ≡ entry_of (get_or part i 0))
    next_entry =
        drop_next (entries_from (drop at part)) (i - at) (entry_of (get_or part i 0)) (entries_from (drop (i + 1) part)) (here.passed ∙ entries_at part i true e)

    -- it is one of the words
    pub folding_inside : i < length part
    folding_inside = entry_inside part i e

    -- an entry, after which `next` is what the loop makes of the rest
    pub folding_turn : {next : List Entry → R}
        → rest (entry_of (get_or part i 0) ∷ entries_from (drop (i + 1) part)) ≡ next (entries_from (drop (i + 1) part)) → Folding part whole at next (i + 1)
    folding_turn turn =
        let index : i + 1 - at ≡ suc (i - at) = omega (arith, here.low) in
        record {
          low = omega (arith, here.low);
          within = omega (arith, entry_inside part i e);
          same = sym turn ∙ sym (ap rest (entries_at part i true e)) ∙ here.same;
          passed = ap (λ (n : ℕ). drop n (entries_from (drop at part))) index ∙ next_entry.0;
          ends = omega (arith, here.ends, ap (λ (es : List Entry). length es) (entries_at part i true e));
        }

    -- the same loop with this entry at the head of what is left
    pub folding_read : Folding part whole at (λ es. rest (entry_of (get_or part i 0) ∷ es)) (i + 1)
    folding_read = folding_turn refl

    -- the entry that stands there
    pub folding_entry : (d : Entry) → get_or (entries_from (drop at part)) (i - at) d ≡ entry_of (get_or part i 0)
    folding_entry = next_entry.1

  -- a word that is no entry, or the end of the words
  module _ (e : is_entry (get_or part i 0) ≡ false) where
    pub folding_out : rest [] ≡ whole
    folding_out = sym (ap rest (entries_at part i false e)) ∙ here.same

    pub folding_end : i ≡ entries_end part at
    folding_end = omega (arith, here.ends, ap (λ (es : List Entry). length es) (entries_at part i false e))

-- ---- a walk over the entries of an alternative that ends at the first dead one

-- none of the entries before i is dead
pub record Leaving (part : List ℕ) {R : Type 0} (whole : R) (dead : Entry → Bool) (at : ℕ) (rest : List Entry → R) (i : ℕ) : Type 0 where
  pub folding : Folding part whole at rest i
  pub alive : walk_end dead part i ≡ walk_end dead part at

pub leaving_start : {part : List ℕ} {R : Type 0} {whole : R} {dead : Entry → Bool} {at : ℕ} {rest : List Entry → R} → at ≤ length part
    → rest (entries_from (drop at part)) ≡ whole → Leaving part whole dead at rest at
leaving_start l same = record { folding = folding_start l same; alive = refl }

module _ {part : List ℕ} {R : Type 0} {whole : R} {dead : Entry → Bool} {at : ℕ} {rest : List Entry → R} {i : ℕ} (here : Leaving part whole dead at rest i) where
  module _ (e : is_entry (get_or part i 0) ≡ true) where
    -- an entry that is not dead, after which `next` is what the loop makes of the rest
    pub leaving_turn : dead (entry_of (get_or part i 0)) ≡ false → {next : List Entry → R}
        → rest (entry_of (get_or part i 0) ∷ entries_from (drop (i + 1) part)) ≡ next (entries_from (drop (i + 1) part)) → Leaving part whole dead at next (i + 1)
    leaving_turn told turn = record { folding = folding_turn here.folding e turn; alive = walk_next part i dead e told ∙ here.alive }

    -- a dead one: the walk ends there, and what the loop makes of the entries from there on is the whole
    pub leaving_dead : dead (entry_of (get_or part i 0)) ≡ true → i ≡ walk_end dead part at
    leaving_dead told = walk_dead part i dead e told ∙ here.alive

    pub leaving_rest : rest (entry_of (get_or part i 0) ∷ entries_from (drop (i + 1) part)) ≡ whole
    leaving_rest = sym (ap rest (entries_at part i true e)) ∙ here.folding.same

  -- a word that is no entry, or the end of the words
  pub leaving_out : is_entry (get_or part i 0) ≡ false → i ≡ walk_end dead part at
  leaving_out e = walk_out part i dead e ∙ here.alive

-- ---- a loop over the alternatives of a sequence

-- at the head, with the alternatives from i on left
pub record Walking (part : List ℕ) {R : Type 0} (whole : R) (rest : List Alternative → R) (i : ℕ) : Type 0 where
  pub within : i ≤ length part
  pub same : rest (alternatives_from (drop i part)) ≡ whole

pub walking_start : {part : List ℕ} {R : Type 0} {whole : R} {rest : List Alternative → R} {at : ℕ} → at ≤ length part
    → rest (alternatives_from (drop at part)) ≡ whole → Walking part whole rest at
walking_start l same = record { within = l; same = same }

module _ {part : List ℕ} {R : Type 0} {whole : R} {rest : List Alternative → R} {i : ℕ} (here : Walking part whole rest i) where
  -- a word that opens an alternative or is an entry is one of the words
  pub walking_opener_inside : is_kind 7 (get_or part i 0) ≡ true → i < length part
  walking_opener_inside = opener_inside part i

  pub walking_entry_inside : is_entry (get_or part i 0) ≡ true → i < length part
  walking_entry_inside = entry_inside part i

  -- the alternative that stands here, and those after it
  pub walking_here : is_kind 7 (get_or part i 0) ≡ true → rest (entries_from (drop (i + 1) part) ∷ alternatives_from (drop (i + 1) part)) ≡ whole
  walking_here e = sym (ap rest (alternatives_at_lem part i true (is_entry (get_or part i 0)) e refl)) ∙ here.same

  -- an alternative, over whose entries a walk ended at j, with `next` for what the loop makes of the rest
  pub walking_turn : (dead : Entry → Bool) {next : List Alternative → R} {j : ℕ} → is_kind 7 (get_or part i 0) ≡ true → j ≡ walk_end dead part (i + 1)
      → rest (entries_from (drop (i + 1) part) ∷ alternatives_from (drop (i + 1) part)) ≡ next (alternatives_from (drop (i + 1) part))
      → Walking part whole next j
  walking_turn dead {next} e end turn =
      record {
        within = omega (arith, end, walk_within part (i + 1) dead (omega (arith, opener_inside part i e)));
        same = ap (λ (n : ℕ). next (alternatives_from (drop n part))) end ∙ sym (ap next (walk_skips part (i + 1) dead)) ∙ sym turn ∙ walking_here e;
      }

  -- entries that a walk has left: the first of them, or all
  module _ (e : is_entry (get_or part i 0) ≡ true) where
    pub walking_skip : Walking part whole rest (i + 1)
    walking_skip =
        record {
          within = omega (arith, entry_inside part i e);
          same = sym (ap rest (alternatives_at_lem part i false true (entry_opens_none (get_or part i 0) e) e)) ∙ here.same;
        }

    pub walking_pass : {j : ℕ} → j ≡ entries_end part (i + 1) → Walking part whole rest j
    walking_pass end =
        record {
          within = omega (arith, end, end_within part (i + 1) walking_skip.within);
          same = ap (λ (n : ℕ). rest (alternatives_from (drop n part))) end ∙ sym (ap rest (end_skips part (i + 1))) ∙ walking_skip.same;
        }

  -- the next sequence, or the end of the words
  pub walking_out : is_kind 7 (get_or part i 0) ≡ false → is_entry (get_or part i 0) ≡ false → rest [] ≡ whole
  walking_out e f = sym (ap rest (alternatives_at_lem part i false false e f)) ∙ here.same
