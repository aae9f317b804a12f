-- What is possible is what some run has. Two halves that hold of any table carry this, and the code as well: one more look at a
-- sound table finds only what some run has; a closed table has the outcome of every run.
use Prim.Native.Nat.{ℕ, zero, suc, ◌<◌}
use mathlib.Core.Path.{◌≡◌, refl, sym, ◌∙◌, ap, ap₂}
use mathlib.Core.Logic.{◌⊎◌, inl, inr, ◌↔◌}
use mathlib.Core.Bool.{Bool, true, ◌&&◌}
use mathlib.Core.List.Memᴰ
use mathlib.Core.List.{List, [], ◌∷◌, ◌++◌, map, Memᴰ}
use native.Mathlib.Nat.{eq-or-lt_of_le, le_of_suc-le-suc}
use native.Mathlib.Omega.{arith}
use native.Mathlib.Decide.{dec_lt}
use lib.ListN.{length, get_or-eq_default}
use lib.Dec.{eqb}
use borrow.Author.Tests.{eqb-true, eq-eqb}
use Rattle.library.specs.Library.{Sequence, Entry, item, call, Item}
use Rattle.general.proofs.Bools.{and_parts, and_both, both_ways}
use Rattle.runs.specs.Run.{alternatives_of, alternative_of, Gives, nothing, by_item, by_call}
use Rattle.runs.specs.Algebra.{Algebra, outcome}
use Rattle.runs.specs.Possible.{Table, can, look, Key, key, same_key, keys_below, look_at, possible}
use Rattle.runs.specs.Table.{Part, whole, Occurs, Sound, Closed}
use Rattle.general.proofs.Tests.{some_found, some_intro, some_place, some_at}
use Rattle.runs.proofs.Levels.{least_sound, least_closed}
use Rattle.runs.proofs.Outcome.{outcome_append}

-- the equality of keys
same_key_refl : {M : Type 0} (same : M → M → Bool) → ((m : M) → same m m ≡ true) → (k : Key M) → same_key same k k ≡ true
same_key_refl same same_refl (key c m) = and_both (eqb c c) (same m m) (eq-eqb c c refl) (same_refl m)

same_key_eq : {M : Type 0} (same : M → M → Bool) → ((m n : M) → same m n ≡ true → m ≡ n) → (j k : Key M) → same_key same j k ≡ true → j ≡ k
same_key_eq same same_eq (key c m) (key d n) e =
    let p = and_parts (eqb c d) (same m n) e in
    ap₂ key (eqb-true c d p.0) (same_eq m n p.1)

-- each sequence below n has each outcome among its keys
keys_listed : {M : Type 0} (ms : List M) (n c : ℕ) {m : M} → c < n → Memᴰ m ms → Memᴰ (key c m) (keys_below ms n)
unfolding keys_below
keys_listed ms zero c below at = absurd (omega arith)
keys_listed ms (suc n) c {m} below at = go (λ lt. keys_listed ms n c lt at) (eq-or-lt_of_le (le_of_suc-le-suc below))
  where
    go : (c < n → Memᴰ (key c m) (keys_below ms n)) → (c ≡ n) ⊎ (c < n) → Memᴰ (key c m) (map (key n) ms ++ keys_below ms n)
    go rest (inl e) = Memᴰ.append_left (keys_below ms n) (Memᴰ.cast (ap (λ d. key d m) e) (Memᴰ.map (key n) at))
    go rest (inr lt) = Memᴰ.append_right (map (key n) ms) (rest lt)

-- only the number of a sequence has an alternative
pub alternative_below : (S : List Sequence) (c i : ℕ) → i < length (alternatives_of S c) → c < length S
alternative_below S c i lt = go (dec_lt c (length S))
  where
    go : Dec (c < length S) → c < length S
    go (yes h) = h
    go (no h) =
        let e = ap length (get_or-eq_default S [] {n = c} (omega arith)) in
        absurd (omega arith)

module _ (S : List Sequence) (A : Algebra) (mark : Item → A.Outcome) where
  -- an outcome in front of joined lists
  before_append : (x y m : A.Outcome) (u v : List Item) → outcome A mark u ≡ y → A.join (A.join x y) (outcome A mark v) ≡ m
      → A.join x (outcome A mark (u ++ v)) ≡ m
  before_append x y m u v p q = rw outcome_append (rw (← A.assoc x (outcome A mark u) (outcome A mark v)) (rw p q))

  -- a look finds what one of the alternatives can have, and only that
  pub look_place : (T : Table A) (c : ℕ) (m : A.Outcome) → look A mark S T c m ≡ true
      → (i : ℕ) × (i < length (alternatives_of S c)) × (can A mark T (alternative_of S c i) A.unit m ≡ true)
  unfolding look
  look_place T c m e = some_place (λ es. can A mark T es A.unit m) (alternatives_of S c) [] e

  pub look_at_lem : (T : Table A) (c i : ℕ) (m : A.Outcome) → i < length (alternatives_of S c)
      → can A mark T (alternative_of S c i) A.unit m ≡ true → look A mark S T c m ≡ true
  unfolding look
  look_at_lem T c i m lt e = some_at (λ es. can A mark T es A.unit m) (alternatives_of S c) [] i lt e

  module _ (D : Part A) where
    -- the outcome y of a list stands between x and z
    middle : (x y z m : A.Outcome) → D.holds m → A.join (A.join x y) z ≡ m → D.holds y
    middle x y z m h e = (D.factors x y (D.factors (A.join x y) z (rw e h)).0).1

    -- what entries can have by a sound table, some list that they give has
    pub can_sound : (T : Table A) → Sound S A mark D T → (es : List Entry) (x m : A.Outcome) → D.holds m → can A mark T es x m ≡ true
        → (w : List Item) × Gives S es w × (A.join x (outcome A mark w) ≡ m)
    unfolding can outcome
    can_sound T sound [] x m h e = ([], nothing, A.unit_right x ∙ A.same_eq x m e)
    can_sound T sound (item a ∷ es) x m h e =
        let r = can_sound T sound es (A.join x (mark a)) m h e in
        (a ∷ r.0, by_item r.1, sym (A.assoc x (mark a) (outcome A mark r.0)) ∙ r.2)
    can_sound T sound (call c ∷ es) x m h e =
        let f = some_found (λ y. T c y && can A mark T es (A.join x y) m) A.all e in
        let y = f.0 in
        let b = and_parts (T c y) (can A mark T es (A.join x y) m) f.2 in
        let r = can_sound T sound es (A.join x y) m h b.1 in
        let p = sound c y (middle x y (outcome A mark r.0) m h r.2) b.0 in
        (p.0 ++ r.0, by_call p.1.alternative p.1.listed p.1.given r.1 refl, before_append x y m p.0 r.0 p.2 r.2)

    -- one more look at a sound table finds only what occurs: by alternative i, and at the sequence
    pub alternative_sound : (T : Table A) → Sound S A mark D T → (c i : ℕ) (m : A.Outcome) → D.holds m → i < length (alternatives_of S c)
        → can A mark T (alternative_of S c i) A.unit m ≡ true → Occurs S A mark c m
    alternative_sound T sound c i m h lt e =
        let r = can_sound T sound (alternative_of S c i) A.unit m h e in
        (r.0, record { alternative = i; listed = lt; given = r.1 }, sym (A.unit_left (outcome A mark r.0)) ∙ r.2)

    pub look_sound : (T : Table A) → Sound S A mark D T → (c : ℕ) (m : A.Outcome) → D.holds m → look A mark S T c m ≡ true → Occurs S A mark c m
    look_sound T sound c m h e = let p = look_place T c m e in alternative_sound T sound c p.0 m h p.1 p.2

    -- a closed table has the outcome of every list that entries give
    pub can_complete : (T : Table A) → Closed S A mark D T → {es : List Entry} {w : List Item} → Gives S es w → (x m : A.Outcome)
        → D.holds m → A.join x (outcome A mark w) ≡ m → can A mark T es x m ≡ true
    unfolding can outcome
    can_complete T closed nothing x m h q = rw (sym q ∙ A.unit_right x) (A.same_refl x)
    can_complete T closed (by_item {a = a} {w = w} g) x m h q =
        can_complete T closed g (A.join x (mark a)) m h (A.assoc x (mark a) (outcome A mark w) ∙ q)
    can_complete T closed (by_call {c = c} {es = es} {u = u} {v = v} i lt g g' e) x m h q =
        let y = outcome A mark u in
        let q' : A.join (A.join x y) (outcome A mark v) ≡ m =
        A.assoc x y (outcome A mark v) ∙ (ap (A.join x) (sym (ap (outcome A mark) e ∙ outcome_append A mark u v)) ∙ q) in
        let hy = middle x y (outcome A mark v) m h q' in
        let called : T c y ≡ true = closed c y hy (look_at_lem T c i y lt (can_complete T closed g A.unit y hy (A.unit_left y))) in
        some_intro (λ z. T c z && can A mark T es (A.join x z) m) (A.listed y)
        (and_both (T c y) (can A mark T es (A.join x y) m) called (can_complete T closed g' (A.join x y) m h q'))

    -- and so of every run
    pub run_complete : (T : Table A) → Closed S A mark D T → (c : ℕ) (m : A.Outcome) → D.holds m → Occurs S A mark c m → T c m ≡ true
    run_complete T closed c m h o =
        closed c m h
        (look_at_lem T c o.1.alternative m o.1.listed
        (can_complete T closed o.1.given A.unit m h (A.unit_left (outcome A mark o.0) ∙ o.2)))

  -- `possible` is a sound and closed table
  OccursAt : Key A.Outcome → Type 0
  OccursAt (key c m) = Occurs S A mark c m

  pub possible_sound : Sound S A mark (whole A) (possible S A mark)
  unfolding possible OccursAt
  possible_sound c m h e =
      least_sound (same_key A.same) (same_key_refl A.same A.same_refl) (same_key_eq A.same A.same_eq) (look_at S A mark) OccursAt keeps
      (keys_below A.all (length S)) (key c m) e
    where
      keeps : (T : Key A.Outcome → Bool) → ((k : Key A.Outcome) → T k ≡ true → OccursAt k) → (k : Key A.Outcome) → look_at S A mark T k ≡ true
          → OccursAt k
      keeps T sound (key d n) = unfold look_at in look_sound (whole A) (λ b l. T (key b l)) (λ b l g. sound (key b l)) d n tt

  pub possible_closed : Closed S A mark (whole A) (possible S A mark)
  unfolding possible look_at
  possible_closed c m h e =
      let p = look_place (possible S A mark) c m e in
      least_closed (same_key A.same) (same_key_refl A.same A.same_refl) (same_key_eq A.same A.same_eq) (look_at S A mark)
      (keys_below A.all (length S)) (key c m) (keys_listed A.all (length S) c (alternative_below S c p.0 p.1) (A.listed m)) e

  -- an outcome is possible exactly when some run has it
  pub possible_iff : (c : ℕ) (m : A.Outcome) → (possible S A mark c m ≡ true) ↔ Occurs S A mark c m
  possible_iff c m = (possible_sound c m tt, run_complete (whole A) (possible S A mark) possible_closed c m tt)

  -- a table that is sound and closed is `possible`
  pub table_possible : (D : Part A) (T : Table A) → Sound S A mark D T → Closed S A mark D T → (c : ℕ) (m : A.Outcome) → D.holds m
      → T c m ≡ possible S A mark c m
  table_possible D T sound closed c m h =
      both_ways (T c m) (possible S A mark c m) (λ e. (possible_iff c m).1 (sound c m h e))
      (λ e. run_complete D T closed c m h ((possible_iff c m).0 e))
