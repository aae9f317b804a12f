-- The two rules over the members of a list are what their sentences say: a member with the bit, and the other bit in every later, or every
-- earlier, member. And tests that agree of every member give the same.
-- It has: `one_then_all_lem`, `all_then_one_lem`; `every_same`, `one_then_same`, `all_then_same`.
-- Assumes nothing.
use Prim.Native.Nat.{ℕ}
use mathlib.Core.Path.{◌≡◌, refl, ap, ap₂, ◌∙◌}
use mathlib.Core.Logic.{◌↔◌, ⊎_elim}
use mathlib.Core.Bool.{Bool, true, ◌&&◌, ◌||◌, false≢true}
use mathlib.Core.List.{List, [], ◌∷◌, ◌++◌}
use Rattle.general.specs.Scan.{every}
use Rattle.general.specs.Tests.{All}
use Rattle.general.proofs.Bools.{and_parts, and_both, or_cases, or_left, or_right}
use Rattle.cards.specs.Composed.{one_then_all, all_then_one}

module _ (one rest : ℕ → Bool) where
  -- the list parts at a member that has the bit, and every later member has the other
  pub record LaterRest (ms : List ℕ) : Type 0 where
    pub before : List ℕ
    pub after : List ℕ
    pub member : ℕ
    pub parts : ms ≡ before ++ member ∷ after
    pub has_it : one member ≡ true
    pub others : every rest after ≡ true

  -- the same where every earlier member has the other
  pub record EarlierRest (ms : List ℕ) : Type 0 where
    pub before : List ℕ
    pub after : List ℕ
    pub member : ℕ
    pub parts : ms ≡ before ++ member ∷ after
    pub has_it : one member ≡ true
    pub others : every rest before ≡ true

  later_found : (ms : List ℕ) → one_then_all one rest ms ≡ true → LaterRest ms
  unfolding one_then_all
  later_found [] e = absurd (false≢true e)
  later_found (m ∷ ms) e =
      ⊎_elim
      (λ here.
      let both = and_parts (one m) (every rest ms) here in
      record { before = []; after = ms; member = m; parts = refl; has_it = both.0; others = both.1 })
      (λ there.
      let p = later_found ms there in
      record {
        before = m ∷ p.before;
        after = p.after;
        member = p.member;
        parts = ap (λ (l : List ℕ). m ∷ l) p.parts;
        has_it = p.has_it;
        others = p.others;
      })
      (or_cases (one m && every rest ms) (one_then_all one rest ms) e)

  later_holds : (before after : List ℕ) (m : ℕ) → one m ≡ true → every rest after ≡ true → one_then_all one rest (before ++ m ∷ after) ≡ true
  unfolding one_then_all
  later_holds [] after m o r = or_left (one m && every rest after) (one_then_all one rest after) (and_both (one m) (every rest after) o r)
  later_holds (b ∷ before) after m o r =
      or_right (one b && every rest (before ++ m ∷ after)) (one_then_all one rest (before ++ m ∷ after)) (later_holds before after m o r)

  pub one_then_all_lem : (ms : List ℕ) → (one_then_all one rest ms ≡ true) ↔ LaterRest ms
  one_then_all_lem ms =
      (later_found ms, λ p. ap (one_then_all one rest) p.parts ∙ later_holds p.before p.after p.member p.has_it p.others)

  earlier_found : (ms : List ℕ) → all_then_one one rest ms ≡ true → EarlierRest ms
  unfolding all_then_one every
  earlier_found [] e = absurd (false≢true e)
  earlier_found (m ∷ ms) e =
      ⊎_elim (λ here. record { before = []; after = ms; member = m; parts = refl; has_it = here; others = refl })
      (λ there.
      let both = and_parts (rest m) (all_then_one one rest ms) there in
      let p = earlier_found ms both.1 in
      record {
        before = m ∷ p.before;
        after = p.after;
        member = p.member;
        parts = ap (λ (l : List ℕ). m ∷ l) p.parts;
        has_it = p.has_it;
        others = and_both (rest m) (every rest p.before) both.0 p.others;
      })
      (or_cases (one m) (rest m && all_then_one one rest ms) e)

  earlier_holds : (before after : List ℕ) (m : ℕ) → one m ≡ true → every rest before ≡ true → all_then_one one rest (before ++ m ∷ after) ≡ true
  unfolding all_then_one every
  earlier_holds [] after m o r = or_left (one m) (rest m && all_then_one one rest after) o
  earlier_holds (b ∷ before) after m o r =
      let both = and_parts (rest b) (every rest before) r in
      or_right (one b) (rest b && all_then_one one rest (before ++ m ∷ after))
      (and_both (rest b) (all_then_one one rest (before ++ m ∷ after)) both.0 (earlier_holds before after m o both.1))

  pub all_then_one_lem : (ms : List ℕ) → (all_then_one one rest ms ≡ true) ↔ EarlierRest ms
  all_then_one_lem ms =
      (earlier_found ms, λ p. ap (all_then_one one rest) p.parts ∙ earlier_holds p.before p.after p.member p.has_it p.others)

-- ---- tests that agree

-- two tests agree of every member
abbrev pub Agree : (ℕ → Bool) → (ℕ → Bool) → List ℕ → Type 0
Agree p q ms = All (λ (m : ℕ). p m ≡ q m) ms

pub every_same : (p q : ℕ → Bool) (ms : List ℕ) → Agree p q ms → every p ms ≡ every q ms
unfolding every
every_same p q [] same = refl
every_same p q (m ∷ ms) same = ap₂ ◌&&◌ same.0 (every_same p q ms same.1)

pub one_then_same : (p q r s : ℕ → Bool) (ms : List ℕ) → Agree p q ms → Agree r s ms → one_then_all p r ms ≡ one_then_all q s ms
unfolding one_then_all
one_then_same p q r s [] one rest = refl
one_then_same p q r s (m ∷ ms) one rest =
    ap₂ ◌||◌ (ap₂ ◌&&◌ one.0 (every_same r s ms rest.1)) (one_then_same p q r s ms one.1 rest.1)

pub all_then_same : (p q r s : ℕ → Bool) (ms : List ℕ) → Agree p q ms → Agree r s ms → all_then_one p r ms ≡ all_then_one q s ms
unfolding all_then_one
all_then_same p q r s [] one rest = refl
all_then_same p q r s (m ∷ ms) one rest = ap₂ ◌||◌ one.0 (ap₂ ◌&&◌ rest.0 (all_then_same p q r s ms one.1 rest.1))
