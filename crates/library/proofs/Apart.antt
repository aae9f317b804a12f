-- No step of an accepted image clears what it sets. Refusals 13 and 6 together say so: a set word before the clear word is 13's, one
-- after it is 6's.
-- Assumes nothing.
use Prim.Native.Nat.{ℕ, suc}
use native.Mathlib.Omega.{arith}
use mathlib.Core.Path.{◌≡◌, refl, sym, ap, ap₂, ◌∙◌}
use mathlib.Core.Bool.{Bool, true, false, cond, not, ◌&&◌, ◌||◌, false≢true}
use mathlib.Core.List.{List, [], ◌∷◌}
use lib.Dec.{eqb, ltb}
use borrow.Author.Tests.{eqb-true, ltb-true}
use Rattle.column.specs.Sets.{in_column}
use Rattle.image.specs.Word.{kind, payload, is_kind, is_fact}
use Rattle.rules.specs.Rules.{sets_after, Before}
use Rattle.rules.specs.Quick.{after}
use Rattle.rules.specs.Walk.{walk}
use Rattle.image.specs.declared.answer.Head.{Head}
use Rattle.general.specs.Tests.{All}
use Rattle.rules.proofs.Faultless.{Fine, fine, where_kind_lem}
use Rattle.rules.proofs.Sets.{set_word, set_stays}
use Rattle.library.specs.Library.{has, facts_from, steps_from, before_sequences}
use Rattle.library.specs.Accepted.{Apart}
use Rattle.image.proofs.Words.{fact_of, fact_kind}
use Rattle.library.proofs.Decode.{is_not, kind_is}
use Rattle.library.proofs.Passed.{walk_cons}
use Rattle.std.specs.Prelude.{Ok}

-- a later word of the step does not clear what it sets already
clears_none : (h : Head) (e : Before) (p : ℕ) (ws : List ℕ) (g : Head) → walk h e p ws ≡ Ok g → (f : ℕ) → in_column e.sets f ≡ true
    → has f (facts_from 4 ws) ≡ false
unfolding facts_from has
clears_none h e p [] g a f set = refl
clears_none h e p (w ∷ ws) g a f set =
    let c = walk_cons h e p w ws g a in
    go (is_fact w) (is_kind 4 w) (eqb (payload w) f) refl refl refl (fine h e p w c.0)
    (λ other. clears_none h (after e w) (suc p) ws g c.1 f (set_stays e.sets f w other set))
  where
    go : (b k q : Bool) → is_fact w ≡ b → is_kind 4 w ≡ k → eqb (payload w) f ≡ q → Fine h e w → ((kind w ≡ 5 → ⊥) → has f (facts_from 4 ws) ≡ false)
        → has f (cond b (cond k (payload w ∷ facts_from 4 ws) (facts_from 4 ws)) []) ≡ false
    go false k q fact four names fn rest = refl
    go true false q fact four names fn rest = rest (λ five. omega (arith, fact_kind w fact))
    go true true false fact four names fn rest = rw names (rest (λ five. omega (arith, fact_kind w fact)))
    go true true true fact four names fn rest =
        absurd (false≢true
        (sym (ap not (ap (in_column e.sets) (eqb-true (payload w) f names) ∙ set))
        ∙ where_kind_lem (is_kind 4 w) (not (in_column e.sets (payload w))) fn.unset four))

-- after a clear word the step sets nothing
sets_none : (h : Head) (e : Before) (p : ℕ) (ws : List ℕ) (g : Head) → walk h e p ws ≡ Ok g → kind e.last ≡ 4 → facts_from 3 ws ≡ []
unfolding facts_from
sets_none h e p [] g a last = refl
sets_none h e p (w ∷ ws) g a last =
    let c = walk_cons h e p w ws g a in
    go (is_fact w) refl (fine h e p w c.0) (sets_none h (after e w) (suc p) ws g c.1)
  where
    go : (b : Bool) → is_fact w ≡ b → Fine h e w → (kind w ≡ 4 → facts_from 3 ws ≡ [])
        → cond b (cond (is_kind 3 w) (payload w ∷ facts_from 3 ws) (facts_from 3 ws)) [] ≡ []
    go false fact fn rest = refl
    go true fact fn rest =
        let both : is_fact w && is_fact e.last ≡ true = rw (fact, fact_of e.last (omega arith) (omega arith)) in
        let more = ltb-true e.last w (where_kind_lem (is_fact w && is_fact e.last) (ltb e.last w) fn.follows both) in
        let four : kind w ≡ 4 = omega (arith, fact_kind w fact) in
        rw (is_not 3 w (λ three. omega arith)) (rest four)

-- the facts of one step
facts_apart : (h : Head) (e : Before) (p : ℕ) (ws : List ℕ) (g : Head) → walk h e p ws ≡ Ok g → (f : ℕ)
    → has f (facts_from 3 ws) && has f (facts_from 4 ws) ≡ false
unfolding facts_from has
facts_apart h e p [] g a f = refl
facts_apart h e p (w ∷ ws) g a f =
    let c = walk_cons h e p w ws g a in
    go (is_fact w) (is_kind 3 w) (is_kind 4 w) (eqb (payload w) f) refl refl refl (facts_apart h (after e w) (suc p) ws g c.1 f)
    (clears_none h (after e w) (suc p) ws g c.1 f) (sets_none h (after e w) (suc p) ws g c.1)
  where
    sets : List ℕ
    sets = facts_from 3 ws

    clears : List ℕ
    clears = facts_from 4 ws

    none : (b c : Bool) → c ≡ false → b && c ≡ false
    none true c q = q
    none false c q = refl

    go : (b s k q : Bool) → is_kind 3 w ≡ s → is_kind 4 w ≡ k → eqb (payload w) f ≡ q → has f sets && has f clears ≡ false
        → (in_column (sets_after e.sets w) f ≡ true → has f clears ≡ false) → (kind w ≡ 4 → sets ≡ [])
        → has f (cond b (cond s (payload w ∷ sets) sets) []) && has f (cond b (cond k (payload w ∷ clears) clears) []) ≡ false
    go false s k q three four names rest cleared set = refl
    go true true true q three four names rest cleared set = absurd (omega (arith, kind_is 3 w three, kind_is 4 w four))
    go true true false false three four names rest cleared set = rw names rest
    go true true false true three four names rest cleared set =
        none (eqb (payload w) f || has f sets) (has f clears)
        (cleared (ap (in_column (sets_after e.sets w)) (sym (eqb-true (payload w) f names)) ∙ set_word e.sets w (kind_is 3 w three)))
    go true false true q three four names rest cleared set = ap (λ (x : List ℕ). has f x && has f (payload w ∷ clears)) (set (kind_is 4 w four))
    go true false false q three four names rest cleared set = rest

-- the steps' part has all fact words of each of its steps
facts_before : (k : ℕ) (ws : List ℕ) → facts_from k (before_sequences ws) ≡ facts_from k ws
unfolding facts_from before_sequences
facts_before k [] = refl
facts_before k (w ∷ ws) = go (is_kind 6 w) (is_fact w) refl refl (facts_before k ws)
  where
    go : (b c : Bool) → is_kind 6 w ≡ b → is_fact w ≡ c → facts_from k (before_sequences ws) ≡ facts_from k ws
        → facts_from k (cond b [] (w ∷ before_sequences ws)) ≡ cond c (cond (is_kind k w) (payload w ∷ facts_from k ws) (facts_from k ws)) []
    go true true six fact rest = absurd (omega (arith, kind_is 6 w six, fact_kind w fact))
    go true false six fact rest = refl
    go false c six fact rest = rw (fact, rest)

pub steps_apart : (h : Head) (e : Before) (p : ℕ) (ws : List ℕ) (g : Head) → walk h e p ws ≡ Ok g → All Apart (steps_from (before_sequences ws))
unfolding before_sequences steps_from
steps_apart h e p [] g a = tt
steps_apart h e p (w ∷ ws) g a =
    let c = walk_cons h e p w ws g a in
    go (is_kind 6 w) (is_kind 5 w) refl (facts_apart h (after e w) (suc p) ws g c.1) (steps_apart h (after e w) (suc p) ws g c.1)
  where
    part : List ℕ
    part = before_sequences ws

    go : (b s : Bool) → is_kind 5 w ≡ s → ((f : ℕ) → has f (facts_from 3 ws) && has f (facts_from 4 ws) ≡ false) → All Apart (steps_from part)
        → All Apart (steps_from (cond b [] (w ∷ part)))
    go true s five here rest = tt
    go false true five here rest =
        rw five ((λ f. ap₂ (λ (x y : List ℕ). has f x && has f y) (facts_before 3 ws) (facts_before 4 ws) ∙ here f), rest)
    go false false five here rest = rw five rest
