-- What the column of the facts that a step sets says: a fact is in it exactly where an earlier word of the same step sets it.
-- Assumes nothing.
use Rattle.std.proofs.Common.{◌≡◌, ℕ, ◌+◌, ◌<◌, true, false, ◌&&◌, eqb, ◌⊎◌, ◌↔◌, List, [], ◌∷◌, ◌++◌, length, get_or, take, sym, refl, ap, ◌∙◌, inl, inr, ⊎_elim, add-one, arith, take-suc}
use Rattle.std.proofs.lemmas.Bool.Decides.{nat_tests}
use mathlib.Core.Bool.{false≢true}
use Rattle.column.specs.Sets.{in_column}
use Rattle.column.proofs.Operations.{in_with, in_own, in_more, in_none}
use Rattle.image.specs.Word.{kind, payload, is_kind}
use Rattle.rules.specs.Rules.{opened, sets_after, sets_of, SetBefore, earlier}
use Rattle.std.specs.List.{push}

-- ---- one word

-- a fact that is set after a word: the word sets it, or it was set before and the word opens no step
pub set_by : (sets f w : ℕ) → in_column (sets_after sets w) f ≡ true
    → ((kind w ≡ 3) × (payload w ≡ f)) ⊎ ((in_column sets f ≡ true) × (kind w ≡ 5 → ⊥))
set_by sets f w = grind (arith, nat_tests, in_with sets (payload w) f, in_none f)

-- a set word sets its fact
pub set_word : (sets w : ℕ) → kind w ≡ 3 → in_column (sets_after sets w) (payload w) ≡ true
set_word sets w three = rw three (in_own sets (payload w))

-- a fact that is set stays so, but for a word that opens a step
pub set_stays : (sets f w : ℕ) → (kind w ≡ 5 → ⊥) → in_column sets f ≡ true → in_column (sets_after sets w) f ≡ true
set_stays sets f w other e = grind (arith, nat_tests, in_more sets (payload w) f)

-- after a step's opener nothing is set
pub set_none : (sets f w : ℕ) → kind w ≡ 5 → in_column (sets_after sets w) f ≡ false
set_none sets f w five = grind (arith, nat_tests, in_none f)

-- a word that neither sets the fact nor opens a step changes nothing
pub set_same : (sets f w : ℕ) → is_kind 3 w && eqb (payload w) f ≡ false → (kind w ≡ 5 → ⊥) → in_column (sets_after sets w) f ≡ in_column sets f
set_same sets f w other no_step = grind (arith, nat_tests, in_with sets (payload w) f)

-- ---- all the words

pub sets_append : (sets : ℕ) (ws vs : List ℕ) → sets_of sets (ws ++ vs) ≡ sets_of (sets_of sets ws) vs
unfolding sets_of
sets_append sets [] vs = refl
sets_append sets (w ∷ ws) vs = sets_append (sets_after sets w) ws vs

-- and one word more
pub sets_next : (ws : List ℕ) (i : ℕ) → i < length ws → sets_of 0 (take (i + 1) ws) ≡ sets_after (sets_of 0 (take i ws)) (get_or ws i 0)
unfolding sets_of
sets_next ws i l = rw (add-one i) (ap (sets_of 0) (take-suc ws i 0 l) ∙ sets_append 0 (take i ws) (get_or ws i 0 ∷ []))

-- nothing is set before the first word
pub sets_first : (ws : List ℕ) (f : ℕ) → length ws ≡ 0 → in_column (sets_of 0 ws) f ≡ false
unfolding sets_of
sets_first [] f none = in_none f
sets_first (w ∷ ws) f none = absurd (omega arith)

-- whether a fact is set, from the last word back: a set word of it, a step's opener, or another word
module _ (ws until : List ℕ) (w f : ℕ) (stands : ws ≡ push until w) where
  sets_last : in_column (sets_of 0 ws) f ≡ in_column (sets_after (sets_of 0 until) w) f
  unfolding sets_of
  sets_last = ap (λ (x : List ℕ). in_column (sets_of 0 x) f) stands ∙ ap (λ (s : ℕ). in_column s f) (sets_append 0 until (w ∷ []))

  pub back_found : is_kind 3 w && eqb (payload w) f ≡ true → in_column (sets_of 0 ws) f ≡ true
  back_found own = sets_last ∙ grind (arith, nat_tests, set_word (sets_of 0 until) w)

  pub back_opened : is_kind 5 w ≡ true → in_column (sets_of 0 ws) f ≡ false
  back_opened five = sets_last ∙ grind (arith, nat_tests, set_none (sets_of 0 until) f w)

  pub back_passed : is_kind 3 w && eqb (payload w) f ≡ false → is_kind 5 w ≡ false → in_column (sets_of 0 until) f ≡ in_column (sets_of 0 ws) f
  back_passed other no_step = sym (sets_last ∙ grind (arith, nat_tests, set_same (sets_of 0 until) f w other))

opens_no_step : (w : ℕ) (ws : List ℕ) → (opened 5 (w ∷ ws) ≡ 0) ↔ ((kind w ≡ 5 → ⊥) × (opened 5 ws ≡ 0))
unfolding opened
opens_no_step w ws = (λ e. grind (arith, nat_tests), λ p. grind (arith, nat_tests))

all_stay : (sets f : ℕ) (ws : List ℕ) → opened 5 ws ≡ 0 → in_column sets f ≡ true → in_column (sets_of sets ws) f ≡ true
unfolding sets_of
all_stay sets f [] none e = e
all_stay sets f (w ∷ ws) none e =
    let o = (opens_no_step w ws).0 none in
    all_stay (sets_after sets w) f ws o.1 (set_stays sets f w o.0 e)

set_within : (sets f : ℕ) (ws : List ℕ) → in_column (sets_of sets ws) f ≡ true
    → SetBefore f ws ⊎ ((in_column sets f ≡ true) × (opened 5 ws ≡ 0))
unfolding sets_of opened
set_within sets f [] e = inr (e, refl)
set_within sets f (w ∷ ws) e =
    ⊎_elim
    (λ (b : SetBefore f ws).
    inl (record {
      until = w ∷ b.until;
      word = b.word;
      since = b.since;
      stands = ap (λ (x : List ℕ). w ∷ x) b.stands;
      sets = b.sets;
      names = b.names;
      same_step = b.same_step;
    }))
    (λ (s : (in_column (sets_after sets w) f ≡ true) × (opened 5 ws ≡ 0)).
    ⊎_elim
    (λ (k : (kind w ≡ 3) × (payload w ≡ f)).
    inl (record { until = []; word = w; since = ws; stands = refl; sets = k.0; names = k.1; same_step = s.1 }))
    (λ (k : (in_column sets f ≡ true) × (kind w ≡ 5 → ⊥)). inr (k.0, (opens_no_step w ws).1 (k.1, s.1)))
    (set_by sets f w s.0))
    (set_within (sets_after sets w) f ws e)

-- "an earlier word of the same step sets" a fact exactly where the column has it
pub sets_iff : (f : ℕ) (before : List ℕ) → (in_column (earlier before).sets f ≡ true) ↔ SetBefore f before
unfolding sets_of
sets_iff f before = (
  λ e. ⊎_elim (λ b. b) (λ s. absurd (false≢true (sym (in_none f) ∙ s.0))) (set_within 0 f before e),
  λ b. ap (λ (x : List ℕ). in_column (sets_of 0 x) f) b.stands ∙ found b,
)
  where
    found : (b : SetBefore f before) → in_column (sets_of 0 (b.until ++ (b.word ∷ b.since))) f ≡ true
    found b =
        let s = sets_of 0 b.until in
        ap (λ (x : ℕ). in_column x f) (sets_append 0 b.until (b.word ∷ b.since))
        ∙ all_stay (sets_after s b.word) f b.since b.same_step (ap (in_column (sets_after s b.word)) (sym b.names) ∙ set_word s b.word b.sets)
