-- A word that is right by the rules of its kind alone has no fault.
-- It has: a law for each kind of word, and what a reader needs of the words that it passes by (`Passing`). That the walk over the
-- words is the scan of document 01 is in Checked.
-- Assumes nothing.
use Rattle.std.proofs.Common.{◌≡◌, ℕ, ◌+◌, ◌<◌, ◌≤◌, true, false, ◌&&◌, ◌||◌, ltb, ◌⊎◌, ap, inl, inr, ⊎_elim, arith, ne_eqb}
use Rattle.std.proofs.lemmas.Bool.Decides.{nat_tests}
use mir.Val.{bool_byte}
use Rattle.column.specs.Sets.{in_column}
use Rattle.image.specs.Word.{kind, payload, is_kind, is_fact, is_entry}
use Rattle.rules.specs.Rules.{where_kind, fault_at}
use Rattle.rules.specs.Quick.{entry_counted, entry_right, alternative_right, body_right, inside_right, step_right, sequence_right, FactFollows, passed, with_last, seen, in_alternative}
use Rattle.image.specs.declared.answer.Head.{Head}
use Rattle.rules.specs.declared.rules.Earlier.{Earlier}
use Rattle.general.proofs.Bools.{and_left, and_right, or_cases}
use Rattle.image.proofs.Words.{fact_of, entry_high}
use Rattle.rules.proofs.Faultless.{Fine, none_found}
use Rattle.std.specs.Prelude.{None}

counted_entry : (h : Head) (w : ℕ) → entry_counted h w ≡ true → is_entry w ≡ true
counted_entry h w = grind (arith, nat_tests)

-- a word of kind k whose payload is below n
abbrev EntryOf : ℕ → ℕ → ℕ → Type 0
EntryOf w k n = (kind w ≡ k) × (ltb (payload w) n ≡ true)

-- an entry that names what the head counts, by its kind
counted_cases : (h : Head) (w : ℕ) → entry_counted h w ≡ true → EntryOf w 8 h.steps ⊎ EntryOf w 9 h.sequences ⊎ EntryOf w 13 h.facts
counted_cases h w counted = grind (arith, nat_tests)

module _ (h : Head) (e : Earlier) (sets p w : ℕ) where
  pub entry_faultless : entry_right h e.last w ≡ true → None ≡ fault_at h (seen e sets) p w
  entry_faultless right =
      let after_one = and_left (is_kind 7 e.last || is_entry e.last) _ right in
      go after_one (counted_cases h w (and_right (is_kind 7 e.last || is_entry e.last) _ right))
    where
      go : is_kind 7 e.last || is_entry e.last ≡ true
          → EntryOf w 8 h.steps ⊎ EntryOf w 9 h.sequences ⊎ EntryOf w 13 h.facts → None ≡ fault_at h (seen e sets) p w
      go after_one (inl entry) = rw (entry.0, after_one, entry.1)
      go after_one (inr (inl entry)) = rw (entry.0, after_one, entry.1)
      go after_one (inr (inr entry)) = rw (entry.0, after_one, entry.1)

  pub alternative_faultless : alternative_right e w ≡ true → None ≡ fault_at h (seen e sets) p w
  alternative_faultless right = grind (arith, nat_tests)

  pub step_faultless : step_right h e w ≡ true → None ≡ fault_at h (seen e sets) p w
  step_faultless right = grind (arith, nat_tests)

  pub sequence_faultless : sequence_right h e w ≡ true → None ≡ fault_at h (seen e sets) p w
  sequence_faultless right = grind (arith, nat_tests)

-- ---- words that a reader passes by

-- the next step's opener
pub step_opens : (h : Head) (e : Earlier) (w : ℕ) → step_right h e w ≡ true → is_kind 5 w ≡ true
step_opens h e w right = grind (arith, nat_tests)

-- a word that has no fault after the words before it, wherever it stands, and what is carried past it
pub record Passing (h : Head) (e : Earlier) (sets w : ℕ) (then : Earlier) : Type 0 where
  pub faultless : (p : ℕ) → None ≡ fault_at h (seen e sets) p w
  pub past : passed e w ≡ then

-- a word that opens neither a step nor a sequence
opens_nothing : (e : Earlier) (w : ℕ) → (kind w ≡ 5 → ⊥) → (kind w ≡ 6 → ⊥) → passed e w ≡ with_last e w
opens_nothing e w five six =
    let s : e.steps + bool_byte (is_kind 5 w) ≡ e.steps = omega (arith, ap bool_byte (ne_eqb (kind w) 5 five)) in
    let c : e.sequences + bool_byte (is_kind 6 w) ≡ e.sequences = omega (arith, ap bool_byte (ne_eqb (kind w) 6 six)) in
    λ i. record { steps = s i; sequences = c i; last = w }

-- a word of a sequence's body
module _ (h : Head) (e : Earlier) (last w : ℕ) (right : body_right h e last w ≡ true) where
  body_high : 7 ≤ kind w
  body_high = grind (arith, nat_tests, entry_high w)

  pub body_passing : (sets : ℕ) → Passing h (with_last e last) sets w (with_last e w)
  body_passing sets =
      let high = body_high in
      record {
        faultless = λ p.
            ⊎_elim (entry_faultless h (with_last e last) sets p w) (alternative_faultless h (with_last e last) sets p w)
            (or_cases (entry_right h last w) (alternative_right e w) right);
        past = opens_nothing (with_last e last) w (λ q. omega arith) (λ q. omega arith);
      }

  pub body_follows : in_alternative w ≡ true
  body_follows = grind (arith, nat_tests)

pub inside_body : (h : Head) (e : Earlier) (last w : ℕ) → 0 < e.sequences → in_alternative last ≡ true → inside_right h w ≡ true
    → body_right h e last w ≡ true
inside_body h e last w opened follows right = grind (arith, nat_tests)

-- a fact word of kind k: it follows a word that it may follow, or another of its kind that is less
module _ (h : Head) (k last w : ℕ) (low : 2 ≤ k) (high : k ≤ 4) (is : kind w ≡ k) (counted : payload w < h.facts)
    (follows : FactFollows last k ⊎ ((kind last ≡ k) × (last < w))) where
  fact : is_fact w ≡ true
  fact = fact_of w (omega arith) (omega arith)

  -- what it follows opens a step, or is a fact word and less
  before : (is_kind 5 last ≡ true) ⊎ ((is_fact last ≡ true) × (last < w))
  before = grind (arith, nat_tests, fact_of last)

  may_stand_lem : is_kind 5 last || is_fact last ≡ true
  may_stand_lem = grind (arith, nat_tests)

  in_order_lem : where_kind (is_fact w && is_fact last) (ltb last w) ≡ true
  in_order_lem = grind (arith, nat_tests)

  pub fact_passing : (e : Earlier) (sets : ℕ) → (k ≡ 4 → in_column sets (payload w) ≡ false)
      → Passing h (with_last e last) sets w (with_last e w)
  fact_passing e sets unset =
      record {
        faultless = λ p. none_found h (seen (with_last e last) sets) p w fine;
        past = opens_nothing (with_last e last) w (λ q. omega arith) (λ q. omega arith);
      }
    where
      fine : Fine h (seen (with_last e last) sets) w
      fine =
          record {
            stands = rw (fact, may_stand_lem);
            pays = grind (arith, nat_tests);
            follows = in_order_lem;
            unset = grind (arith, nat_tests, unset);
          }
