-- What a word without a fault keeps: each of the four rules, and the rule for its payload by its kind.
-- Assumes nothing.
use Rattle.std.proofs.Common.{◌≡◌, ℕ, ◌<◌, Bool, true, cond, arith}
use Rattle.std.proofs.lemmas.Bool.Decides.{nat_tests}
use Rattle.image.specs.Word.{kind, payload, is_fact}
use Rattle.rules.specs.Rules.{Before, may_stand, where_kind, payload_right, in_order, clears_unset, fault_at}
use Rattle.image.specs.declared.answer.Head.{Head}
use Rattle.image.specs.declared.answer.Refusal.{Refusal}
use Rattle.std.specs.Prelude.{Some, None}

pub record Fine (h : Head) (e : Before) (w : ℕ) : Type 0 where
  pub stands : may_stand h e w ≡ true
  pub pays : payload_right h e w ≡ true
  pub follows : in_order e w ≡ true
  pub unset : clears_unset e.sets w ≡ true

found_nothing : {r : Refusal} → Some r ≡ None → ⊥
found_nothing {r} e = cc

all_kept : (a b c d : Bool) (x y z u : Refusal) → cond a (cond b (cond c (cond d None (Some u)) (Some z)) (Some y)) (Some x) ≡ None
    → (a ≡ true) × (b ≡ true) × (c ≡ true) × (d ≡ true)
all_kept a b c d x y z u e = grind (arith, nat_tests)

pub fine : (h : Head) (e : Before) (p w : ℕ) → fault_at h e p w ≡ None → Fine h e w
fine h e p w n =
    let k = all_kept (may_stand h e w) (payload_right h e w) (in_order e w) (clears_unset e.sets w) _ _ _ _ n in
    record { stands = k.0; pays = k.1; follows = k.2; unset = k.3 }

pub none_found : (h : Head) (e : Before) (p w : ℕ) → Fine h e w → None ≡ fault_at h e p w
none_found h e p w f = rw (f.stands, f.pays, f.follows, f.unset)

-- the rule holds of a word of its kind
pub where_kind_lem : (b r : Bool) → where_kind b r ≡ true → b ≡ true → r ≡ true
where_kind_lem b r e q = grind (arith, nat_tests)

pub kind_where : (b r : Bool) → (b ≡ true → r ≡ true) → where_kind b r ≡ true
kind_where b r holds = grind (arith, nat_tests)

pub record Payloads (h : Head) (e : Before) (w : ℕ) : Type 0 where
  pub step : kind w ≡ 5 → (payload w ≡ e.steps) × (payload w < h.steps)
  pub sequence : kind w ≡ 6 → (payload w ≡ e.sequences) × (payload w < h.sequences)
  pub names_step : kind w ≡ 8 → payload w < h.steps
  pub names_sequence : kind w ≡ 9 → payload w < h.sequences
  pub names_fact : kind w ≡ 13 → payload w < h.facts
  pub fact : is_fact w ≡ true → payload w < h.facts

pub payloads : (h : Head) (e : Before) (w : ℕ) → payload_right h e w ≡ true → Payloads h e w
payloads h e w s = grind (arith, nat_tests)
