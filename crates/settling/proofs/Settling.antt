-- A table settled turn by turn: each turn visits a stale number, and where none is stale no visit changes the table. For any table, any visit
-- and any weight.
-- Assumes nothing.
use Prim.Native.Nat.{ℕ, ◌+◌, ◌*◌, ◌≤◌, ◌<◌}
use native.Mathlib.Omega.{arith}
use native.Mathlib.Decide.{ℕ_discrete}
use mathlib.Core.Path.{◌≡◌, refl, sym, subst, ap, ◌∙◌}
use mathlib.Core.Bool.{Bool, true, false, ◌&&◌, false≢true, true≢false}
use borrow.Author.Tests.{lt-ltb}
use mathlib.Core.List.{List}
use lib.ListN.{length, get_or}
use Rattle.general.proofs.Scan.{count_passing, count_all, count_more}
use Rattle.general.specs.Numbers.{Complete}
use Rattle.callers.specs.Callers.{every_sequence, in_set, is_caller, calls, Removed, United}
use Rattle.callers.proofs.CallerSets.{united_out}
use Rattle.settling.specs.Settling.{here, Visit, Settles, Swept, Scheduled, Lowers, Local}
use Rattle.settling.specs.Turns.{place_of, number_at, to_visit, Passed, Looked, NextTurn, StaleAfter}
use Rattle.std.proofs.Common.{Option, Some, None}
use Rattle.settling.proofs.Visits.{place_back, reached_then, reached_visit, reached_length}
use Rattle.settling.proofs.Stale.{fresh_start, fresh_turn}

-- ---- the next turn

pub passed_none : (n : ℕ) (order stale : List ℕ) (forward : Bool) (at : ℕ) → Passed n order stale forward at at
passed_none n order stale forward at j from to within = absurd (omega arith)

-- a place whose number is not to be visited is passed
pub passed_more : (n : ℕ) (order stale : List ℕ) (forward : Bool) (at i : ℕ) → to_visit n stale (number_at order forward i) ≡ false
    → Passed n order stale forward at i → Passed n order stale forward at (i + 1)
passed_more n order stale forward at i fresh p j from to within =
    elim (ℕ_discrete j i) [ yes same ↦ rw same fresh | no other ↦ p j from (omega arith) within ]

-- an order that names all numbers, and no place with one that is to be visited
pub none_left : (n : ℕ) (order stale : List ℕ) (forward : Bool) → Complete order n → Passed n order stale forward 0 (length order) → (c : ℕ) → c < n
    → in_set stale c ≡ false
none_left n order stale forward complete passed c low =
    let named = complete c low in
    let there = place_back forward (length order) named.place named.within in
    let within = there.0 in
    let number : number_at order forward (place_of forward (length order) named.place) ≡ c =
    ap (λ (i : ℕ). get_or order i 0) there.1 ∙ named.number in
    ap (λ (b : Bool). b && in_set stale c) (sym (lt-ltb c n low))
    ∙ subst (λ (d : ℕ). to_visit n stale d ≡ false) number (passed _ (omega arith) within within)

-- a look from place 0 on
pub next_turn : (n : ℕ) (order stale : List ℕ) (forward : Bool) (next : ℕ) (found : Option ℕ) → Complete order n → Looked n order stale forward 0 next found
    → NextTurn n stale found
next_turn n order stale forward next (Some c) complete found = (found.low, found.chosen)
next_turn n order stale forward next None complete passed = none_left n order stale forward complete passed

-- ---- after a visit

pub after_same : (callers : List ℕ) (c : ℕ) (s s' : List ℕ) → Removed c s s' → StaleAfter callers c s s' false
after_same callers c s s' out =
    record { unchanged = λ q. out; others = λ d l e other. sym (out.others d other) ∙ e; called = λ q. absurd (false≢true q) }

pub after_changed : (callers : List ℕ) (c : ℕ) (s s' s'' : List ℕ) → Removed c s s' → United c callers s' s'' → StaleAfter callers c s s'' true
after_changed callers c s s' s'' out words =
    record {
      unchanged = λ q. absurd (true≢false q);
      others = λ d l e other. sym (out.others d other) ∙ (united_out c callers s' s'' words d l e).0;
      called = λ q d l e. (united_out c callers s' s'' words d l e).1;
    }

-- ---- turn by turn

-- at first every number is stale
pub swept_start : (visit : List ℕ → ℕ → List ℕ) (n : ℕ) (t : List ℕ) → n ≤ 256 → Swept visit n t t every_sequence
swept_start visit n t few = record { reached = here; fresh = fresh_start visit n t few }

-- from where a sweep led to
pub swept_on : {visit : List ℕ → ℕ → List ℕ} {n : ℕ} {t₀ t stale : List ℕ} → Swept visit n t₀ t stale → Swept visit n t t stale
swept_on p = record { reached = here; fresh = p.fresh }

-- the table keeps its length
pub swept_twice : {visit : List ℕ → ℕ → List ℕ} {weight : List ℕ → ℕ} {n room : ℕ} → Lowers visit weight n room → {t₀ t u stale stale' : List ℕ}
    → Swept visit n t₀ t stale → Swept visit n t u stale' → length u ≡ length t₀
swept_twice laws p q = reached_length laws q.reached ∙ reached_length laws p.reached

-- no number is stale
pub settling_end : {visit : List ℕ → ℕ → List ℕ} {n : ℕ} {t₀ t u stale stale' : List ℕ} → Swept visit n t₀ t stale → Swept visit n t u stale'
    → ((c : ℕ) → c < n → in_set stale' c ≡ false) → Settles visit n t₀ u
settling_end p q none = record { reached = reached_then p.reached q.reached; settled = λ c l. q.fresh c l (none c l) }

-- what falls with each turn: the weight of the table, and while that stays the number of stale sequences
abbrev pub load : (List ℕ → ℕ) → List ℕ → List ℕ → ℕ
load weight t stale = 257 * weight t + count_passing (in_set stale) 256

-- the sets of callers say which sequences below n call which
caller_is : {n : ℕ} {part places callers order : List ℕ} → Scheduled n part places callers order → (c d : ℕ) → c < n → d < n
    → is_caller callers d c ≡ calls part places c d
caller_is {n} {part} {places} by c d l m =
    by.written d c (omega (arith, by.few)) (omega (arith, by.room))
    ∙ ap (λ (b : Bool). b && calls part places c d) (lt-ltb c n l)

module _ {visit : List ℕ → ℕ → List ℕ} {weight : List ℕ → ℕ} where
  pub settling_less : (t stale : List ℕ) (c : ℕ) (callers t' stale' : List ℕ) (changed : Bool) → c < 256 → in_set stale c ≡ true
      → Visit visit weight t c t' changed → StaleAfter callers c stale stale' changed → load weight t' stale' < load weight t stale
  settling_less t stale c callers t' stale' true few chosen v after = omega (arith, v.falls refl, count_all (in_set stale') 256)
  settling_less t stale c callers t' stale' false few chosen v after =
      let out = after.unchanged refl in
      let fewer : count_passing (in_set stale') 256 < count_passing (in_set stale) 256 =
      count_more (in_set stale') (in_set stale)
      (λ d e. elim (ℕ_discrete d c) [
        | yes same ↦ absurd (false≢true (sym out.out ∙ subst (λ (k : ℕ). in_set stale' k ≡ true) same e))
        | no other ↦ sym (out.others d other) ∙ e
      ])
      256 c few out.out chosen in
      omega (arith, ap weight (v.stays refl))

  -- a visit of a sequence looks at those that it calls
  module _ {n room : ℕ} {part places callers order : List ℕ} (local : Local visit (calls part places) n room) (by : Scheduled n part places callers order) where
    pub swept_turn : (t₀ t stale : List ℕ) (c : ℕ) (t' stale' : List ℕ) (changed : Bool) → room ≤ length t → c < n → Swept visit n t₀ t stale
        → Visit visit weight t c t' changed → StaleAfter callers c stale stale' changed → Swept visit n t₀ t' stale'
    swept_turn t₀ t stale c t' stale' changed long low p v after =
        let few = by.few in
        record {
          reached = reached_visit t c t' changed low p.reached v;
          fresh =
              fresh_turn local t c t' changed (in_set stale) (in_set stale') long low p.fresh v
              (λ d l e. (
                after.others d (omega arith) e,
                λ q. sym (caller_is by d c l low) ∙ after.called q d (omega arith) e,
              ));
        }
