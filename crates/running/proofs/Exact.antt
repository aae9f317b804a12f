-- A set that visits lead to from a blank one, and that no visit changes, has just the sequences with a run.
-- Assumes nothing.
use Rattle.std.proofs.Common.{◌≡◌, ℕ, ◌/◌, ◌<◌, ◌≤◌, Bool, true, false, cond, not, ◌&&◌, ◌||◌, List, [], ◌∷◌, length, sym, refl, ap, ◌∙◌, subst, ap₂, arith}
use native.Mathlib.Decide.{ℕ_discrete}
use mathlib.Core.Bool.{false≢true}
use borrow.Author.Tests.{not-false}
use Rattle.general.specs.Numbers.{Zeros}
use Rattle.general.specs.Scan.{every}
use Rattle.general.specs.Tests.{some}
use Rattle.general.proofs.Bools.{and_parts}
use Rattle.library.specs.Library.{Library, Sequence, Item, Entry, item, call, Alternative}
use Rattle.walk.specs.Walk.{alternatives_at}
use Rattle.runs.specs.Run.{alternatives_of}
use Rattle.runs.specs.Algebra.{any_algebra}
use Rattle.runs.specs.Possible.{can, look, has_run}
use Rattle.runs.specs.Table.{whole, Occurs, Sound, Closed}
use Rattle.runs.proofs.Possible.{look_place, look_sound, alternative_below, table_possible}
use Rattle.callers.specs.Callers.{in_set, with_member}
use Rattle.callers.proofs.CallerSets.{member_other, none_member}
use Rattle.settling.specs.Settling.{Reached, here, next, Settles, Settled}
use Rattle.settling.proofs.Visits.{reached_length}
use Rattle.running.specs.Runs.{gives_by, runs_by}
use Rattle.running.specs.Visited.{visited}
use Rattle.running.proofs.Visited.{finds, visits_lower, still_none}

-- ---- one look

-- no item is marked
abbrev unmarked : Item → Unit {0}
unmarked x = tt

-- a set as a table of outcomes, of which there is one
abbrev table_of : List ℕ → ℕ → Unit {0} → Bool
table_of t c m = in_set t c

module _ (t : List ℕ) where
  or_none : (b : Bool) → (b || false) ≡ b
  or_none true = refl
  or_none false = refl

  -- what entries can have is what they give by the set
  can_gives : (es : List Entry) → can any_algebra unmarked (table_of t) es tt tt ≡ gives_by (in_set t) es
  unfolding can every some
  can_gives [] = refl
  can_gives (item x ∷ es) = can_gives es
  can_gives (call d ∷ es) =
      or_none (in_set t d && can any_algebra unmarked (table_of t) es tt tt) ∙ ap₂ ◌&&◌ (twice (in_set t d)) (can_gives es)
    where
      twice : (b : Bool) → b ≡ not (not b)
      twice true = refl
      twice false = refl

  alternatives_gives : (alts : List Alternative) → some (λ es. can any_algebra unmarked (table_of t) es tt tt) alts ≡ runs_by (in_set t) alts
  unfolding some
  alternatives_gives [] = refl
  alternatives_gives (es ∷ alts) = ap₂ ◌||◌ (can_gives es) (alternatives_gives alts)

  look_runs : (S : List Sequence) (c : ℕ) → look any_algebra unmarked S (table_of t) c tt ≡ runs_by (in_set t) (alternatives_of S c)
  unfolding look
  look_runs S c = alternatives_gives (alternatives_of S c)

-- ---- the visits

-- what the places of an accepted image say
pub record Given (L : Library) (n : ℕ) (part places : List ℕ) : Type 0 where
  pub few : n ≤ 256
  pub counted : length L.sequences ≡ n
  pub reads : (c : ℕ) → c < n → alternatives_at part places c ≡ alternatives_of L.sequences c

module _ (L : Library) (n : ℕ) (part places : List ℕ) (given : Given L n part places) where
  abbrev S : List Sequence
  S = L.sequences

  -- what a visit looks at is one look
  gives_look : (t : List ℕ) (c : ℕ) → c < n → runs_by (in_set t) (alternatives_at part places c) ≡ look any_algebra unmarked S (table_of t) c tt
  gives_look t c l = ap (runs_by (in_set t)) (given.reads c l) ∙ sym (look_runs t S c)

  visit_sound : (t : List ℕ) (c : ℕ) → c < n → c / 64 < length t → Sound S any_algebra unmarked (whole any_algebra) (table_of t)
      → Sound S any_algebra unmarked (whole any_algebra) (table_of (visited part places t c))
  visit_sound t c l room sound d m h e = go (finds part places t c) refl e
    where
      go : (b : Bool) → finds part places t c ≡ b → in_set (cond b (with_member t c) t) d ≡ true → Occurs S any_algebra unmarked d m
      go true found e' =
          elim (ℕ_discrete d c) [
            | yes same ↦
                let given_run = (and_parts (not (in_set t c)) (runs_by (in_set t) (alternatives_at part places c)) found).1 in
                look_sound S any_algebra unmarked (whole any_algebra) (table_of t) sound d m h
                (subst (λ (k : ℕ). look any_algebra unmarked S (table_of t) k tt ≡ true) (sym same) (sym (gives_look t c l) ∙ given_run))
            | no other ↦ sound d m h (sym (member_other t c room d other) ∙ e')
          ]
      go false found e' = sound d m h e'

  reached_sound : {t₀ t : List ℕ} → length t₀ ≡ 4 → Zeros t₀ → Reached (visited part places) n t₀ t
      → Sound S any_algebra unmarked (whole any_algebra) (table_of t)
  reached_sound {t₀} four blank here = λ c m h e. absurd (false≢true (sym (none_member t₀ blank c) ∙ e))
  reached_sound four blank (next {table = s} c l r) =
      visit_sound s c l (omega (arith, given.few, reached_length (visits_lower part places n given.few) r)) (reached_sound four blank r)

  settled_closed : (t : List ℕ) → length t ≡ 4 → Settled (visited part places) n t → Closed S any_algebra unmarked (whole any_algebra) (table_of t)
  settled_closed t four settled c m h e =
      let p = look_place S any_algebra unmarked (table_of t) c tt e in
      let l : c < n = omega (arith, alternative_below S c p.0 p.1, given.counted) in
      let none = still_none part places t c (omega (arith, given.few)) (settled c l) in
      not-false (in_set t c) (only (not (in_set t c)) (sym (ap (λ (b : Bool). not (in_set t c) && b) (gives_look t c l ∙ e)) ∙ none))
    where
      only : (x : Bool) → (x && true) ≡ false → x ≡ false
      only true q = q
      only false q = refl

  pub settled_exact : (t₀ t : List ℕ) → length t₀ ≡ 4 → Zeros t₀ → Settles (visited part places) n t₀ t → (c : ℕ) → in_set t c ≡ has_run L c
  settled_exact t₀ t four blank s c =
      table_possible S any_algebra unmarked (whole any_algebra) (table_of t) (reached_sound four blank s.reached)
      (settled_closed t (reached_length (visits_lower part places n given.few) s.reached ∙ four) s.settled) c tt tt
