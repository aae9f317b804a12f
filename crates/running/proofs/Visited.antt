-- The visits of the set of sequences with a run: what a visit promises, and that it depends on the sequences called and on no other.
-- Assumes nothing.
use Rattle.std.proofs.Common.{◌≡◌, ℕ, ◌/◌, ◌<◌, ◌≤◌, Bool, true, false, cond, not, ◌&&◌, ◌||◌, List, [], ◌∷◌, length, sym, refl, ap, ◌∙◌, subst, ap₂, ⊎_elim, true≢false, arith, length-set}
use mathlib.Core.Bool.{false≢true}
use borrow.Author.Tests.{not-true}
use Rattle.general.specs.Scan.{every}
use Rattle.general.specs.Tests.{some, All}
use Rattle.general.proofs.Bools.{passes_or_not, and_parts}
use Rattle.general.proofs.Scan.{count_passing, count_more}
use Rattle.general.proofs.Rising.{passing_length}
use Rattle.library.specs.Library.{Entry, Alternative}
use Rattle.walk.specs.Walk.{names_none, alternatives_at}
use Rattle.callers.specs.Callers.{in_set, with_member, calls}
use Rattle.callers.proofs.CallerSets.{member_same, member_other, member_stays}
use Rattle.callers.proofs.Calls.{calls_all}
use Rattle.settling.specs.Settling.{Visit}
use Rattle.settling.specs.Settling.{Lowers}
use Rattle.settling.specs.Settling.{Local}
use Rattle.running.specs.Runs.{gives_by, runs_by}
use Rattle.running.specs.Visited.{lacking, visited}

-- a set with one more lacks less
lacking_falls : (t : List ℕ) (c : ℕ) → c / 64 < length t → c < 256 → in_set t c ≡ false → lacking (with_member t c) < lacking t
unfolding lacking
lacking_falls t c room low out =
    let fewer : count_passing (λ d. not (in_set (with_member t c) d)) 256 < count_passing (λ d. not (in_set t d)) 256 =
    count_more (λ d. not (in_set (with_member t c) d)) (λ d. not (in_set t d)) still 256 c low (ap not (member_same t c room)) (ap not out) in
    omega (arith, passing_length (λ d. not (in_set (with_member t c) d)) 256, passing_length (λ d. not (in_set t d)) 256)
  where
    still : (d : ℕ) → not (in_set (with_member t c) d) ≡ true → not (in_set t d) ≡ true
    still d e =
        ⊎_elim (λ inside. absurd (true≢false (sym (member_stays t c room d inside) ∙ not-true (in_set (with_member t c) d) e))) (λ outside. ap not outside)
        (passes_or_not (in_set t d))

-- ---- two sets that agree on the sequences called

module _ (found found' : ℕ → Bool) where
  abbrev Agrees : Entry → Type 0
  Agrees e = names_none found e ≡ names_none found' e

  gives_local : (es : Alternative) → All Agrees es → gives_by found es ≡ gives_by found' es
  unfolding every
  gives_local [] same = refl
  gives_local (e ∷ es) same = ap₂ (λ (x y : Bool). not x && y) same.0 (gives_local es same.1)

  runs_local : (alts : List Alternative) → All (All Agrees) alts → runs_by found alts ≡ runs_by found' alts
  unfolding some
  runs_local [] same = refl
  runs_local (es ∷ alts) same = ap₂ ◌||◌ (gives_local es same.0) (runs_local alts same.1)

-- ---- a visit

module _ (part places : List ℕ) where
  -- by a set, one of the alternatives of sequence c gives a run
  abbrev pub gives : List ℕ → ℕ → Bool
  gives t c = runs_by (in_set t) (alternatives_at part places c)

  -- a visit finds sequence c
  abbrev pub finds : List ℕ → ℕ → Bool
  finds t c = not (in_set t c) && gives t c

  pub visit_made : (t : List ℕ) (c : ℕ) → c / 64 < length t → c < 256 → (b : Bool) → finds t c ≡ b
      → Visit (visited part places) lacking t c (cond b (with_member t c) t) b
  visit_made t c room low true e =
      record {
        done = ap (λ (b : Bool). cond b (with_member t c) t) (sym e);
        falls = λ new. lacking_falls t c room low (not-true (in_set t c) (and_parts (not (in_set t c)) (gives t c) e).0);
        stays = λ none. absurd (true≢false none);
      }
  visit_made t c room low false e =
      record {
        done = ap (λ (b : Bool). cond b (with_member t c) t) (sym e);
        falls = λ new. absurd (false≢true new);
        stays = λ none. refl;
      }

  pub visits_lower : (n : ℕ) → n ≤ 256 → Lowers (visited part places) lacking n 4
  visits_lower n few =
      record {
        keeps = λ t c. keeps t c (finds t c);
        lowers = λ t c l room. lowers t c (finds t c) (visit_made t c (omega arith) (omega arith) (finds t c) refl);
      }
    where
      keeps : (t : List ℕ) (c : ℕ) (b : Bool) → length (cond b (with_member t c) t) ≡ length t
      keeps t c true = length-set t (c / 64) _
      keeps t c false = refl

      lowers : (t : List ℕ) (c : ℕ) (b : Bool) → Visit (visited part places) lacking t c (cond b (with_member t c) t) b
          → lacking (cond b (with_member t c) t) ≤ lacking t
      lowers t c true v = omega (arith, v.falls refl)
      lowers t c false v = omega arith

  -- a visit that changes nothing finds nothing
  pub still_none : (t : List ℕ) (c : ℕ) → c / 64 < length t → visited part places t c ≡ t → finds t c ≡ false
  still_none t c room still = go (finds t c) refl still
    where
      go : (b : Bool) → finds t c ≡ b → cond b (with_member t c) t ≡ t → b ≡ false
      go true e same =
          absurd (true≢false (sym (member_same t c room) ∙ ap (λ (s : List ℕ). in_set s c) same ∙ not-true (in_set t c) (and_parts (not (in_set t c)) (gives t c) e).0))
      go false e same = refl

  none_still : (t : List ℕ) (c : ℕ) → finds t c ≡ false → visited part places t c ≡ t
  none_still t c e = ap (λ (b : Bool). cond b (with_member t c) t) e

  -- what the alternatives of d give is the same with a sequence in the set that d does not call
  gives_stays : (t : List ℕ) (c d : ℕ) → c / 64 < length t → calls part places d c ≡ false → gives (with_member t c) d ≡ gives t d
  gives_stays t c d room apart =
      runs_local (in_set (with_member t c)) (in_set t) (alternatives_at part places d)
      (calls_all (Agrees (in_set (with_member t c)) (in_set t)) (λ x. refl) (alternatives_at part places d)
      (λ e called. ap not (member_other t c room e (λ same. false≢true (sym apart ∙ subst (λ (k : ℕ). calls part places d k ≡ true) same called)))))

  pub visits_local : (n : ℕ) → n ≤ 256 → Local (visited part places) (calls part places) n 4
  visits_local n few =
      record {
        stays = λ t c d l m room apart still. stays t c d (finds t c) (omega arith) apart (still_none t d (omega arith) still);
        again = λ t c l room apart. again t c (finds t c) refl (omega arith);
      }
    where
      stays : (t : List ℕ) (c d : ℕ) (b : Bool) → c / 64 < length t → calls part places d c ≡ false → finds t d ≡ false
          → visited part places (cond b (with_member t c) t) d ≡ cond b (with_member t c) t
      stays t c d true room apart none = none_still (with_member t c) d (go (in_set t d) refl)
        where
          go : (x : Bool) → in_set t d ≡ x → finds (with_member t c) d ≡ false
          go true inside = ap (λ (y : Bool). not y && gives (with_member t c) d) (member_stays t c room d inside)
          go false outside = later (in_set (with_member t c) d)
            where
              later : (y : Bool) → (not y && gives (with_member t c) d) ≡ false
              later true = refl
              later false = gives_stays t c d room apart ∙ ap (λ (y : Bool). not y && gives t d) (sym outside) ∙ none
      stays t c d false room apart none = none_still t d none

      again : (t : List ℕ) (c : ℕ) (b : Bool) → finds t c ≡ b → c / 64 < length t
          → visited part places (cond b (with_member t c) t) c ≡ cond b (with_member t c) t
      again t c true e room = none_still (with_member t c) c (ap (λ (y : Bool). not y && gives (with_member t c) c) (member_same t c room))
      again t c false e room = none_still t c e
