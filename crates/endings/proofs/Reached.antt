-- The test that a sequence is reached is the sentence, and so is every table that is sound and closed.
-- It has: `reaches_iff`; `table_reaches`, which the code's proof cites.
-- Assumes nothing.
use Prim.Native.Nat.{ℕ, ◌<◌}
use mathlib.Core.Path.{◌≡◌, refl, sym, ap, subst}
use mathlib.Core.Logic.{◌↔◌, ⊎_elim}
use mathlib.Core.Bool.{Bool, true, not, ◌&&◌}
use mathlib.Core.List.{Memᴰ}
use native.Mathlib.Omega.{arith}
use lib.Dec.{eqb}
use lib.ListN.{length}
use borrow.Author.Tests.{eq-eqb, eqb-true, not-true}
use Rattle.general.proofs.Bools.{and_parts, and_both, or_cases, or_left, or_right, both_ways}
use Rattle.general.proofs.Tests.{some_found, some_intro}
use Rattle.general.proofs.Scan.{value_in, value_of}
use Rattle.library.specs.Library.{Library}
use Rattle.library.specs.Calls.{calls_of}
use Rattle.runs.specs.Run.{alternatives_of}
use Rattle.runs.specs.Possible.{has_run}
use Rattle.runs.proofs.Columns.{no_run_iff}
use Rattle.runs.proofs.Levels.{least_closed, least_sound, least_key}
use Rattle.runs.proofs.Possible.{alternative_below}
use Rattle.endings.specs.Endless.{Endless, Names, Reaches, itself, onward}
use Rattle.endings.specs.Reached.{numbers, look_from, reaches}
use Rattle.endings.proofs.Names.{names_iff}

module _ (L : Library) where
  -- the numbers of the sequences are those below their number
  numbers_iff : (c : ℕ) → Memᴰ c (numbers L) ↔ (c < length L.sequences)
  unfolding numbers
  numbers_iff c = (
    (λ m. let (i, lt, e) = value_of (λ i. i) (length L.sequences) c m in omega arith),
    value_in (λ i. i) (length L.sequences) c,
  )

  -- only the number of a sequence names another
  names_below : {d e : ℕ} → Names L d e → d < length L.sequences
  names_below {d} names = alternative_below L.sequences d names.alternative names.listed

  -- a look at sequence e finds it where it has no run, and is the asked one, or one that is found names it
  module _ (c : ℕ) (T : ℕ → Bool) (e : ℕ) where
    look_itself : Endless L e → c ≡ e → look_from L c T e ≡ true
    unfolding look_from
    look_itself endless same =
        and_both _ _ (ap not ((no_run_iff L e).1 endless.none)) (or_left _ _ (eq-eqb e c (sym same)))

    look_onward : Endless L e → (d : ℕ) → T d ≡ true → Names L d e → look_from L c T e ≡ true
    unfolding look_from
    look_onward endless d found names =
        and_both _ _ (ap not ((no_run_iff L e).1 endless.none))
        (or_right (eqb e c) _
        (some_intro (λ b. T b && calls_of (alternatives_of L.sequences b) e) ((numbers_iff d).1 (names_below names))
        (and_both _ _ found ((names_iff L d e).1 names))))

    look_sound : ((d : ℕ) → T d ≡ true → d < length L.sequences → Reaches L c d) → look_from L c T e ≡ true → e < length L.sequences
        → Reaches L c e
    unfolding look_from
    look_sound sound h lt =
        let (none, from) = and_parts _ _ h in
        let endless : Endless L e = record { sequence = lt; none = (no_run_iff L e).0 (not-true (has_run L e) none) } in
        ⊎_elim
        (λ same. let asked = eqb-true e c same in subst (Reaches L c) (sym asked) (itself (subst (Endless L) asked endless)))
        (λ named.
        let (d, m, both) = some_found _ (numbers L) named in
        let (found, calls) = and_parts _ _ both in
        onward (sound d found ((numbers_iff d).0 m)) ((names_iff L d e).0 calls) endless)
        (or_cases _ _ from)

  -- what the least table has is reached, and one more look adds nothing to it
  reaches_sound : (c e : ℕ) → reaches L c e ≡ true → Reaches L c e
  unfolding reaches
  reaches_sound c e h =
      least_sound eqb (λ k. eq-eqb k k refl) eqb-true (look_from L c) (λ d. d < length L.sequences → Reaches L c d)
      (λ T sound k. look_sound c T k sound) (numbers L) e h
      ((numbers_iff e).0 (least_key eqb (λ k. eq-eqb k k refl) eqb-true (look_from L c) (numbers L) e h))

  reaches_closed : (c e : ℕ) → Endless L e → look_from L c (reaches L c) e ≡ true → reaches L c e ≡ true
  unfolding reaches
  reaches_closed c e endless h =
      least_closed eqb (λ k. eq-eqb k k refl) eqb-true (look_from L c) (numbers L) e ((numbers_iff e).1 endless.sequence) h

  -- a closed table has all that is reached
  module _ (c : ℕ) (T : ℕ → Bool) (first : Endless L c → T c ≡ true)
      (next : (d e : ℕ) → T d ≡ true → Names L d e → Endless L e → T e ≡ true) where
    closed_complete : {e : ℕ} → Reaches L c e → T e ≡ true
    closed_complete (itself endless) = first endless
    closed_complete (onward {d = d} {e = e} r names endless) = next d e (closed_complete r) names endless

  -- the test is the sentence
  pub reaches_iff : (c e : ℕ) → (reaches L c e ≡ true) ↔ Reaches L c e
  reaches_iff c e = (
    reaches_sound c e,
    closed_complete c (reaches L c) (λ endless. reaches_closed c c endless (look_itself c (reaches L c) c endless refl))
        (λ b d found names endless. reaches_closed c d endless (look_onward c (reaches L c) d endless b found names)),
  )

  -- a table that is sound and closed is the test
  pub table_reaches : (c : ℕ) (T : ℕ → Bool) → ((e : ℕ) → T e ≡ true → Reaches L c e) → (Endless L c → T c ≡ true)
      → ((d e : ℕ) → T d ≡ true → Names L d e → Endless L e → T e ≡ true) → (e : ℕ) → T e ≡ reaches L c e
  table_reaches c T sound first next e =
      both_ways (T e) (reaches L c e) (λ h. (reaches_iff c e).1 (sound e h)) (λ h. closed_complete c T first next ((reaches_iff c e).0 h))
