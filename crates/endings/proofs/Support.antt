-- Lists that show that none of their members has a run: every list with the property does, and the list of all that an asked sequence reaches has
-- the property.
-- It has: `supported_endless`; `dead_entry`, the entry by which an alternative gives nothing; `listed_supports`.
-- Assumes nothing.
use Prim.Native.Nat.{ℕ, ◌<◌}
use mathlib.Core.Path.{refl}
use mathlib.Core.Logic.{⊎_elim}
use mathlib.Core.Bool.{false≢true}
use mathlib.Core.List.Memᴰ
use mathlib.Core.List.{List, [], ◌∷◌, ◌++◌, Memᴰ}
use lib.ListN.{length}
use borrow.Author.Tests.{eqb-true}
use Rattle.general.proofs.Bools.{passes_or_not}
use Rattle.library.specs.Library.{Library, Entry, item, call, Item}
use Rattle.runs.specs.Run.{alternative_of, Gives, nothing, by_item, by_call, NoRun}
use Rattle.runs.specs.Possible.{has_run}
use Rattle.runs.proofs.Columns.{has_run_iff, no_run_iff}
use Rattle.endings.specs.Endless.{Endless, Names, Reaches, itself, onward, Listed, Supports, NoneEnds}
use Rattle.endings.proofs.Names.{is_call_iff}

module _ (L : Library) where
  -- entries of which one names a member give no list: the run that stands for it would be given by entries of which again one does
  members_give_none : (xs : List ℕ) → Supports L xs → {es : List Entry} {w : List Item} → Gives L.sequences es w → (d : ℕ)
      → Memᴰ (call d) es → Memᴰ d xs → ⊥
  members_give_none xs supports nothing d named listed = Memᴰ.not-nil named
  members_give_none xs supports (by_item {a = a} g) d named listed =
      ⊎_elim (λ e. false≢true ((is_call_iff d (item a)).1 e)) (λ m. members_give_none xs supports g d m listed) (Memᴰ.cases_cons named)
  members_give_none xs supports (by_call {c = c} i lt g g' e) d named listed =
      ⊎_elim
      (λ q.
      let (b, m, also) = supports c (Memᴰ.cast (eqb-true c d ((is_call_iff d (call c)).1 q)) listed) i lt in
      members_give_none xs supports g b m also)
      (λ m. members_give_none xs supports g' d m listed) (Memᴰ.cases_cons named)

  -- "Whoever holds a list with that property may conclude that none of its members has a run, and this is proved for all such lists."
  pub supported_endless : (xs : List ℕ) → Supports L xs → NoneEnds L xs
  supported_endless xs supports c listed w run =
      let (d, named, also) = supports c listed run.alternative run.listed in
      members_give_none xs supports run.given d named also

  -- entries that give no list: one of them names a sequence without a run
  pub dead_entry : (es : List Entry) → ((w : List Item) → ¬ Gives L.sequences es w) → (d : ℕ) × Memᴰ (call d) es × NoRun L d
  dead_entry [] none = absurd (none [] nothing)
  dead_entry (item a ∷ es) none = let (d, m, dead) = dead_entry es (λ w g. none (a ∷ w) (by_item g)) in (d, Memᴰ.tail m, dead)
  dead_entry (call c ∷ es) none =
      ⊎_elim
      (λ e.
      let (u, run) = (has_run_iff L c).0 e in
      let (d, m, dead) = dead_entry es (λ w g. none (u ++ w) (by_call run.alternative run.listed run.given g refl)) in
      (d, Memᴰ.tail m, dead))
      (λ e. (c, Memᴰ.head refl, (no_run_iff L c).0 e)) (passes_or_not (has_run L c))

  -- what is reached has no run
  pub reached_endless : {c d : ℕ} → Reaches L c d → Endless L d
  reached_endless (itself endless) = endless
  reached_endless (onward r names endless) = endless

  -- "Every alternative of each listed sequence names a listed one."
  pub listed_supports : ((d e : ℕ) → Names L d e → e < length L.sequences) → (c : ℕ) (xs : List ℕ) → Listed L c xs → Supports L xs
  listed_supports below c xs listed d m i lt =
      let reached = (listed.exact d).0 m in
      let no_list_lem : (w : List Item) → ¬ Gives L.sequences (alternative_of L.sequences d i) w =
      λ w g. (reached_endless reached).none w (record { alternative = i; listed = lt; given = g }) in
      let (e, named, none) = dead_entry (alternative_of L.sequences d i) no_list_lem in
      let names : Names L d e = record { alternative = i; listed = lt; named = named } in
      (e, named, (listed.exact e).1 (onward reached names (record { sequence = below d e names; none = none })))
