-- What an alternative comes to by the tables, and a rank that its alternatives lower, in the form that the loops ask.
-- Assumes nothing.
use Prim.Native.Nat.{ℕ, suc, ◌+◌, min, max}
use native.Mathlib.Numerals.{one-add}
use native.Mathlib.Omega.{arith}
use mathlib.Core.Path.{◌≡◌, refl, sym, ap, ap₂, ◌∙◌}
use mathlib.Core.Logic.{⊎_elim}
use mathlib.Core.Bool.{Bool, true, false, cond, not, ◌&&◌, ◌||◌, false≢true}
use mathlib.Core.List.{List, [], ◌∷◌}
use lib.ListN.{get_or, drop}
use lib.Dec.{leb, ltb}
use borrow.Author.Tests.{leb-true, ltb-false, not-true}
use Rattle.std.specs.Prelude.{Result, Ok, Err}
use Rattle.image.specs.Word.{is_kind, is_entry}
use Rattle.library.specs.Library.{Entry, Alternative, alternatives_from}
use Rattle.general.specs.Scan.{every}
use Rattle.walk.proofs.Walking.{Walking, walking_out}
use Rattle.general.proofs.Bools.{nor_left, nor_right, or_left, or_right, or_cases}
use Rattle.rank.specs.Walk.{lowered_from, depth_from, fewest_from}
use Rattle.slot.specs.Slots.{rank_in, pass_in}
use Rattle.rank.specs.Tables.{fewest_after, lacks_in, lost_in}
use Rattle.rank.proofs.Walk.{cond_same, lowered_least}
use Rattle.rank.specs.declared.read.Positions.{Positions}

-- an entry that has a rank is not dead
pub passing_alive : (none : ℕ) (ranks : List ℕ) (e : Entry) → pass_in none ranks e ≡ true → lacks_in none ranks e ≡ false
passing_alive none ranks e passes = ap not passes

-- whether all entries have a rank, by the first of them
module _ (none : ℕ) (ranks : List ℕ) where
  abbrev pub every_worth : ℕ → List Entry → ℕ
  every_worth a es = cond (every (pass_in none ranks) es) a none

  every_cons : (a : ℕ) (e : Entry) (es : List Entry) (b : Bool) → pass_in none ranks e ≡ b → every_worth a (e ∷ es) ≡ cond b (every_worth a es) none
  unfolding every
  every_cons a e es b told = ap (λ (x : Bool). cond (x && every (pass_in none ranks) es) a none) told ∙ go b (every (pass_in none ranks) es)
    where
      go : (x y : Bool) → cond (x && y) a none ≡ cond x (cond y a none) none
      go true y = refl
      go false y = refl

  pub every_out : (a : ℕ) → every_worth a [] ≡ a
  unfolding every
  every_out a = refl

  pub every_goes : (a : ℕ) (e : Entry) (es : List Entry) → pass_in none ranks e ≡ true → every_worth a (e ∷ es) ≡ every_worth a es
  every_goes a e es passes = every_cons a e es true passes

  pub every_dies : (a : ℕ) (e : Entry) (es : List Entry) → pass_in none ranks e ≡ false → (lacks_in none ranks e ≡ true) × (every_worth a (e ∷ es) ≡ none)
  every_dies a e es fails = (ap not fails, every_cons a e es false fails)

-- the depth so far, by the next entry
module _ (none : ℕ) (ranks : List ℕ) where
  abbrev pub depth_worth : ℕ → List Entry → ℕ
  depth_worth d es = depth_from none (rank_in none 0 ranks) d es

  abbrev pub deeper : ℕ → Entry → ℕ
  deeper d e = max d (rank_in none 0 ranks e)

  depth_cons : (d : ℕ) (e : Entry) (es : List Entry) (b : Bool) → pass_in none ranks e ≡ b → depth_worth d (e ∷ es) ≡ cond b (depth_worth (deeper d e) es) none
  unfolding depth_from
  depth_cons d e es b told = ap (λ (x : Bool). cond x (depth_worth (deeper d e) es) none) told

  pub depth_goes : (d : ℕ) (e : Entry) (es : List Entry) → pass_in none ranks e ≡ true → depth_worth d (e ∷ es) ≡ depth_worth (deeper d e) es
  depth_goes d e es passes = depth_cons d e es true passes

  pub depth_dies : (d : ℕ) (e : Entry) (es : List Entry) → pass_in none ranks e ≡ false → (lacks_in none ranks e ≡ true) × (depth_worth d (e ∷ es) ≡ none)
  depth_dies d e es fails = (ap not fails, depth_cons d e es false fails)

  pub depth_out : (d : ℕ) → depth_worth d [] ≡ d
  unfolding depth_from
  depth_out d = refl

-- no position counts where neither those so far nor those to come do
fewest_shut : (none : ℕ) (rank : Entry → ℕ) (ahead behind : Entry → Bool) (es : List Entry) → fewest_from none rank ahead behind none none es ≡ none
unfolding fewest_from
fewest_shut none rank ahead behind [] = refl
fewest_shut none rank ahead behind (e ∷ es) =
    ap₂ (λ (floor best : ℕ). fewest_from none rank ahead behind floor best es) (cond_same (ahead e) none) (best_none (behind e))
    ∙ fewest_shut none rank ahead behind es
  where
    best_none : (b : Bool) → min (cond b none none) (max (rank e) none) ≡ none
    best_none true = omega arith
    best_none false = omega arith

-- an entry without a rank that passes neither as one ahead nor as one behind
pub fewest_lost : (none : ℕ) (rank : Entry → ℕ) (ahead behind : Entry → Bool) (floor best : ℕ) (e : Entry) (es : List Entry)
    → not ((ahead e || behind e) || ltb (rank e) none) ≡ true → fewest_from none rank ahead behind floor best (e ∷ es) ≡ none
unfolding fewest_from
fewest_lost none rank ahead behind floor best e es lost =
    let no = not-true _ lost in
    let either = nor_left (ahead e || behind e) (ltb (rank e) none) no in
    let le = ltb-false (rank e) none (nor_right (ahead e || behind e) (ltb (rank e) none) no) in
    let high : min none (max (rank e) floor) ≡ none = omega arith in
    ap₂ (λ (a b : Bool). fewest_from none rank ahead behind (cond a floor none) (min (cond b best none) (max (rank e) floor)) es)
    (nor_left (ahead e) (behind e) either) (nor_right (ahead e) (behind e) either)
    ∙ ap (λ (x : ℕ). fewest_from none rank ahead behind none x es) high ∙ fewest_shut none rank ahead behind es

-- an entry that passes as one behind or as one ahead, by the table that was asked
pub beside_passes : (first a b : Bool) → (first && b) || (not first && a) ≡ true → a || b ≡ true
beside_passes true a b told = or_right a b (⊎_elim (λ h. h) (λ h. absurd (false≢true h)) (or_cases b false told))
beside_passes false a b told = or_left a b (⊎_elim (λ h. absurd (false≢true h)) (λ h. h) (or_cases false a told))

-- the fewest links by what a walk over the entries comes to
abbrev pub best_or : ℕ → Result Positions Positions → ℕ
best_or none (Ok x) = x.best
best_or none (Err x) = none

-- the positions so far, by the next entry
module _ (none : ℕ) (ahead behind ranks : List ℕ) where
  abbrev pub with_entry : Positions → Entry → Positions
  with_entry x e =
      record {
        best = min (cond (pass_in none behind e) x.best none) (max (rank_in none none ranks e) x.floor);
        floor = cond (pass_in none ahead e) x.floor none;
      }

  abbrev pub found : Entry → Bool
  found e = (pass_in none ahead e || pass_in none behind e) || ltb (rank_in none none ranks e) none

  pub found_alive : (e : Entry) → found e ≡ true → lost_in none ahead behind ranks e ≡ false
  found_alive e is = ap not is

  pub links_goes : (x : Positions) (e : Entry) (es : List Entry)
      → fewest_after none ahead behind ranks x (e ∷ es) ≡ fewest_after none ahead behind ranks (with_entry x e) es
  unfolding fewest_from
  links_goes x e es = refl

  pub links_dies : (x : Positions) (e : Entry) (es : List Entry) → found e ≡ false
      → (lost_in none ahead behind ranks e ≡ true) × (fewest_after none ahead behind ranks x (e ∷ es) ≡ none)
  links_dies x e es fails =
      let lost : lost_in none ahead behind ranks e ≡ true = ap not fails in
      (lost, fewest_lost none (rank_in none none ranks) (pass_in none ahead) (pass_in none behind) x.floor x.best e es lost)

  -- with one entry more that is not dead, with which the positions come to y
  pub links_turn : (x y : Positions) (e : Entry) (es : List Entry) → lost_in none ahead behind ranks e ≡ false
      → (y.best ≡ min (cond (pass_in none behind e) x.best none) (max (rank_in none none ranks e) x.floor)) × (y.floor ≡ cond (pass_in none ahead e) x.floor none)
      → fewest_after none ahead behind ranks x (e ∷ es) ≡ fewest_after none ahead behind ranks y es
  unfolding fewest_from
  links_turn x y e es alive more =
      sym
      (ap₂ (λ (floor best : ℕ). fewest_from none (rank_in none none ranks) (pass_in none ahead) (pass_in none behind) floor best es) more.1 more.0)

  pub links_out : (x : Positions) → fewest_after none ahead behind ranks x [] ≡ x.best
  unfolding fewest_from
  links_out x = refl

  -- an entry that passes as one behind, on the first side, or as one ahead, on the last
  abbrev pub beside : Bool → Entry → Bool
  beside first e = (first && pass_in none behind e) || (not first && pass_in none ahead e)

  pub beside_alive : (first : Bool) (e : Entry) → beside first e ≡ true → lost_in none ahead behind ranks e ≡ false
  beside_alive first e is = found_alive e (or_left _ _ (beside_passes first (pass_in none ahead e) (pass_in none behind e) is))

-- ---- the alternatives of a sequence

-- a rank lowered by one alternative more, which comes to v
pub lowered_cons : (worth : Alternative → ℕ) (r v : ℕ) (es : Alternative) (alts : List Alternative) → v ≡ worth es
    → lowered_from worth r (es ∷ alts) ≡ lowered_from worth (min r (1 + v)) alts
unfolding lowered_from
lowered_cons worth r v es alts is = ap (λ (x : ℕ). lowered_from worth (min r x) alts) (sym (one-add v ∙ ap suc is))

pub lowered_nil : (worth : Alternative → ℕ) (r : ℕ) → lowered_from worth r [] ≡ r
unfolding lowered_from
lowered_nil worth r = refl

-- no alternative is left, or none lowers the rank
pub lowered_done : (worth : Alternative → ℕ) (r : ℕ) {part : List ℕ} {whole i : ℕ} → Walking part whole (lowered_from worth r) i → is_entry (get_or part i 0) ≡ false
    → leb r 1 || not (is_kind 7 (get_or part i 0)) ≡ true → r ≡ whole
lowered_done worth r {part} {i = i} here none done =
    ⊎_elim (λ low. sym (lowered_least worth r (alternatives_from (drop i part)) (leb-true r 1 low)) ∙ here.same)
    (λ other. sym (lowered_nil worth r) ∙ walking_out here (not-true _ other) none) (or_cases (leb r 1) _ done)
