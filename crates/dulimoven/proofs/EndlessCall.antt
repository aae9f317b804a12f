-- What the engine's endless call gives back is one of the cases of specs/EndlessCall, and the cases give no other number and no other area. What
-- a caller can tell by the number follows from the cases.
-- Assumes nothing.
use Prim.Native.Nat.{ℕ, ◌≤◌}
use native.Mathlib.Omega.{arith}
use mathlib.Core.Path.{◌≡◌, refl, sym, ap, ◌∙◌}
use mathlib.Core.Logic.{◌↔◌}
use mathlib.Core.Bool.{Bool, true, false, cond}
use mathlib.Core.List.{List, ◌++◌}
use lib.ListN.{length, drop}
use lib.Dec.{ltb}
use borrow.Author.Tests.{lt-ltb, le-ltb, ltb-true, ltb-false}
use Rattle.std.specs.Prelude.{Result, Ok, Err}
use Rattle.rules.specs.Checked.{checked}
use Rattle.library.specs.Library.{Library, library_of}
use Rattle.image.specs.declared.answer.Head.{Head}
use Rattle.image.specs.declared.answer.Refusal.{Refusal}
use Rattle.image.specs.declared.answer.Refusal.TheVariants as refusal
use Rattle.library.proofs.Accepted.{faultless, counted}
use Rattle.runs.specs.Possible.{has_run}
use Rattle.runs.proofs.Columns.{has_run_iff, no_run_iff}
use Rattle.endings.specs.Endless.{Listed}
use Rattle.endings.specs.Reached.{endless_list}
use Rattle.endings.proofs.Listed.{listed_list, listed_is, list_short}
use Rattle.endless.specs.Answer.{endless_answer, after_check, area_after}
use Rattle.dulimoven.specs.Returned.{Returned, returned, turned_down}
use Rattle.dulimoven.specs.EndlessCall.{Asked, EndlessRefused, by_image, by_sequence, by_run, by_area, EndlessReturn, refused, listed}
use Rattle.dulimoven.specs.Demands.{Refuses}
use Rattle.dulimoven.specs.Engine.{engine}
use Rattle.dulimoven.proofs.Refusals.{refusal_high}
use Rattle.std.specs.Prelude.{Ok, Err}
use Rattle.image.specs.Answer.{Checked}

-- a list of an accepted image has no more members than the image can have sequences
pub few_listed : (image : List ℕ) (c : ℕ) → Asked image c → (xs : List ℕ) → Listed (library_of image) c xs → length xs ≤ 256
few_listed image c asked xs is =
    let L = library_of image in
    let h = asked.head in
    omega (
      arith,
      ap (λ (ys : List ℕ). length ys) ((listed_is L c xs).0 is),
      list_short L c,
      (counted image h asked.accepted).sequences,
      (faultless image h asked.accepted).sequences_high,
    )

module _ (image : List ℕ) (c : ℕ) (area : List ℕ) where
  abbrev L : Library
  L = library_of image

  abbrev list : List ℕ
  list = endless_list L c

  -- what the call gives back for what it finds, after a check, and after the tests of an accepted image
  abbrev given : Result ℕ Refusal → Returned
  given x = returned (endless_answer x) (area_after x L c area)

  abbrev endless_by : Checked → Returned
  endless_by k = given (after_check k image c (length area))

  abbrev endless_if : Bool → Bool → Bool → Returned
  endless_if low run short =
      given
      (cond low (cond run (Err refusal.HasRun) (cond short (Err refusal.ListArea) (Ok (length list))))
      (Err refusal.Sequence))

  abbrev short : Bool
  short = ltb (length area) (length list)

  pub endless_return : EndlessReturn image c area (engine.endless image c area)
  endless_return = go (checked image) refl
    where
      room : Asked image c → has_run L c ≡ false → (b : Bool) → short ≡ b → EndlessReturn image c area (endless_if true false b)
      room asked none true t = refused refusal.ListArea (by_area asked ((no_run_iff L c).0 none) list (listed_list L c) (ltb-true (length area) (length list) t)) refl
      room asked none false t = listed asked ((no_run_iff L c).0 none) list (listed_list L c) (ltb-false (length area) (length list) t) refl

      run : Asked image c → (b : Bool) → has_run L c ≡ b → EndlessReturn image c area (endless_if true b short)
      run asked true has = refused refusal.HasRun (by_run asked ((has_run_iff L c).0 has)) refl
      run asked false none = room asked none short refl

      low : (h : Head) → checked image ≡ Ok h → (b : Bool) → ltb c h.sequences ≡ b → EndlessReturn image c area (endless_if b (has_run L c) short)
      low h e true t = run (record { head = h; accepted = e; sequence = ltb-true c h.sequences t }) (has_run L c) refl
      low h e false t = refused refusal.Sequence (by_sequence h e (ltb-false c h.sequences t)) refl

      go : (k : Checked) → checked image ≡ k → EndlessReturn image c area (endless_by k)
      go (Err why) e = refused why (by_image e) refl
      go (Ok h) e = low h e (ltb c h.sequences) refl

  -- what an accepted image gives, by the tests
  accepted_gives : (h : Head) → checked image ≡ Ok h → {low run long : Bool} → ltb c h.sequences ≡ low → has_run L c ≡ run → short ≡ long
      → endless_if low run long ≡ engine.endless image c area
  accepted_gives h e l r s =
      (λ i. endless_if (sym l i) (sym r i) (sym s i)) ∙ ap endless_by (sym e)

  asked_gives : (asked : Asked image c) → {run long : Bool} → has_run L c ≡ run → short ≡ long → endless_if true run long ≡ engine.endless image c area
  asked_gives asked r s = accepted_gives asked.head asked.accepted (lt-ltb c asked.head.sequences asked.sequence) r s

  pub endless_only : (r : Returned) → EndlessReturn image c area r → r ≡ engine.endless image c area
  endless_only r (refused why k is) = is ∙ go why k
    where
      go : (why : Refusal) → EndlessRefused image c (length area) why → turned_down why area ≡ engine.endless image c area
      go why (by_image e) = ap endless_by (sym e)
      go why (by_sequence h e past) = accepted_gives h e (le-ltb c h.sequences past) refl refl
      go why (by_run asked run) = asked_gives asked ((has_run_iff L c).1 run) refl
      go why (by_area asked none xs all over) =
          let size = ap (λ (ys : List ℕ). length ys) ((listed_is L c xs).0 all) in
          asked_gives asked ((no_run_iff L c).1 none) (lt-ltb (length area) (length list) (omega arith))
  endless_only r (listed asked none xs all room is) =
      let same = (listed_is L c xs).0 all in
      let size = ap (λ (ys : List ℕ). length ys) same in
      is ∙ ap (λ (ys : List ℕ). returned (length ys) (ys ++ drop (length ys) area)) same
      ∙ asked_gives asked ((no_run_iff L c).1 none) (le-ltb (length area) (length list) (omega arith))

  -- what is no refusal has a number of at most 256
  pub endless_told : (r : Returned) → EndlessReturn image c area r → Refuses r.number ↔ ((why : Refusal) × EndlessRefused image c (length area) why)
  endless_told r k = (there k, λ (why, is). back why is)
    where
      there : EndlessReturn image c area r → Refuses r.number → (why : Refusal) × EndlessRefused image c (length area) why
      there (refused why is same) high = (why, is)
      there (listed asked none xs all room same) high = absurd (omega (arith, ap (λ (x : Returned). x.number) same, few_listed image c asked xs all))

      back : (why : Refusal) → EndlessRefused image c (length area) why → Refuses r.number
      back why is =
          let same : r ≡ turned_down why area = endless_only r k ∙ sym (endless_only (turned_down why area) (refused why is refl)) in
          omega (arith, ap (λ (x : Returned). x.number) same, refusal_high why)

  pub endless_kept : (r : Returned) → EndlessReturn image c area r → Refuses r.number → r.area ≡ area
  endless_kept r (refused why is same) high = ap (λ (x : Returned). x.area) same
  endless_kept r (listed asked none xs all room same) high = absurd (omega (arith, ap (λ (x : Returned). x.number) same, few_listed image c asked xs all))
