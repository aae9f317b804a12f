-- A list that the endless call gives back is a reason: every engine's that meets demands 1 and 2 (`engines_explain`), and so this one's
-- (`explains_met`).
-- Assumes nothing.
use Prim.Native.Nat.{ℕ, ◌*◌, ◌^◌, ◌≤◌, ◌<◌}
use native.Mathlib.Omega.{arith}
use mathlib.Core.Path.{◌≡◌, sym, ap, ◌∙◌, subst}
use mathlib.Core.Logic.{◌↔◌}
use mathlib.Core.List.{List}
use lib.ListN.{length, drop}
use lib.Seq.{take-append_seam}
use Rattle.rules.specs.Checked.{checked}
use Rattle.library.specs.Library.{Library, library_of}
use Rattle.image.specs.declared.answer.Head.{Head}
use Rattle.image.specs.declared.answer.Refusal.{Refusal}
use Rattle.library.proofs.Accepted.{counted}
use Rattle.runs.specs.Run.{HasRun, NoRun}
use Rattle.endings.specs.Endless.{Endless, Listed, itself}
use Rattle.endings.proofs.Names.{accepted_names}
use Rattle.endings.proofs.Support.{supported_endless, listed_supports}
use Rattle.endings.proofs.Listed.{listed_is, list_short}
use Rattle.dulimoven.specs.Returned.{Returned, turned_down}
use Rattle.dulimoven.specs.EndlessCall.{Asked, EndlessRefused, by_image, by_sequence, by_run, by_area, EndlessReturn, refused, listed}
use Rattle.dulimoven.specs.Demands.{Engine, Refuses, count, Demand1, Demand2}
use Rattle.dulimoven.specs.Explained.{found, Reason, Explains}
use Rattle.dulimoven.specs.Engine.{engine}
use Rattle.dulimoven.proofs.Refusals.{refusal_high}
use Rattle.dulimoven.proofs.EndlessCall.{few_listed}
use Rattle.dulimoven.proofs.Demands.{total, columns}
use Rattle.std.specs.Prelude.{Ok, Err}

-- an image is not both refused and accepted
apart : (image : List ℕ) (h : Head) (why : Refusal) → checked image ≡ Ok h → checked image ≡ Err why → ⊥
apart image h why a r = let no : ◌≡◌ {A = ℕ} 0 1 = cc in omega arith

-- the list of an accepted image
list_reason : (image : List ℕ) (c : ℕ) → Asked image c → NoRun (library_of image) c → (xs : List ℕ) → Listed (library_of image) c xs → Reason (library_of image) c xs
list_reason image c asked none xs all =
    let L = library_of image in
    let h = asked.head in
    let low : c < count L = omega (arith, asked.sequence, (counted image h asked.accepted).sequences) in
    let supports = listed_supports L (accepted_names image h asked.accepted) c xs all in
    record {
      listed = all;
      itself = (all.exact c).1 (itself (record { sequence = low; none = none }));
      supports = supports;
      none = supported_endless L xs supports;
    }

module _ (image : List ℕ) (c : ℕ) (area : List ℕ) (r : Returned) where
  abbrev L : Library
  L = library_of image

  return_reason : EndlessReturn image c area r → ¬ Refuses r.number → Reason L c (found r)
  return_reason (refused why is same) low = absurd (low (omega (arith, ap (λ (x : Returned). x.number) same, refusal_high why)))
  return_reason (listed asked none xs all room same) low =
      subst (Reason L c) (sym (take-append_seam xs (drop (length xs) area)) ∙ ap found (sym same)) (list_reason image c asked none xs all)

  module _ (h : Head) (accepted : checked image ≡ Ok h) where
    -- the heads of one image are one
    same_count : (k : Head) → checked image ≡ Ok k → k.sequences ≡ count L
    same_count k e = sym (counted image k e).sequences

    return_enough : Endless L c → count L ≤ length area → EndlessReturn image c area r → ¬ Refuses r.number
    return_enough none room (refused why is same) high = go why is
      where
        go : (why : Refusal) → EndlessRefused image c (length area) why → ⊥
        go why (by_image e) = apart image h why accepted e
        go why (by_sequence k e past) = omega (arith, none.sequence, same_count k e)
        go why (by_run asked (w, run)) = none.none w run
        go why (by_area asked without xs all over) = omega (arith, ap (λ (ys : List ℕ). length ys) ((listed_is L c xs).0 all), list_short L c)
    return_enough none room (listed asked without xs all fits same) high =
        omega (arith, ap (λ (x : Returned). x.number) same, few_listed image c asked xs all)

    return_sixteen : c < count L → EndlessReturn image c area r → (r.number ≡ 16 * 2 ^ 32) ↔ HasRun L c
    return_sixteen low (refused why is same) = go why is (ap (λ (x : Returned). x.number) same)
      where
        go : (why : Refusal) → EndlessRefused image c (length area) why → r.number ≡ (turned_down why area).number → (r.number ≡ 16 * 2 ^ 32) ↔ HasRun L c
        go why (by_image e) is = absurd (apart image h why accepted e)
        go why (by_sequence k e past) is = absurd (omega (arith, same_count k e))
        go why (by_run asked run) is = ((λ e. run), λ has. is)
        go why (by_area asked none xs all over) is = ((λ e. absurd (omega arith)), λ (w, run). absurd (none w run))
    return_sixteen low (listed asked none xs all fits same) =
        ((λ e. absurd (omega (arith, ap (λ (x : Returned). x.number) same, few_listed image c asked xs all))), λ (w, run). absurd (none w run))

pub engines_explain : (e : Engine) → Demand1 e → Demand2 e → Explains e
engines_explain e total columns =
    record {
      reason = λ image c area. return_reason image c area (e.endless image c area) (total.endless image c area);
      enough = λ image area h accepted c none room.
          return_enough image c area (e.endless image c area) h accepted none room (total.endless image c area);
      told = λ image area cards ready c low.
          let sixteen = return_sixteen image c area (e.endless image c area) ready.head ready.accepted low (total.endless image c area) in
          let run = (columns.card image cards ready c low).flags.run in
          ((λ n. run.1 (sixteen.0 n)), λ b. sixteen.1 (run.0 b));
    }

pub explains_met : Explains engine
explains_met = engines_explain engine total columns
