-- What is found from a sequence on: the loop over the queue, and that what is found is what the sequence reaches.
-- Assumes nothing.
use Prim.Native.Nat.{ℕ, ◌+◌, ◌≤◌, ◌<◌}
use native.Mathlib.Omega.{arith}
use native.Mathlib.Decide.{ℕ_discrete}
use mathlib.Core.Path.{◌≡◌, refl, sym, ap, ap₂, ◌∙◌, subst}
use mathlib.Core.Bool.{Bool, true, false, not, ◌&&◌, ◌||◌, true≢false}
use mathlib.Core.Logic.{⊎_elim}
use mathlib.Core.List.{List}
use lib.ListN.{length, get_or}
use borrow.Author.Tests.{not-true, eq-eqb, eqb-true}
use Rattle.general.proofs.Bools.{and_parts, or_left, or_right, or_cases}
use Rattle.walk.specs.Walk.{alternatives_at}
use Rattle.library.specs.Calls.{calls_of}
use Rattle.callers.specs.Callers.{in_set, calls}
use Rattle.general.specs.Scan.{passing}
use Rattle.reach.specs.declared.found.Reached.{Reached}
use Rattle.reach.specs.Queue.{FromAsked, itself, onward, Found}
use Rattle.reach.specs.Found.{Alone, Noted}
use Rattle.reach.proofs.Queue.{queued_few}

-- what holds at the head of the loop: what is found is reached from sequence c, and what the first sequences of the queue call, so many of them,
-- is found where it is not among `runs`
pub record Reaching (n : ℕ) (part places runs : List ℕ) (c : ℕ) (found : Reached) (done : ℕ) : Type 0 where
  pub runs_same : found.runs.now ≡ runs
  pub bound : found.n ≡ n
  pub asked : in_set found.set c ≡ true
  pub sound : (e : ℕ) → in_set found.set e ≡ true → FromAsked part places runs c e
  pub walked : (j e : ℕ) → j < done → calls part places (get_or found.queue.now j 0) e ≡ true → in_set runs e ≡ false → in_set found.set e ≡ true

-- the asked one alone is found
pub reaching_start : {n : ℕ} {part places runs : List ℕ} {c : ℕ} {found : Reached} → Alone runs n c found → Reaching n part places runs c found 0
reaching_start {part = part} {places = places} {runs = runs} {c = c} alone =
    record {
      runs_same = alone.runs_same;
      bound = alone.bound;
      asked = alone.asked c ∙ eq-eqb c c refl;
      sound = λ e inside. subst (FromAsked part places runs c) (sym (eqb-true e c (sym (alone.asked e) ∙ inside))) itself;
      walked = λ j e l. absurd (omega arith);
    }

module _ {n : ℕ} {part places runs : List ℕ} {c : ℕ} {found : Reached} {done : ℕ} (here : Reaching n part places runs c found done) where
  -- no more than n are found, and the next of the queue is below n
  pub reached_few : found.count ≤ n
  reached_few = omega (arith, queued_few found.queued, here.bound)

  pub reached_low : done < found.count → get_or found.queue.now done 0 < n
  reached_low l = let queued = found.queued in omega (arith, queued.low _ (queued.members done l), here.bound)

  -- the next of the queue
  pub reaching_turn : done < found.count → (after : Reached) → Noted (calls_of (alternatives_at part places (get_or found.queue.now done 0))) found after
      → Reaching n part places runs c after (done + 1)
  reaching_turn l after noted =
      record {
        runs_same = noted.runs_same ∙ here.runs_same;
        bound = noted.bound ∙ here.bound;
        asked = stays c here.asked;
        sound = λ e inside.
            ⊎_elim (here.sound e)
            (λ more.
            let (called, none) = and_parts (calls part places d e) (not (in_set runs e)) more in
            onward (here.sound d (let queued = found.queued in queued.members done l)) called (not-true (in_set runs e) none))
            (or_cases (in_set found.set e) (calls part places d e && not (in_set runs e)) (sym (same e) ∙ inside));
        walked = λ j e k called none.
            elim (ℕ_discrete j done) [
              | yes now ↦
                  let at : get_or after.queue.now j 0 ≡ d = noted.kept j (omega arith) ∙ ap (λ (m : ℕ). get_or found.queue.now m 0) now in
                  same e
                  ∙ or_right (in_set found.set e) (calls part places d e && not (in_set runs e))
                  (ap₂ (λ (x y : Bool). x && not y) (sym (ap (λ (b : ℕ). calls part places b e) at) ∙ called) none)
              | no other ↦ stays e (here.walked j e (omega arith) (sym (ap (λ (b : ℕ). calls part places b e) (noted.kept j (omega arith))) ∙ called) none)
            ];
      }
    where
      d : ℕ
      d = get_or found.queue.now done 0

      same : (e : ℕ) → in_set after.set e ≡ (in_set found.set e || (calls part places d e && not (in_set runs e)))
      same e =
          noted.same e
          ∙ ap (λ (r : List ℕ). in_set found.set e || (calls part places d e && not (in_set r e))) here.runs_same

      stays : (e : ℕ) → in_set found.set e ≡ true → in_set after.set e ≡ true
      stays e inside = same e ∙ or_left (in_set found.set e) (calls part places d e && not (in_set runs e)) inside

  pub reaching_end : found.count ≤ done → Found n part places runs c found.set found.count
  reaching_end over =
      record {
        four = let queued = found.queued in queued.four;
        asked = here.asked;
        sound = here.sound;
        closed = λ d e inside called none. go d e inside called none (in_set found.set e) refl;
        size = let queued = found.queued in queued.size ∙ ap (λ (m : ℕ). length (passing (in_set found.set) m)) here.bound;
      }
    where
      go : (d e : ℕ) → in_set found.set d ≡ true → calls part places d e ≡ true → in_set runs e ≡ false → (b : Bool) → in_set found.set e ≡ b → b ≡ true
      go d e inside called none true q = refl
      go d e inside called none false q =
          absurd (let queued = found.queued in
          queued.queued d inside
          (λ j l at. true≢false (sym (here.walked j e (omega arith) (ap (λ (b : ℕ). calls part places b e) at ∙ called) none) ∙ q)))
