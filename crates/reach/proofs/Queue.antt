-- What is found, as a set and a queue of its members: one more, and the sequences that a loop over a sequence's words finds.
-- Assumes nothing.
use Prim.Native.Nat.{ℕ, ◌+◌, ◌/◌, ◌≤◌, ◌<◌}
use native.Mathlib.Omega.{arith}
use native.Mathlib.Decide.{ℕ_discrete}
use mathlib.Core.Path.{◌≡◌, refl, sym, ap, ap₂, ◌∙◌}
use mathlib.Core.Bool.{Bool, true, false, not, ◌&&◌, ◌||◌, false≢true}
use mathlib.Core.Logic.{⊎_elim}
use mathlib.Core.List.{List}
use lib.Dec.{eqb}
use lib.ListN.{length, get_or, set, drop, length-set}
use lib.Seq.{get_or-set_same, get_or-set_other}
use borrow.Author.Tests.{eqb-true, eqb-false, eq-eqb, ne_eqb}
use Rattle.general.specs.Numbers.{Zeros}
use Rattle.general.proofs.Numbers.{zeros}
use Rattle.general.proofs.Bools.{or_cases, nor_left, nor_right}
use Rattle.general.proofs.Scan.{count_passing, count_all, count_none, count_one}
use Rattle.general.proofs.Rising.{passing_length, passing_short}
use Rattle.library.specs.Calls.{calls_of}
use Rattle.library.specs.Library.{alternatives_from}
use Rattle.callers.specs.Callees.{calls_left, Called}
use Rattle.callers.specs.Callers.{in_set, with_member, no_sequences}
use Rattle.callers.proofs.CallerSets.{member_same, member_other, member_stays, none_member}
use Rattle.reach.specs.declared.found.Reached.{Reached}
use Rattle.reach.specs.Queue.{Queued}
use Rattle.reach.specs.Found.{Noted}

-- ---- the queue

-- nothing is found
pub queued_none : (n : ℕ) (found queue : List ℕ) → n ≤ 256 → length found ≡ 4 → n ≤ length queue → Zeros found → Queued n found queue 0
queued_none n found queue few four room blank =
    record {
      few = few;
      four = four;
      room = room;
      low = λ d e. absurd (out d e);
      members = λ j l. absurd (omega arith);
      queued = λ d e. absurd (out d e);
      size = sym (passing_length (in_set found) n ∙ count_none (in_set found) (none_member found blank) n);
    }
  where
    out : (d : ℕ) → in_set found d ≡ true → ⊥
    out d e = false≢true (sym (none_member found blank d) ∙ e)

-- no more than n are found
pub queued_few : {n : ℕ} {found queue : List ℕ} {count : ℕ} → Queued n found queue count → count ≤ n
queued_few {n} {found} here = omega (arith, here.size, passing_short (in_set found) n)

module _ {n : ℕ} {found queue : List ℕ} {count : ℕ} (here : Queued n found queue count) (d : ℕ) (low : d < n) (new : in_set found d ≡ false) where
  word : d / 64 < length found
  word = omega (arith, here.few, here.four)

  -- one more is found
  one_more : count_passing (in_set (with_member found d)) n ≡ count + 1
  one_more =
      count_one (in_set found) (in_set (with_member found d)) d new (member_same found d word) (λ e other. member_other found d word e other) n low
      ∙ (let size = here.size in omega (arith, passing_length (in_set found) n))

  -- there is room for it
  pub queue_room : count < length queue
  queue_room = omega (arith, one_more, count_all (in_set (with_member found d)) n, here.room)

  pub queued_more : Queued n (with_member found d) (set queue count d) (count + 1)
  queued_more =
      record {
        few = here.few;
        four = length-set found (d / 64) _ ∙ here.four;
        room = omega (arith, length-set queue count d, here.room);
        low = λ e inside. elim (ℕ_discrete e d) [ yes same ↦ omega arith | no other ↦ here.low e (sym (member_other found d word e other) ∙ inside) ];
        members = λ j l. elim (ℕ_discrete j count) [
          | yes same ↦
              ap (in_set (with_member found d)) (ap (λ (k : ℕ). get_or (set queue count d) k 0) same ∙ get_or-set_same queue count d 0 queue_room) ∙ member_same found d word
          | no other ↦
              ap (in_set (with_member found d)) (get_or-set_other queue count j d 0 other) ∙ member_stays found d word (get_or queue j 0) (here.members j (omega arith))
        ];
        queued = λ e inside none. elim (ℕ_discrete e d) [
          | yes same ↦ none count (omega arith) (get_or-set_same queue count d 0 queue_room ∙ sym same)
          | no other ↦
              here.queued e (sym (member_other found d word e other) ∙ inside)
              (λ j l at. none j (omega arith) (get_or-set_other queue count j d 0 (λ q. omega arith) ∙ at))
        ];
        size = sym (passing_length (in_set (with_member found d)) n ∙ one_more);
      }

-- sequence c alone is found
module _ (n c : ℕ) (few : n ≤ 256) (low : c < n) where
  pub queued_one : (queue : List ℕ) → n ≤ length queue → Queued n (with_member no_sequences c) (set queue 0 c) 1
  queued_one queue room =
      let blank = zeros 4 in
      queued_more (queued_none n no_sequences queue few refl room blank) c low (none_member no_sequences blank c)

  pub one_found : (e : ℕ) → in_set (with_member no_sequences c) e ≡ eqb e c
  one_found e =
      let room : c / 64 < 4 = omega arith in
      elim (ℕ_discrete e c) [
        | yes same ↦ ap (in_set (with_member no_sequences c)) same ∙ member_same no_sequences c room ∙ sym (eq-eqb e c same)
        | no other ↦ member_other no_sequences c room e other ∙ none_member no_sequences (zeros 4) e ∙ sym (ne_eqb e c other)
      ]

-- ---- one sequence

or_none : (x : Bool) → x ≡ (x || false)
or_none true = refl
or_none false = refl

-- what is in the set, where a test that fails is added
not_more : (x y z : Bool) → (y && z) ≡ false → x ≡ (x || (y && z))
not_more x y z e = or_none x ∙ ap (λ (b : Bool). x || b) (sym e)

module _ (before : Reached) (d : ℕ) where
  -- it has a run, or was found before
  pub noted_before : in_set before.runs.now d || in_set before.set d ≡ true → Noted (λ e. eqb d e) before before
  noted_before there = record { runs_same = refl; bound = refl; same = λ e. go e (eqb d e) refl; kept = λ j l. refl; more = omega arith }
    where
      go : (e : ℕ) (b : Bool) → eqb d e ≡ b → in_set before.set e ≡ (in_set before.set e || (b && not (in_set before.runs.now e)))
      go e true q =
          let same = eqb-true d e q in
          ⊎_elim (λ run. not_more (in_set before.set e) true (not (in_set before.runs.now e)) (ap not (rw same at run)))
          (λ old.
          let inside : in_set before.set e ≡ true = rw same at old in
          inside ∙ sym (ap (λ (x : Bool). x || not (in_set before.runs.now e)) inside))
          (or_cases (in_set before.runs.now d) (in_set before.set d) there)
      go e false q = or_none (in_set before.set e)

  module _ (low : d < before.n) (new : in_set before.runs.now d || in_set before.set d ≡ false) where
    out : in_set before.set d ≡ false
    out = nor_right (in_set before.runs.now d) (in_set before.set d) new

    -- it is new, and there is room for it
    pub new_room : before.count < length before.queue.now
    new_room = queue_room before.queued d low out

    pub new_queued : Queued before.n (with_member before.set d) (set before.queue.now before.count d) (before.count + 1)
    new_queued = queued_more before.queued d low out

    pub noted_new : (after : Reached) → after.runs.now ≡ before.runs.now → after.n ≡ before.n → after.set ≡ with_member before.set d
        → after.queue.now ≡ set before.queue.now before.count d → after.count ≡ before.count + 1 → Noted (λ e. eqb d e) before after
    noted_new after runs bound members queue count =
        record {
          runs_same = runs;
          bound = bound;
          same = λ e. ap (λ (s : List ℕ). in_set s e) members ∙ go e (eqb d e) refl;
          kept = λ j l. ap (λ (q : List ℕ). get_or q j 0) queue ∙ get_or-set_other before.queue.now before.count j d 0 (λ q. omega arith);
          more = omega arith;
        }
      where
        room : d / 64 < length before.set
        room = let here = before.queued in omega (arith, here.few, here.four)

        go : (e : ℕ) (b : Bool) → eqb d e ≡ b → in_set (with_member before.set d) e ≡ (in_set before.set e || (b && not (in_set before.runs.now e)))
        go e true q =
            let same = eqb-true d e q in
            let none : in_set before.runs.now e ≡ false = rw same at (nor_left (in_set before.runs.now d) (in_set before.set d) new) in
            let outside : in_set before.set e ≡ false = rw same at out in
            ap (in_set (with_member before.set d)) (sym same) ∙ member_same before.set d room ∙ sym (ap₂ (λ (x y : Bool). x || not y) outside none)
        go e false q = member_other before.set d room e (λ same. eqb-false d e q (sym same)) ∙ or_none (in_set before.set e)

-- ---- the sequences that a sequence's words name

-- what holds at the head of the loop over its words: what is found so far, with the calls that are left, is all
pub record Noting (part : List ℕ) (at : ℕ) (before here : Reached) (i : ℕ) : Type 0 where
  pub runs_same : here.runs.now ≡ before.runs.now
  pub bound : here.n ≡ before.n
  pub same : (e : ℕ) → (in_set here.set e || (calls_left part i e && not (in_set before.runs.now e)))
      ≡ (in_set before.set e || (calls_of (alternatives_from (drop at part)) e && not (in_set before.runs.now e)))
  pub kept : (j : ℕ) → j < before.count → get_or here.queue.now j 0 ≡ get_or before.queue.now j 0
  pub more : before.count ≤ here.count

pub noting_start : (part : List ℕ) (at : ℕ) (before : Reached) (i : ℕ)
    → ((d : ℕ) → calls_left part i d ≡ calls_of (alternatives_from (drop at part)) d) → Noting part at before before i
noting_start part at before i all =
    record {
      runs_same = refl;
      bound = refl;
      same = λ e. ap (λ (x : Bool). in_set before.set e || (x && not (in_set before.runs.now e))) (all e);
      kept = λ j l. refl;
      more = omega arith;
    }

shift : (x p r z : Bool) → ((x || (p && z)) || (r && z)) ≡ (x || ((p || r) && z))
shift true p r z = refl
shift false true r true = refl
shift false true true false = refl
shift false true false false = refl
shift false false r z = refl

module _ {part : List ℕ} {at : ℕ} {before now : Reached} {i : ℕ} (here : Noting part at before now i) where
  -- a call
  pub noting_call : (after : Reached) {next p : ℕ} → Called part i next p → Noted (λ e. eqb p e) now after → Noting part at before after next
  noting_call after {next} {p} call noted =
      record {
        runs_same = noted.runs_same ∙ here.runs_same;
        bound = noted.bound ∙ here.bound;
        same = λ e.
            let run : in_set now.runs.now e ≡ in_set before.runs.now e = ap (λ (r : List ℕ). in_set r e) here.runs_same in
            ap (λ (x : Bool). x || (calls_left part next e && not (in_set before.runs.now e)))
            (noted.same e ∙ ap (λ (x : Bool). in_set now.set e || (eqb p e && not x)) run)
            ∙ shift (in_set now.set e) (eqb p e) (calls_left part next e) (not (in_set before.runs.now e))
            ∙ ap (λ (x : Bool). in_set now.set e || (x && not (in_set before.runs.now e))) (sym (call.left e))
            ∙ here.same e;
        kept = λ j l. noted.kept j (omega (arith, here.more)) ∙ here.kept j l;
        more = omega (arith, here.more, noted.more);
      }

  -- no call is left
  pub noting_done : ((e : ℕ) → calls_left part i e ≡ false) → Noted (calls_of (alternatives_from (drop at part))) before now
  noting_done none =
      record {
        runs_same = here.runs_same;
        bound = here.bound;
        same = λ e. or_none (in_set now.set e) ∙ ap (λ (x : Bool). in_set now.set e || (x && not (in_set before.runs.now e))) (sym (none e)) ∙ here.same e;
        kept = here.kept;
        more = here.more;
      }
