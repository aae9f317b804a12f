-- The calls that are left from an index of the words on.
use Rattle.std.specs.Prelude.{ℕ, ◌+◌, ◌-◌, ◌≤◌, ◌<◌, ◌≡◌, Bool, true, false, ◌||◌, List, eqb, length, get_or, drop, Option, Some, None}
use Rattle.std.specs.Iterator.{Count, at_most}
use Rattle.general.specs.Tests.{some}
use Rattle.image.specs.Word.{payload, is_kind}
use Rattle.library.specs.Library.{entries_from, alternatives_from}
use Rattle.library.specs.Calls.{is_call_of, calls_of}
use Rattle.callers.specs.declared.callees.Callees.{Callees}

-- sequence d is called by the entries from there on, or by the alternatives after them
abbrev pub calls_left : List ℕ → ℕ → ℕ → Bool
calls_left part i d = some (is_call_of d) (entries_from (drop i part)) || calls_of (alternatives_from (drop i part)) d

-- the first call from index `at` on is that of sequence p, and others are left from index `next` on
pub record Called (part : List ℕ) (at next p : ℕ) : Type 0 where
  pub place : ℕ
  pub from : at ≤ place
  pub within : place < length part
  pub named : is_kind 9 (get_or part place 0) ≡ true
  pub number : p ≡ payload (get_or part place 0)
  pub after : next ≡ place + 1
  pub left : (d : ℕ) → calls_left part at d ≡ (eqb p d || calls_left part next d)

-- what is found from index `at` on: a call, or that none is left
abbrev pub NextCall : List ℕ → ℕ → ℕ → Option ℕ → Type 0
NextCall part at next (Some p) = Called part at next p
NextCall part at next None = (d : ℕ) → calls_left part at d ≡ false

-- what a call of `next` gives, and leaves of the same words
abbrev pub NextCallee : Callees → Option ℕ → Callees → Type 0
NextCallee before found after = (after.part.now ≡ before.part.now) × NextCall before.part.now before.at after.at found

-- the words that are left bound how many calls are
abbrev pub words_left : Callees → Count
words_left callees = at_most (length callees.part.now - callees.at)
