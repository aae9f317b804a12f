-- The words of a sequence from an index on, in the form that a loop follows: where the entries of an alternative end and where a walk over them
-- does, the alternatives of a sequence by its place, and those of them that stand before an index.
use Rattle.std.specs.Prelude.{ℕ, ◌+◌, ◌≤◌, ◌<◌, ◌≡◌, Bool, true, false, not, ◌||◌, List, length, get_or, drop}
use Rattle.general.specs.Scan.{first_index, last_index}
use Rattle.image.specs.Word.{is_kind, is_entry}
use Rattle.library.specs.Library.{Entry, item, call, Alternative, entry_at, entries_from, alternatives_from}
use Rattle.walk.specs.declared.sequence.Alternatives.{Alternatives}

-- the index after the entries that stand from index `at` on
abbrev pub entries_end : List ℕ → ℕ → ℕ
entries_end part at = at + length (entries_from (drop at part))

-- "names a sequence not found to have one", by what is found of the sequences
abbrev pub names_none : (ℕ → Bool) → Entry → Bool
names_none found (item a) = false
names_none found (call d) = not (found d)

-- "each walk that asks whether an alternative gives a run shall end at the first entry, in its order, that names a sequence not found to have
-- one by then": the index of the first entry that is dead, of those that stand from index `at` on, "or the end where there is none"
abbrev pub walk_end : (Entry → Bool) → List ℕ → ℕ → ℕ
walk_end dead part at =
    let es : Alternative = entries_from (drop at part) in
    at + first_index (λ p. dead (entry_at es p)) (length es)

-- the alternatives of sequence c, from the word after its opener on
abbrev pub alternatives_at : List ℕ → List ℕ → ℕ → List Alternative
alternatives_at part places c = alternatives_from (drop (get_or places c 0 + 1) part)

-- of the alternatives that stand from index `at` on, n open before index i: the words from `at` up to i open alternatives or are entries,
-- and the others stand from i on
pub record Before (part : List ℕ) (at n i : ℕ) : Type 0 where
  pub low : at ≤ i
  pub within : i ≤ length part
  pub words : (j : ℕ) → at ≤ j → j < i → is_kind 7 (get_or part j 0) || is_entry (get_or part j 0) ≡ true
  pub count : n + length (alternatives_from (drop i part)) ≡ length (alternatives_from (drop at part))

-- the index of the last opener of an alternative before index i, 0 where there is none
abbrev pub opener_before : List ℕ → ℕ → ℕ
opener_before part i = last_index (λ j. is_kind 7 (get_or part j 0)) 0 i

-- the same, and `last` is the index of the last one's opener, where there is one
pub record LastBefore (part : List ℕ) (at n last i : ℕ) : Type 0 where
  pub before : Before part at n i
  pub opener : 0 < n → last ≡ opener_before part i

-- how many alternatives stand from index `at` on, all of which open before an index `end`, and the index of the last one's opener
pub record AllBefore (part : List ℕ) (at : ℕ) (r : Alternatives) : Type 0 where
  pub all : r.count ≡ length (alternatives_from (drop at part))
  pub end : ℕ
  pub last : LastBefore part at r.count r.last end
