-- The answer to a question, as a function: none, or a chain (document 01, "Chains").
use Prim.Native.Nat.{ℕ, zero, suc, pred}
use Rattle.std.specs.Prelude.{Bool, length, get_or, leb, ltb}
use Rattle.std.proofs.Math.Bool.{true, false}
use mathlib.Core.List.{List, [], ◌∷◌}
use Rattle.library.specs.Library.{Library, Alternative, Sequence, Entry, item, call, entry_at}
use Rattle.runs.specs.Run.{alternatives_of, alternative_of}
use Rattle.runs.specs.Touch.{Mark, present, absent, untouched, Question}
use Rattle.general.specs.Scan.{first_index, last_index}
use Rattle.chains.specs.Link.{touch_link, untouched_link, Chain}
use Rattle.chains.specs.Ranks.{Ranks, Look, ranks, unranked, candidate, has_mark, ahead_of, behind_of, untouched_look, touch_look}
use Rattle.chains.specs.Ranks.{depth_look, link_look}

pub data Answer : Type 0 where
  none : Answer
  shown : Chain → Answer

-- "the highest alternative" of those that pass a test: the last one that does. Where none does, the number of alternatives
unfoldable pub newest : (Alternative → Bool) → List Alternative → ℕ
unfolding last_index
newest test alts = last_index (λ i. test (get_or alts i [])) (length alts) (length alts)

-- "Among equally good choices a link takes the highest alternative": the newest that comes to no more than k
unfoldable pub chosen_alternative : List Sequence → Look → Ranks → ℕ → ℕ → ℕ
unfolding newest
chosen_alternative S look T k c = newest (λ es. leb (look T es) k) (alternatives_of S c)

-- "then the lowest position": the first that comes to no more than k, for the value that each position has
unfoldable pub chosen_position : (ℕ → ℕ) → ℕ → Alternative → ℕ
unfolding first_index
chosen_position value k es = first_index (λ p. leb (value p) k) (length es)

-- "a step with that touch, which ends the chain, or a sequence, which the next link is about"
abbrev pub followed : Entry → (ℕ → Chain) → Chain
followed (item a) next = []
followed (call d) next = next d

module _ (L : Library) (q : Question) (f : ℕ) where
  -- the number of links after this one, by the position
  abbrev pub links_after : Ranks → Alternative → ℕ → ℕ
  links_after = candidate (unranked L) (has_mark L q f) (ahead_of L q f q.side) (behind_of L q f q.side)

  -- the n links of a chain about sequence c, where c has rank n: "Among equally good choices a link takes the highest alternative, then
  -- the lowest position."
  unfoldable pub links_from : Ranks → ℕ → ℕ → Chain
  unfolding chosen_alternative chosen_position
  links_from T zero c = []
  links_from T (suc k) c =
      let i : ℕ = chosen_alternative L.sequences (touch_look L q f) T k c in
      let es : Alternative = alternative_of L.sequences c i in
      let p : ℕ = chosen_position (links_after T es) k es in
      touch_link c i p ∷ followed (entry_at es p) (λ d. links_from T k d)

  -- "Questions 0, 1, 3, 4": "The chain has the fewest links"
  unfoldable pub touch_answer : Ranks → ℕ → Answer
  unfolding links_from
  touch_answer T c = elim (ltb (T c) (unranked L)) [ true ↦ shown (links_from T (T c) c) | false ↦ none ]

  -- "Questions 2 and 5: one link with kind 12. It names the alternative of the untouched derivation of least nesting depth", ties to the
  -- highest: "This holds for kind 12 links too."
  unfoldable pub untouched_answer : Ranks → ℕ → Answer
  unfolding chosen_alternative
  untouched_answer T c =
      elim (ltb (T c) (unranked L))
      [ true ↦ shown (untouched_link c (chosen_alternative L.sequences (untouched_look L q f) T (pred (T c)) c) ∷ []) | false ↦ none ]

-- the ranks of a list
abbrev pub ranks_in : Library → List ℕ → Ranks
ranks_in L T d = get_or T d (unranked L)

-- the answer for a question that asks for a touch, and for one that asks for none, by a list of ranks that is computed once
unfoldable pub touch_shown : Library → Question → ℕ → ℕ → List ℕ → Answer
unfolding touch_answer
touch_shown L q c f T = touch_answer L q f (ranks_in L T) c

unfoldable pub untouched_shown : Library → Question → ℕ → ℕ → List ℕ → Answer
unfolding untouched_answer
untouched_shown L q c f T = untouched_answer L q f (ranks_in L T) c

abbrev pub answer_for : Library → Question → ℕ → ℕ → Mark → Answer
answer_for L q c f present = touch_shown L q c f (ranks L.sequences (touch_look L q f) (unranked L))
answer_for L q c f absent = touch_shown L q c f (ranks L.sequences (touch_look L q f) (unranked L))
answer_for L q c f untouched = untouched_shown L q c f (ranks L.sequences (untouched_look L q f) (unranked L))

-- the answer to question q of sequence c for fact f
unfoldable pub answer : Library → Question → ℕ → ℕ → Answer
unfolding touch_shown untouched_shown ranks depth_look link_look
answer L q c f = answer_for L q c f q.mark
