-- What the choice of a link promises, by tables of words.
use Prim.Native.Nat.{ℕ, zero, suc, pred, ◌≤◌, ◌<◌}
use Rattle.std.specs.Prelude.{◌≡◌, cond, length, get_or, drop, leb, ltb}
use mathlib.Core.List.{List, [], ◌∷◌, ◌++◌}
use Rattle.library.specs.Library.{Alternative, alternatives_from, entry_at}
use Rattle.walk.specs.Walk.{alternatives_at}
use Rattle.chains.specs.Link.{Link, touch_link, untouched_link, Chain, chain_words}
use Rattle.question.specs.Asked.{by_mark}
use Rattle.question.specs.declared.asked.Asked.{Asked}
use Rattle.question.specs.declared.asked.Mark.{Mark}
use Rattle.rank.specs.Walk.{newest_link}
use Rattle.slot.specs.Slots.{entry_number, rank_in, pass_in}
use Rattle.rank.specs.Tables.{depth_in}
use Rattle.chains.specs.Answer.{Answer, shown, newest}
use Rattle.chains.specs.Answer as known
use Rattle.link.specs.declared.link.Choice.{Choice}

-- the link of sequence c that is chosen among these alternatives
unfoldable pub link_in : ℕ → List ℕ → List ℕ → List ℕ → ℕ → ℕ → List Alternative → Link
unfolding newest_link
link_in none ahead behind ranks c k alts = newest_link none (rank_in none none ranks) (pass_in none ahead) (pass_in none behind) c k alts

-- the newest of these alternatives whose greatest depth is no more than k
unfoldable pub alternative_in : ℕ → List ℕ → ℕ → List Alternative → ℕ
unfolding newest
alternative_in none ranks k alts = newest (λ es. leb (depth_in none ranks es) k) alts

-- the link, for any sequence that it is about, and the number that the entry at its position names
pub record Chosen (none : ℕ) (ahead behind ranks part : List ℕ) (at k : ℕ) (r : Choice) : Type 0 where
  pub link : (c : ℕ) → touch_link c r.alternative r.position ≡ link_in none ahead behind ranks c k (alternatives_from (drop at part))
  pub entry : r.entry ≡ entry_number (entry_at (get_or (alternatives_from (drop at part)) r.alternative []) r.position)
  pub alternative_low : r.alternative ≤ length part
  pub position_low : r.position ≤ length part

-- the entry at a link's position names this number
abbrev pub link_entry : List Alternative → Link → ℕ
link_entry alts (touch_link c i p) = entry_number (entry_at (get_or alts i []) p)
link_entry alts (untouched_link c i) = 0

-- the opener of each sequence stands within the words, and these are few
pub record Opened (part places : List ℕ) : Type 0 where
  pub within : (c : ℕ) → get_or places c 0 < length part
  pub short : length part ≤ 8192

module _ (none : ℕ) (ahead behind ranks part places : List ℕ) where
  -- the link of sequence c, where the links after it are k
  abbrev pub link_at : ℕ → ℕ → Link
  link_at k c = link_in none ahead behind ranks c k (alternatives_at part places c)

  -- n links from sequence c on, each about the sequence that the entry of the one before names
  unfoldable pub links_in : ℕ → ℕ → Chain
  unfolding link_in
  links_in zero c = []
  links_in (suc k) c = link_at k c ∷ links_in k (link_entry (alternatives_at part places c) (link_at k c))

module _ (none : ℕ) (ranks part places : List ℕ) where
  -- the one link of a question that asks for no touch
  unfoldable pub untouched_in : ℕ → Link
  unfolding alternative_in
  untouched_in c = untouched_link c (alternative_in none ranks (pred (get_or ranks c none)) (alternatives_at part places c))

  -- its words in an area, where there is one to write
  abbrev pub untouched_words : ℕ → ℕ → List ℕ → List ℕ
  untouched_words count c area = cond (ltb 0 count) (chain_words (untouched_in c ∷ []) ++ drop 2 area) area

-- one link where the question asks for no touch, otherwise a link for each call
abbrev pub mark_chain : Mark → Chain → Chain → Chain
mark_chain mark untouched links = by_mark mark untouched links links

-- the answer of sequence c by its rank
unfoldable pub answer_in : Asked → List ℕ → List ℕ → List ℕ → List ℕ → List ℕ → ℕ → Answer
unfolding links_in untouched_in
answer_in q ahead behind ranks part places c =
    cond (ltb (get_or ranks c q.none) q.none)
    (shown (mark_chain q.mark (untouched_in q.none ranks part places c ∷ []) (links_in q.none ahead behind ranks part places (get_or ranks c q.none) c)))
    known.none
