-- Which runs a chain stands for, as the last paragraph of "Chains" in document 01 says it. Nothing is said of execution.
use Rattle.std.specs.Prelude.{ℕ, suc, ◌<◌, ◌≡◌, ◌≢◌, List, [], ◌∷◌, ◌++◌, length, take, drop}
use Rattle.library.specs.Library.{Library, Alternative, Item, Entry, item, call, entry_at}
use Rattle.runs.specs.Run.{Gives, alternatives_of, alternative_of}
use Rattle.runs.specs.Touch.{untouched, item_touch, overruling, Question, HasOutcome, untouched_on}
use Rattle.chains.specs.Link.{touch_link, untouched_link, Chain, sequence_of}

-- "A chain stands for runs of its first link's sequence"; "The first link of an answer is about the sequence asked about."
abbrev pub About : ℕ → Chain → Type 0
About c [] = ⊥
About c (l ∷ ls) = sequence_of l ≡ c

-- "the entry at the position gives the touch asked for, by itself or by a run that the links after it stand for": u is what the
-- entry gives, ls are the links after, and `after` says which runs they stand for. "the entry at the position is a step with that
-- touch, which ends the chain, or a sequence, which the next link is about"
abbrev pub EntryTouches : Library → Question → ℕ → Chain → (List Item → Type 0) → Entry → List Item → Type 0
EntryTouches L q f ls after (item a) u = (ls ≡ []) × (u ≡ a ∷ []) × (item_touch L q.side f a ≡ q.mark)
EntryTouches L q f ls after (call d) u = About d ls × after u × HasOutcome L q f u

-- "the runs that its alternative gives with these choices": w is what the entries before the position, the entry at it and those
-- after it give, in order. "The remaining entries give any run of theirs."
pub record Choices (L : Library) (q : Question) (f : ℕ) (es : Alternative) (p : ℕ) (touches : Entry → List Item → Type 0) (w : List Item)
    : Type 0 where
  -- a touch is asked for
  pub touch : q.mark ≢ untouched
  pub listed : p < length es
  pub before : List Item
  pub given : List Item
  pub after : List Item
  pub split : w ≡ before ++ (given ++ after)
  pub earlier : Gives L.sequences (take p es) before
  -- "the entry at the position gives the touch asked for"
  pub touching : touches (entry_at es p) given
  pub later : Gives L.sequences (drop (suc p) es) after
  -- "on the last side, what every later entry gives leaves the fact untouched, on the first side what every earlier one gives"
  pub stays : HasOutcome L (untouched_on q) f (overruling q.side before after)

-- "A kind 12 link stands for the runs that its alternative gives and that leave the fact untouched on the question's side. A kind 11
-- link stands for the runs that its alternative gives with these choices". A kind 12 link ends its chain.
abbrev pub StandsFor : Library → Question → ℕ → Chain → List Item → Type 0
StandsFor L q f [] w = ⊥
StandsFor L q f (touch_link c i p ∷ ls) w =
    (i < length (alternatives_of L.sequences c))
    × Choices L q f (alternative_of L.sequences c i) p (EntryTouches L q f ls (λ u. StandsFor L q f ls u)) w
StandsFor L q f (untouched_link c i ∷ ls) w =
    (i < length (alternatives_of L.sequences c))
    × (ls ≡ [])
    × Gives L.sequences (alternative_of L.sequences c i) w
    × HasOutcome L (untouched_on q) f w
