-- The loop over the blocks: what holds at its head, a turn, and the way out.
-- Assumes nothing.
use Prim.Native.Nat.{ℕ, ◌+◌, ◌*◌, ◌≤◌, ◌<◌}
use native.Mathlib.Numerals.{add-one}
use native.Mathlib.Omega.{arith}
use mathlib.Core.Path.{◌≡◌, sym, ap, ap₂, ◌∙◌}
use mathlib.Core.List.{List, ◌++◌}
use lib.ListN.{drop, replicate, length-replicate}
use lib.Seq.{drop_at}
use Rattle.library.specs.Library.{Library, library_of}
use Rattle.library.specs.Accepted.{Counted}
use Rattle.library.proofs.Accepted.{faultless, counted}
use Rattle.image.specs.declared.answer.Head.{Head}
use Rattle.rules.specs.Checked.{Accepts}
use Rattle.outcome.specs.Area.{outcomes}
use Rattle.cards.specs.Layout.{card_words}
use Rattle.cards.specs.Card.{cards}
use Rattle.writer.proofs.Below.{parts_below, blocks_start, blocks_next, blocks_end}
use Rattle.card.specs.Fill.{block_filled}
use Rattle.card.proofs.Table.{row_alone}

-- the blocks below k are written into the cards of an area, and words past them are as they were when it was clear
abbrev pub Blocks : List ℕ → Head → List ℕ → List ℕ → ℕ → Type 0
Blocks image h area₀ area k = area ≡ parts_below (library_of image) k 0 h.sequences ++ drop (card_words * h.sequences) area₀

-- words past the cards are those before them were cleared
past_clear : (n : ℕ) (area clear : List ℕ) → clear ≡ replicate n 0 ++ drop n area → drop n clear ≡ drop n area
past_clear n area clear e = ap (drop n) e ∙ drop_at (replicate n 0) (drop n area) n (length-replicate {A = ℕ} n 0)

module _ (image : List ℕ) (h : Head) (accepted : Accepts image h) where
  abbrev L : Library
  L = library_of image

  has : Counted L h
  has = counted image h accepted

  module _ (area clear : List ℕ) (cleared : clear ≡ replicate (card_words * h.sequences) 0 ++ drop (card_words * h.sequences) area) where
    abbrev rest : List ℕ
    rest = drop (card_words * h.sequences) clear

    pub filling_start : Blocks image h clear clear 0
    filling_start =
        blocks_start L h.sequences clear rest
        (cleared ∙ ap (λ (ws : List ℕ). replicate (card_words * h.sequences) 0 ++ ws) (sym (past_clear (card_words * h.sequences) area clear cleared)))

    pub filling_end : (now : List ℕ) (k : ℕ) → Blocks image h clear now k → h.facts ≤ 64 * k → 64 * k < h.facts + 64
        → now ≡ cards L ++ drop (card_words * h.sequences) area
    filling_end now k here all few =
        here
        ∙ ap (λ (n : ℕ). parts_below L k 0 n ++ rest) (sym has.sequences)
        ∙ ap₂ (λ (x y : List ℕ). x ++ y)
        (blocks_end L k (omega (arith, (faultless image h accepted).facts_low)) (omega (arith, has.facts))) (past_clear (card_words * h.sequences) area clear cleared)

  pub filling_turn : (clear before : List ℕ) (k : ℕ) → Blocks image h clear before k → 64 * k < h.facts → (after : List ℕ)
      → after ≡ block_filled L k h.sequences before → Blocks image h clear after (k + 1)
  filling_turn clear before k here some after e =
      let count = has.sequences in
      e
      ∙ blocks_next L k (omega (arith, (faultless image h accepted).facts_high)) (omega (arith, has.facts)) (outcomes L k) before _ h.sequences
      (λ d l. row_alone L k d (omega arith)) here
      ∙ ap (λ (j : ℕ). parts_below L j 0 h.sequences ++ drop (card_words * h.sequences) clear) (sym (add-one k))
