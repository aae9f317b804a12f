-- The card of a sequence, as its numbers, and the cards of a library, as words that are computed, by what is possible. What the numbers mean is
-- `Meaning`, and `proofs/` shows that these are the numbers.
use Rattle.std.specs.Prelude.{ℕ, zero, suc, ◌+◌, ◌*◌, ◌^◌, Bool, ◌||◌, List, [], ◌∷◌, ◌++◌, length, get_or}
use mir.Val.{bool_byte}
use Rattle.column.specs.Column.{column}
use Rattle.column.specs.Sets.{count_below}
use Rattle.library.specs.Library.{Library}
use Rattle.runs.specs.Touch.{Mark, present, absent, untouched, last, first, last_set, last_cleared}
use Rattle.runs.specs.View.{View, touches, standing}
use Rattle.runs.specs.Possible.{possible_in, always_in, possible_outcome, has_run, has_empty_run}
use Rattle.cards.specs.Layout.{CardColumn, always_needed, may_need, may_set, may_clear, always_set, always_cleared, always_stands}
use Rattle.cards.specs.Layout.{may_first_set, may_first_untouched, may_last_untouched, may_end_cleared, may_end_unmentioned}
use Rattle.cards.specs.Layout.{laid}

-- what a column claims: that some run has a mark in a view, or that a run exists and every run has it
pub data Claim : Type 0 where
  some_run every_run : View → Mark → Claim

abbrev pub claim : CardColumn → Claim
-- "Always needed: a run exists, and every run first touches the fact by a need."
claim always_needed = every_run (touches first) present
-- "May need: some run does (001, Definition 7)."
claim may_need = some_run (touches first) present
-- "May set: some run's last touch sets it."
claim may_set = some_run (touches last) present
-- "May clear: some run's last touch clears it."
claim may_clear = some_run (touches last) absent
-- "Always set: a run exists, and every run's last touch sets it."
claim always_set = every_run (touches last) present
-- "Always cleared: likewise."
claim always_cleared = every_run (touches last) absent
-- ""always stands": a run exists, and in every run the last item that sets, clears, needs or checks the fact is there and does not clear it"
-- (document 02, request 4)
claim always_stands = every_run standing present
-- "some run first sets it; some run leaves it untouched on the first side; on the last side; some run's last item under Item 4's rule clears
-- it; some run has no such item" (document 02, request 5)
claim may_first_set = some_run (touches first) absent
claim may_first_untouched = some_run (touches first) untouched
claim may_last_untouched = some_run (touches last) untouched
claim may_end_cleared = some_run standing absent
claim may_end_unmentioned = some_run standing untouched

-- whether it is so of sequence c for fact f
abbrev pub claimed : Library → Claim → ℕ → ℕ → Bool
claimed L (some_run v m) c f = possible_in L v m c f
claimed L (every_run v m) c f = always_in L v m c f

-- "fact f is bit f", for the facts below F
unfoldable pub claim_word : Library → Claim → ℕ → ℕ
unfolding column
claim_word L p c = column L.facts (λ (f : ℕ). claimed L p c f)

abbrev pub column_word : Library → CardColumn → ℕ → ℕ
column_word L k c = claim_word L (claim k) c

-- "the number of facts that are in "may set" or in "may clear""
unfoldable pub changeable : Library → ℕ → ℕ
unfolding count_below
changeable L c = count_below L.facts (λ (f : ℕ). possible_outcome L last_set c f || possible_outcome L last_cleared c f)

-- "Flags: bit 0, a run exists; bit 1, an empty run exists; bits 8 to 14, the number of facts that are in "may set" or in "may clear".";
-- "The count of changeable facts takes bits 8 to 16." (document 02, request 8)
unfoldable pub flags : Library → ℕ → ℕ
unfolding changeable
flags L c = bool_byte (has_run L c) + 2 * bool_byte (has_empty_run L c) + 2 ^ 8 * changeable L c

-- the numbers of a card: the flags and the columns in their order
unfoldable pub card : Library → ℕ → List ℕ
unfolding flags claim_word
card L c =
    flags L c ∷ column_word L always_needed c ∷ column_word L may_need c ∷ column_word L may_set c ∷ column_word L may_clear c
    ∷ column_word L always_set c ∷ column_word L always_cleared c ∷ column_word L always_stands c ∷ column_word L may_first_set c
    ∷ column_word L may_first_untouched c ∷ column_word L may_last_untouched c ∷ column_word L may_end_cleared c
    ∷ column_word L may_end_unmentioned c ∷ []

-- number k of a card
abbrev pub card_number : Library → ℕ → ℕ → ℕ
card_number L c k = get_or (card L c) k 0

-- the words of the cards of n sequences from sequence c on
unfoldable pub cards_from : Library → ℕ → ℕ → List ℕ
unfolding card laid
cards_from L c zero = []
cards_from L c (suc n) = laid (card L c) ++ cards_from L (suc c) n

-- the cards of a library, "sequence 0 first"
unfoldable pub cards : Library → List ℕ
unfolding cards_from
cards L = cards_from L 0 (length L.sequences)
