-- "Over an area that the card call filled, with that library's F and C, the list's card equals that of an added sequence, limits aside, whose
-- one alternative names the list" (document 02, request 5).
-- It has: `list_added`; `card_kept`, that no other card moves; and the shortest lists (`card_one`, `list_none`, `card_none`).
-- Assumes nothing.
use Prim.Native.Nat.{ℕ, ◌+◌, ◌*◌, ◌^◌, ◌≤◌, ◌<◌}
use native.Mathlib.Omega.{arith}
use mathlib.Core.Path.{◌≡◌, refl, sym, ap, ap₂, ◌∙◌}
use mathlib.Core.Logic.{⊎_elim}
use mathlib.Core.Bool.{Bool, true, false, cond, not, ◌&&◌, ◌||◌, and_self, and-true, true≢false}
use mathlib.Core.List.{List, [], ◌∷◌, ◌++◌, map}
use lib.ListN.{length, get_or}
use lib.Seq.{ext_get_or}
use mir.Val.{bool_byte}
use Rattle.general.specs.Scan.{every}
use Rattle.general.specs.Tests.{All}
use Rattle.general.proofs.Numbers.{zeros}
use Rattle.general.proofs.Bools.{passes_or_not, and_implied}
use Rattle.column.specs.Column.{column}
use Rattle.column.specs.Sets.{in_column, count_below}
use Rattle.column.proofs.Bits.{column_same, column_none}
use Rattle.column.proofs.Operations.{column_all, count_same, count_none}
use Rattle.library.specs.Library.{Library, call}
use Rattle.runs.specs.Added.{with_list, added_to, Whole}
use Rattle.runs.specs.Touch.{Side, last, first, Mark, present, absent, untouched, other_touch}
use Rattle.runs.specs.View.{View, touches, standing}
use Rattle.runs.specs.Possible as possible
use Rattle.runs.specs.Possible.{column_of, column_count, column_possible, possible_in, broken_in}
use Rattle.runs.specs.Rows.{Row, column_number, join_row, start_row, fold_row}
use Rattle.runs.proofs.Columns.{blank_columns}
use Rattle.runs.proofs.Rows.{by_column}
use Rattle.runs.proofs.Added.{possible_kept, possible_added}
use Rattle.cards.specs.Layout.{CardColumn, always_needed, may_need, may_set, may_clear, always_set, always_cleared, always_stands}
use Rattle.cards.specs.Layout.{may_first_set, may_first_untouched, may_last_untouched, may_end_cleared, may_end_unmentioned}
use Rattle.cards.specs.Layout.{card_numbers, column_width, laid}
use Rattle.cards.specs.Card.{every_run, claim, claimed, claim_word, column_word, changeable, flags, card, card_number, cards}
use Rattle.cards.specs.Composed.{has_run, has_empty_run, has, one_then_all, all_then_one, list_has, list_column, list_count, list_flags, composed_numbers, blank_numbers, list_numbers, list_card, empty_list_numbers, kept}
use Rattle.cards.proofs.Meaning.{by_number, card_column, card_blank, run_flag, empty_flag}
use Rattle.cards.proofs.Area.{length_card, card_flags, card_has}
use Rattle.cards.proofs.Rule.{every_same, one_then_same, all_then_same}
use Rattle.cards.proofs.Joined.{Joined, called_rows}

-- what holds of each element follows for a list of them
all_from : {A : Type 0} {P Q : A → Type 0} → ((x : A) → P x → Q x) → (xs : List A) → All P xs → All Q xs
all_from k [] each = tt
all_from k (x ∷ xs) each = (k x each.0, all_from k xs each.1)

blank_number : (j : ℕ) → get_or blank_numbers j 0 ≡ 0
blank_number j = zeros card_numbers j

module _ (L : Library) (ms rest : List ℕ) (whole : Whole L) (below : All (λ (m : ℕ). m < length L.sequences) ms) where
  abbrev C : ℕ
  C = length L.sequences

  abbrev L' : Library
  L' = with_list L ms

  abbrev area : List ℕ
  area = cards L ++ rest

  -- ---- the members' bits

  member_has : L.facts ≤ column_width → (f : ℕ) → f < L.facts → (k : CardColumn) (m : ℕ) → m < C → has area f k m ≡ claimed L (claim k) m f
  member_has few f low k m l = card_has L rest m l few k f low

  members_have : L.facts ≤ column_width → (f : ℕ) → f < L.facts → (k : CardColumn) → All (λ (m : ℕ). has area f k m ≡ claimed L (claim k) m f) ms
  members_have few f low k = all_from (member_has few f low k) ms below

  members_run : every (has_run area) ms ≡ every (possible.has_run L) ms
  members_run =
      every_same (has_run area) (possible.has_run L) ms
      (all_from (λ m l. ap (λ (n : ℕ). in_column n 0) (card_flags L rest m l) ∙ run_flag L m) ms below)

  members_empty : every (has_empty_run area) ms ≡ every (possible.has_empty_run L) ms
  members_empty =
      every_same (has_empty_run area) (possible.has_empty_run L) ms
      (all_from (λ m l. ap (λ (n : ℕ). in_column n 1) (card_flags L rest m l) ∙ empty_flag L m) ms below)

  -- ---- the added sequence's columns

  abbrev rows : ℕ → ℕ → Row
  rows f m j = column_possible L j m f

  -- the row after the members
  abbrev after : ℕ → Row
  after f = fold_row L f (rows f) start_row (map call ms)

  by_members : (f : ℕ) → Joined (rows f) ms (after f)
  by_members f = called_rows (rows f) L f ms

  added_run : possible.has_run L' C ≡ every (possible.has_run L) ms
  added_run = possible_added L ms whole below 0 0 (omega arith) ∙ and_self (after 0 0) ∙ (by_members 0).run

  module _ (live : every (possible.has_run L) ms ≡ true) where
    -- where every member has a run
    added_column : (f j : ℕ) → j < column_count → column_possible L' j C f ≡ after f j
    added_column f j u = possible_added L ms whole below f j u ∙ ap (λ (b : Bool). b && after f j) ((by_members f).run ∙ live)

    added_empty : possible.has_empty_run L' C ≡ every (possible.has_empty_run L) ms
    added_empty = added_column 0 1 (omega arith) ∙ (by_members 0).empty

    module _ (few : L.facts ≤ column_width) (f : ℕ) (low : f < L.facts) where
      -- a "some" column of a card is column j of a row
      abbrev IsColumn : CardColumn → ℕ → Type 0
      IsColumn k j = (K : Library) (m : ℕ) → claimed K (claim k) m f ≡ column_possible K j m f

      members_agree : (k : CardColumn) (j : ℕ) → IsColumn k j → All (λ (m : ℕ). has area f k m ≡ rows f m j) ms
      members_agree k j is = all_from (λ m e. e ∙ is L m) ms (members_have few f low k)

      added_claim : (k : CardColumn) (j : ℕ) → j < column_count → IsColumn k j → claimed L' (claim k) C f ≡ after f j
      added_claim k j u is = is L' C ∙ added_column f j u

      -- "where all members have it"
      all_have_lem : (k : CardColumn) (j : ℕ) → j < column_count → IsColumn k j → after f j ≡ every (λ (m : ℕ). rows f m j) ms
          → every (has area f k) ms ≡ claimed L' (claim k) C f
      all_have_lem k j u is folded =
          every_same (has area f k) (λ (m : ℕ). rows f m j) ms (members_agree k j is) ∙ sym (added_claim k j u is ∙ folded)

      -- "where one has it and every later member .."
      later_has : (k : CardColumn) (j : ℕ) (n : CardColumn) (i : ℕ) → j < column_count → IsColumn k j → IsColumn n i
          → after f j ≡ one_then_all (λ (m : ℕ). rows f m j) (λ (m : ℕ). rows f m i) ms
          → one_then_all (has area f k) (has area f n) ms ≡ claimed L' (claim k) C f
      later_has k j n i u is alone folded =
          one_then_same (has area f k) (λ (m : ℕ). rows f m j) (has area f n) (λ (m : ℕ). rows f m i) ms (members_agree k j is) (members_agree n i alone)
          ∙ sym (added_claim k j u is ∙ folded)

      -- "(earlier on the first side)"
      earlier_has : (k : CardColumn) (j : ℕ) (n : CardColumn) (i : ℕ) → j < column_count → IsColumn k j → IsColumn n i
          → after f j ≡ all_then_one (λ (m : ℕ). rows f m j) (λ (m : ℕ). rows f m i) ms
          → all_then_one (has area f k) (has area f n) ms ≡ claimed L' (claim k) C f
      earlier_has k j n i u is alone folded =
          all_then_same (has area f k) (λ (m : ℕ). rows f m j) (has area f n) (λ (m : ℕ). rows f m i) ms (members_agree k j is) (members_agree n i alone)
          ∙ sym (added_claim k j u is ∙ folded)

      -- "where no rival outcome holds"
      no_rival : (v : View) (m : Mark) (one none : Bool) → one ≡ possible_in L' v (other_touch m) C f → none ≡ possible_in L' v untouched C f
          → not (one || none) ≡ claimed L' (every_run v m) C f
      no_rival v m one none e n =
          ap₂ (λ (a b : Bool). not (a || b)) e n ∙ ap (λ (b : Bool). b && not (broken_in L' v m C f)) (sym (added_run ∙ live))

      abbrev joined : Joined (rows f) ms (after f)
      joined = by_members f

      set_last : one_then_all (has area f may_set) (has area f may_last_untouched) ms ≡ claimed L' (claim may_set) C f
      set_last = later_has may_set 2 may_last_untouched 4 (omega arith) (λ K m. refl) (λ K m. refl) joined.set

      cleared_last : one_then_all (has area f may_clear) (has area f may_last_untouched) ms ≡ claimed L' (claim may_clear) C f
      cleared_last = later_has may_clear 3 may_last_untouched 4 (omega arith) (λ K m. refl) (λ K m. refl) joined.clear

      untouched_last : every (has area f may_last_untouched) ms ≡ claimed L' (claim may_last_untouched) C f
      untouched_last = all_have_lem may_last_untouched 4 (omega arith) (λ K m. refl) joined.last_untouched_lem

      set_first : all_then_one (has area f may_first_set) (has area f may_first_untouched) ms ≡ claimed L' (claim may_first_set) C f
      set_first = earlier_has may_first_set 6 may_first_untouched 7 (omega arith) (λ K m. refl) (λ K m. refl) joined.first_set_lem

      untouched_first : every (has area f may_first_untouched) ms ≡ claimed L' (claim may_first_untouched) C f
      untouched_first = all_have_lem may_first_untouched 7 (omega arith) (λ K m. refl) joined.first_untouched_lem

      cleared_end : one_then_all (has area f may_end_cleared) (has area f may_end_unmentioned) ms ≡ claimed L' (claim may_end_cleared) C f
      cleared_end = later_has may_end_cleared 8 may_end_unmentioned 9 (omega arith) (λ K m. refl) (λ K m. refl) joined.end_cleared

      unmentioned : every (has area f may_end_unmentioned) ms ≡ claimed L' (claim may_end_unmentioned) C f
      unmentioned = all_have_lem may_end_unmentioned 9 (omega arith) (λ K m. refl) joined.unmentioned

      -- each bit of the list's card is one of the added sequence's
      listed : (k : CardColumn) → list_has area ms f k ≡ claimed L' (claim k) C f
      listed always_needed = no_rival (touches first) present _ _ set_first untouched_first
      listed may_need = earlier_has may_need 5 may_first_untouched 7 (omega arith) (λ K m. refl) (λ K m. refl) joined.need
      listed may_set = set_last
      listed may_clear = cleared_last
      listed always_set = no_rival (touches last) present _ _ cleared_last untouched_last
      listed always_cleared = no_rival (touches last) absent _ _ set_last untouched_last
      listed always_stands = no_rival standing present _ _ cleared_end unmentioned
      listed may_first_set = set_first
      listed may_first_untouched = untouched_first
      listed may_last_untouched = untouched_last
      listed may_end_cleared = cleared_end
      listed may_end_unmentioned = unmentioned

    -- the numbers, for at most as many facts as a column has room for
    module _ (few : L.facts ≤ column_width) where
      all_kept : kept L.facts ≡ L.facts
      all_kept = omega arith

      column_listed : (k : CardColumn) → list_column L.facts area ms k ≡ column_word L' k C
      unfolding list_column claim_word
      column_listed k =
          ap (λ (n : ℕ). column n (λ (f : ℕ). list_has area ms f k)) all_kept
          ∙ column_same L.facts (λ (f : ℕ). list_has area ms f k) (λ (f : ℕ). claimed L' (claim k) C f) (λ f low. listed few f low k)

      count_listed : list_count L.facts area ms ≡ changeable L' C
      unfolding list_count changeable
      count_listed =
          ap (λ (n : ℕ). count_below n (λ (f : ℕ). list_has area ms f may_set || list_has area ms f may_clear)) all_kept
          ∙ count_same L.facts (λ (f : ℕ). list_has area ms f may_set || list_has area ms f may_clear)
          (λ (f : ℕ). claimed L' (claim may_set) C f || claimed L' (claim may_clear) C f)
          (λ f low. ap₂ ◌||◌ (listed few f low may_set) (listed few f low may_clear))

      flags_listed : list_flags L.facts area ms ≡ flags L' C
      unfolding list_flags flags
      flags_listed =
          let run : every (has_run area) ms ≡ possible.has_run L' C = members_run ∙ sym added_run in
          let empty : every (has_empty_run area) ms ≡ possible.has_empty_run L' C = members_empty ∙ sym added_empty in
          omega (arith, ap bool_byte run, ap bool_byte empty, count_listed)

      numbers_listed : composed_numbers L.facts area ms ≡ card L' C
      unfolding composed_numbers card
      numbers_listed i =
          flags_listed i ∷ column_listed always_needed i ∷ column_listed may_need i ∷ column_listed may_set i ∷ column_listed may_clear i
          ∷ column_listed always_set i ∷ column_listed always_cleared i ∷ column_listed always_stands i ∷ column_listed may_first_set i
          ∷ column_listed may_first_untouched i ∷ column_listed may_last_untouched i ∷ column_listed may_end_cleared i
          ∷ column_listed may_end_unmentioned i ∷ []

      listed_live : list_numbers L.facts area ms ≡ card L' C
      unfolding list_numbers
      listed_live = ap (λ (b : Bool). cond b (composed_numbers L.facts area ms) blank_numbers) (members_run ∙ live) ∙ numbers_listed

  -- without a run of a member both are blank
  listed_blank : every (possible.has_run L) ms ≡ false → list_numbers L.facts area ms ≡ card L' C
  unfolding list_numbers card
  listed_blank none =
      ap (λ (b : Bool). cond b (composed_numbers L.facts area ms) blank_numbers) (members_run ∙ none)
      ∙ ext_get_or 0 blank_numbers (card L' C) refl (λ j u. blank_number j ∙ sym (card_blank L' C (added_run ∙ none) j u))

  numbers_added : L.facts ≤ column_width → list_numbers L.facts area ms ≡ card L' (added_to L)
  numbers_added few = ⊎_elim (λ live. listed_live live few) listed_blank (passes_or_not (every (possible.has_run L) ms))

  pub list_added : L.facts ≤ column_width → list_card L.facts area ms ≡ laid (card L' (added_to L))
  unfolding list_card
  list_added few = ap laid (numbers_added few)

-- ---- cards of sequences with the same columns

module _ (K K' : Library) (c c' : ℕ) (facts : K.facts ≡ K'.facts)
    (same : (j f : ℕ) → j < column_count → column_possible K j c f ≡ column_possible K' j c' f) where
  -- an "always" column, by its rivals' columns
  every_agrees : (i j f : ℕ) → i < column_count → j < column_count
      → (column_possible K 0 c 0 && not (column_possible K i c f || column_possible K j c f))
      ≡ (column_possible K' 0 c' 0 && not (column_possible K' i c' f || column_possible K' j c' f))
  every_agrees i j f l u = ap₂ ◌&&◌ (same 0 0 (omega arith)) (ap₂ (λ (a b : Bool). not (a || b)) (same i f l) (same j f u))

  claim_same : (k : CardColumn) (f : ℕ) → claimed K (claim k) c f ≡ claimed K' (claim k) c' f
  claim_same always_needed f = every_agrees 6 7 f (omega arith) (omega arith)
  claim_same may_need f = same 5 f (omega arith)
  claim_same may_set f = same 2 f (omega arith)
  claim_same may_clear f = same 3 f (omega arith)
  claim_same always_set f = every_agrees 3 4 f (omega arith) (omega arith)
  claim_same always_cleared f = every_agrees 2 4 f (omega arith) (omega arith)
  claim_same always_stands f = every_agrees 8 9 f (omega arith) (omega arith)
  claim_same may_first_set f = same 6 f (omega arith)
  claim_same may_first_untouched f = same 7 f (omega arith)
  claim_same may_last_untouched f = same 4 f (omega arith)
  claim_same may_end_cleared f = same 8 f (omega arith)
  claim_same may_end_unmentioned f = same 9 f (omega arith)

  column_agrees : (k : CardColumn) → column_word K k c ≡ column_word K' k c'
  unfolding claim_word
  column_agrees k =
      column_same K.facts (λ (f : ℕ). claimed K (claim k) c f) (λ (f : ℕ). claimed K' (claim k) c' f) (λ f low. claim_same k f)
      ∙ ap (λ (n : ℕ). column n (λ (f : ℕ). claimed K' (claim k) c' f)) facts

  count_agrees : changeable K c ≡ changeable K' c'
  unfolding changeable
  count_agrees =
      count_same K.facts (λ (f : ℕ). claimed K (claim may_set) c f || claimed K (claim may_clear) c f)
      (λ (f : ℕ). claimed K' (claim may_set) c' f || claimed K' (claim may_clear) c' f)
      (λ f low. ap₂ ◌||◌ (claim_same may_set f) (claim_same may_clear f))
      ∙ ap (λ (n : ℕ). count_below n (λ (f : ℕ). claimed K' (claim may_set) c' f || claimed K' (claim may_clear) c' f)) facts

  flags_agree : flags K c ≡ flags K' c'
  unfolding flags
  flags_agree = omega (arith, ap bool_byte (same 0 0 (omega arith)), ap bool_byte (same 1 0 (omega arith)), count_agrees)

  card_agrees : card K c ≡ card K' c'
  unfolding card
  card_agrees =
      ext_get_or 0 (card K c) (card K' c') (length_card K c ∙ sym (length_card K' c'))
      (λ j u. by_number (λ i. card_number K c i ≡ card_number K' c' i) flags_agree (λ k. card_column K c k ∙ column_agrees k ∙ sym (card_column K' c' k)) j
      (omega (arith, length_card K c)))

-- with the list added, each sequence of the library has the card that it had
pub card_kept : (L : Library) (ms : List ℕ) → Whole L → (c : ℕ) → c < length L.sequences → card (with_list L ms) c ≡ card L c
card_kept L ms whole c low = card_agrees (with_list L ms) L c c refl (λ j f u. possible_kept L ms whole c f j low u)

-- ---- the shortest lists

-- nothing before a row leaves it as it is
start_join : (Y : Row) (j : ℕ) → j < column_count → join_row start_row Y j ≡ Y j
start_join Y = by_column (λ j. join_row start_row Y j ≡ Y j) refl refl side refl refl
  where
    earlier : (b : Bool) → (b && true || false) ≡ b
    earlier true = refl
    earlier false = refl

    side : (s : Side) (m : Mark) → join_row start_row Y (column_number s m) ≡ Y (column_number s m)
    side last present = refl
    side last absent = refl
    side last untouched = refl
    side first present = earlier (Y 5)
    side first absent = earlier (Y 6)
    side first untouched = and-true (Y 7)

-- the sequence that names one member has that member's card
pub card_one : (L : Library) (m : ℕ) → Whole L → m < length L.sequences → card (with_list L (m ∷ [])) (added_to L) ≡ card L m
unfolding fold_row
card_one L m whole low = card_agrees (with_list L (m ∷ [])) L (added_to L) m refl column
  where
    column : (j f : ℕ) → j < column_count → column_possible (with_list L (m ∷ [])) j (added_to L) f ≡ column_possible L j m f
    column j f u =
        possible_added L (m ∷ []) whole (low, tt) f j u
        ∙ ap (λ (b : Bool). column_possible L 0 m f && b) (start_join (λ k. column_possible L k m f) j u)
        ∙ and_implied (column_possible L 0 m f) (column_possible L j m f)
        (λ e. ⊎_elim (λ run. run) (λ none. absurd (true≢false (sym e ∙ blank_columns (column_of j) L m f none))) (passes_or_not (possible.has_run L m)))

-- the empty list, over any area
none_numbers : (facts : ℕ) (area : List ℕ) → list_numbers facts area [] ≡ empty_list_numbers facts
unfolding list_numbers composed_numbers list_flags list_count list_column every one_then_all all_then_one
none_numbers facts area i =
    let none = column_none (kept facts) in
    let all = column_all (kept facts) in
    flag i ∷ none i ∷ none i ∷ none i ∷ none i ∷ none i ∷ none i ∷ none i ∷ none i ∷ all i ∷ all i ∷ none i ∷ all i ∷ []
  where
    flag : 1 + 2 * 1 + 2 ^ 8 * count_below (kept facts) (λ (f : ℕ). false) ≡ 3
    flag = omega (arith, count_none (kept facts))

pub list_none : (facts : ℕ) (area : List ℕ) → list_card facts area [] ≡ laid (empty_list_numbers facts)
unfolding list_card
list_none facts area = ap laid (none_numbers facts area)

-- and so the sequence whose one alternative is empty
pub card_none : (L : Library) → Whole L → L.facts ≤ column_width → card (with_list L []) (added_to L) ≡ empty_list_numbers L.facts
card_none L whole few = sym (numbers_added L [] [] whole tt few) ∙ none_numbers L.facts (cards L ++ [])
