-- A table of words that visits lead to from a blank one, and that no visit changes, is the outcome table: its bits are good rows to
-- which reading adds nothing, and no bit is set from F upward.
-- Assumes nothing.
use Prim.Native.Nat.{ℕ, zero, suc, ◌+◌, ◌*◌, ◌≤◌, ◌<◌}
use native.Mathlib.Nat.{le_of_suc-le-suc}
use native.Mathlib.Decide.{ℕ_discrete, dec_lt}
use native.Mathlib.Numerals.{add-one}
use native.Mathlib.Omega.{arith}
use mathlib.Core.Path.{◌≡◌, refl, sym, ap, ap₂, ◌∙◌, subst, fun_ext}
use mathlib.Core.Bool.{Bool, true, false, ◌||◌}
use mathlib.Core.Logic.{inl}
use mathlib.Core.List.{List, [], ◌∷◌, Memᴰ}
use lib.ListN.{length, get_or, drop, get_or-eq_default}
use Rattle.library.specs.Library.{Library, Sequence, Alternative, Entry, alternatives_from, sequences_from}
use Rattle.general.specs.Tests.{All}
use Rattle.library.specs.Accepted.{SequenceWord}
use Rattle.image.specs.declared.answer.Head.{Head}
use Rattle.library.proofs.Accepted.{alternatives_named}
use Rattle.library.proofs.Lookup.{Placed}
use Rattle.general.specs.Tests.{some}
use Rattle.runs.specs.Run.{alternatives_of, alternative_of}
use Rattle.runs.specs.Touch.{Mark}
use Rattle.runs.specs.Algebra.{side_algebra}
use Rattle.runs.specs.Possible.{column_possible}
use Rattle.runs.specs.Rows.{Row, column_number, read_row, GoodRow, GoodRows, ClosedRows}
use Rattle.column.specs.Words.{facts_in, all_in}
use Rattle.outcome.specs.Area.{block_of}
use Rattle.row.specs.Words.{row_words, no_row, or_rows, row_in, bit_row}
use Rattle.reading.specs.Walks.{united_from}
use Rattle.outcome.specs.Visited.{visited}
use Rattle.settling.specs.Settling.{Reached, here, next, Settled}
use Rattle.row.specs.declared.words.Row as words
use Rattle.outcome.proofs.Bridge.{Stepped, none_row, table_bits, united_bits}
use Rattle.outcome.proofs.Whole.{Whole, reached_whole}
use Rattle.runs.proofs.Rows.{column_number_below, none_good, or_good, read_good, rows_possible}
use Rattle.outcome.proofs.Stores.{row_same, row_other}
use Rattle.general.proofs.Bools.{or_right}
use Rattle.general.proofs.Tests.{some_intro}
use Rattle.outcome.proofs.Visited.{visits_lower}
use Rattle.settling.proofs.Visits.{reached_length}
use Rattle.row.proofs.Bits.{or_bits}

-- rows that agree are good together
good_agree : (L : Library) (f c : ℕ) (r r' : Row) → ((j : ℕ) → j < row_words → r j ≡ r' j) → GoodRow L f c r → GoodRow L f c r'
good_agree L f c r r' same g =
    record {
      sound = λ j l e. g.sound j l (same j l ∙ e);
      live = λ s.
          ap (λ (X : Mark → Bool). some X (side_algebra s).all) (fun_ext (λ m. sym (same (column_number s m) (column_number_below s m))))
          ∙ g.live s ∙ same 0 (omega arith);
      empty = λ e. sym (same 0 (omega arith)) ∙ g.empty (same 1 (omega arith) ∙ e);
    }

-- what some alternative of a list gives is good, where each of them gives a good row
union_good : (L : Library) (f c : ℕ) (B : ℕ → Row) (alts : List Alternative) → ((i : ℕ) → i < length alts → GoodRow L f c (read_row L f B (get_or alts i [])))
    → GoodRow L f c (λ (j : ℕ). some (λ (es : List Entry). read_row L f B es j) alts)
unfolding some
union_good L f c B [] each = none_good L f c
union_good L f c B (es ∷ alts) each = or_good L f c (read_row L f B es) _ (each 0 (omega arith)) (union_good L f c B alts (λ i l. each (suc i) (omega arith)))

pub blank_row : (t : List ℕ) → ((k : ℕ) → get_or t k 0 ≡ 0) → (c : ℕ) → row_in t c ≡ no_row
blank_row t blank c i =
    record {
      run = blank (row_words * c) i;
      empty = blank (row_words * c + 1) i;
      last = record { present = blank (row_words * c + 2) i; absent = blank (row_words * c + 3) i; untouched = blank (row_words * c + 4) i };
      first = record { present = blank (row_words * c + 5) i; absent = blank (row_words * c + 6) i; untouched = blank (row_words * c + 7) i };
      cleared = blank (row_words * c + 8) i;
      unmentioned = blank (row_words * c + 9) i;
    }

member : (alts : List Alternative) (i : ℕ) → i < length alts → Memᴰ (get_or alts i []) alts
member [] i l = absurd (omega arith)
member (es ∷ alts) zero l = Memᴰ.head refl
member (es ∷ alts) (suc i) l = Memᴰ.tail (member alts i (le_of_suc-le-suc l))

-- what the tables of an accepted image say: the rows of the steps, and places
pub record Given (L : Library) (h : Head) (k : ℕ) (steps part places : List ℕ) : Type 0 where
  pub some : 0 < all_in L.facts k
  pub facts : L.facts ≡ h.facts
  pub counted : length L.steps ≡ h.steps
  pub sequences : length L.sequences ≡ h.sequences
  pub stepped : Stepped L k steps
  pub words : All (SequenceWord h) part
  pub reads : L.sequences ≡ sequences_from part
  pub placed : (c : ℕ) → c < h.sequences → Placed part c (get_or places c 0)

all_drop : (h : Head) (n : ℕ) (ws : List ℕ) → All (SequenceWord h) ws → All (SequenceWord h) (drop n ws)
all_drop h zero ws a = a
all_drop h (suc n) [] a = tt
all_drop h (suc n) (w ∷ ws) a = all_drop h n ws a.1

module _ (L : Library) (h : Head) (n : ℕ) (steps part places : List ℕ) (given : Given L h n steps part places) where
  visit : List ℕ → ℕ → List ℕ
  visit t c = visited (block_of L.facts n) steps part places t c

  -- a run is found for all facts or for none
  abbrev WholeTable : List ℕ → Type 0
  WholeTable t = (c : ℕ) → Whole (block_of L.facts n) (row_in t c)

  -- the bits of a row after a visit
  module _ (t : List ℕ) (room : row_words * h.sequences ≤ length t) (whole : WholeTable t) (c : ℕ) (l : c < h.sequences) (b : ℕ) (below : b < facts_in L.facts n) where
    -- the fact of bit b
    abbrev f : ℕ
    f = 64 * n + b

    gives : Row
    gives j = some (λ (es : List Entry). read_row L f (table_bits t b) es j) (alternatives_of L.sequences c)

    visit_bits : (j : ℕ) → j < row_words → table_bits (visit t c) b c j ≡ (table_bits t b c j || gives j)
    unfolding visit gives
    visit_bits j k =
        let p = get_or places c 0 in
        let rest = drop (p + 1) part in
        let y = united_from (block_of L.facts n) steps t no_row (alternatives_from rest) in
        let alts : alternatives_from rest ≡ alternatives_of L.sequences c =
        ap (λ (m : ℕ). alternatives_from (drop m part)) (add-one p) ∙ (given.placed c l).reads ∙ ap (λ (S : List Sequence). get_or S c []) (sym given.reads) in
        ap (λ (r : words.Row). bit_row r b j) (row_same t c (or_rows (row_in t c) y) (omega arith))
        ∙ or_bits (row_in t c) y b j k
        ∙ ap (λ (q : Bool). table_bits t b c j || q)
        (united_bits L h n steps t given.facts given.counted given.stepped whole given.some b below (alternatives_from rest)
        (alternatives_named h rest (all_drop h (p + 1) part given.words)) no_row j k
        ∙ ap₂ ◌||◌ (none_row b j k) (ap (λ (alts' : List Alternative). some (λ (es : List Entry). read_row L f (table_bits t b) es j) alts') alts))

    good_visit : GoodRows L f (table_bits t b) → GoodRows L f (table_bits (visit t c) b)
    unfolding visit gives
    good_visit good d =
        elim (ℕ_discrete d c) [
          | yes e ↦ subst (λ (m : ℕ). GoodRow L f m (table_bits (visit t c) b m)) (sym e)
              (good_agree L f c (λ (j : ℕ). table_bits t b c j || gives j) (table_bits (visit t c) b c) (λ j k. sym (visit_bits j k))
              (or_good L f c (table_bits t b c) gives (good c)
              (union_good L f c (table_bits t b) (alternatives_of L.sequences c) (λ i k. read_good L f (table_bits t b) good c i k))))
          | no apart ↦ subst (λ (r : words.Row). GoodRow L f d (bit_row r b)) (sym (row_other t c _ d apart)) (good d)
        ]

    -- where the visit changes nothing, the row has what each alternative gives
    settled_covers : visit t c ≡ t → (i : ℕ) → i < length (alternatives_of L.sequences c) → (j : ℕ) → j < row_words
        → read_row L f (table_bits t b) (alternative_of L.sequences c i) j ≡ true → table_bits t b c j ≡ true
    unfolding gives
    settled_covers same i k j u e =
        let alts = alternatives_of L.sequences c in
        ap (λ (s : List ℕ). table_bits s b c j) (sym same) ∙ visit_bits j u
        ∙ or_right (table_bits t b c j) (gives j) (some_intro (λ (es : List Entry). read_row L f (table_bits t b) es j) (member alts i k) e)

  -- from a blank table a run is found for all facts or for none
  blank_whole : {t₀ t : List ℕ} → row_words * h.sequences ≤ length t₀ → ((k : ℕ) → get_or t₀ k 0 ≡ 0)
      → Reached (visited (block_of L.facts n) steps part places) h.sequences t₀ t → WholeTable t
  blank_whole {t₀} room blank reached =
      reached_whole (block_of L.facts n) steps part places h.sequences room (λ c. inl (ap (λ (r : words.Row). r.run) (blank_row t₀ blank c))) reached

  -- from a blank table every row stays good
  reached_good : {t₀ t : List ℕ} → row_words * h.sequences ≤ length t₀ → ((k : ℕ) → get_or t₀ k 0 ≡ 0)
      → Reached (visited (block_of L.facts n) steps part places) h.sequences t₀ t → (b : ℕ) → b < facts_in L.facts n → GoodRows L (64 * n + b) (table_bits t b)
  unfolding visit
  reached_good {t₀} room blank here b below = λ c.
      good_agree L (64 * n + b) c (λ (j : ℕ). false) (table_bits t₀ b c) (λ j k. sym (ap (λ (r : words.Row). bit_row r b j) (blank_row t₀ blank c) ∙ none_row b j k)) (none_good L (64 * n + b) c)
  reached_good room blank (next {table = s} c l r) b below =
      good_visit s (omega (arith, reached_length (visits_lower (block_of L.facts n) steps part places h.sequences) r)) (blank_whole room blank r) c l b below
      (reached_good room blank r b below)

  settled_closed : (t : List ℕ) → row_words * h.sequences ≤ length t → WholeTable t → Settled (visited (block_of L.facts n) steps part places) h.sequences t
      → (b : ℕ) → b < facts_in L.facts n → ClosedRows L (64 * n + b) (table_bits t b)
  unfolding visit
  settled_closed t room whole settled b below c i k j u e =
      elim (dec_lt c h.sequences) [
        | yes l ↦ settled_covers t room whole c l b below (settled c l) i k j u e
        | no l ↦ absurd (omega (arith, ap (λ (alts : List Alternative). length alts) (get_or-eq_default L.sequences [] {n = c} (omega (arith, given.sequences)))))
      ]

  -- what the bits of such a table say
  pub settled_bits : (t₀ t : List ℕ) → row_words * h.sequences ≤ length t₀ → ((k : ℕ) → get_or t₀ k 0 ≡ 0)
      → Reached (visited (block_of L.facts n) steps part places) h.sequences t₀ t → Settled (visited (block_of L.facts n) steps part places) h.sequences t
      → (b : ℕ) → b < facts_in L.facts n → (j : ℕ) → j < row_words → (c : ℕ) → table_bits t b c j ≡ column_possible L j c (64 * n + b)
  settled_bits t₀ t room blank reached settled b below =
      rows_possible L (64 * n + b) (table_bits t b) (reached_good room blank reached b below)
      (settled_closed t (omega (arith, reached_length (visits_lower (block_of L.facts n) steps part places h.sequences) reached)) (blank_whole room blank reached) settled
      b below)
