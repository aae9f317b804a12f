-- An added sequence whose one alternative names a list (document 02, request 5): nothing else moves, and its row is the list read as one
-- alternative.
-- It has: `whole_counted`, that an accepted image's library is whole; `runs_kept`, of the runs; `possible_kept` and `possible_added`, of the
-- columns.
-- Assumes nothing.
use Prim.Native.Nat.{ℕ, zero, suc, ◌<◌}
use mathlib.Core.Path.{◌≡◌, refl, sym, ◌∙◌, ap, subst, fun_ext}
use mathlib.Core.Logic.{◌↔◌}
use mathlib.Core.Bool.{Bool, true, false, cond, ◌&&◌}
use mathlib.Core.List.{List, [], ◌∷◌, map}
use native.Mathlib.Omega.{arith}
use native.Mathlib.Decide.{dec_lt}
use lib.ListN.{length, get_or, length-append, get_or-append}
use lib.Seq.{get_or-append_seam}
use lib.Dec.{eqb}
use borrow.Author.Tests.{eqb-true, eq-eqb, ne_eqb}
use Rattle.general.specs.Tests.{some, All}
use Rattle.general.proofs.Bools.{both_ways}
use Rattle.general.proofs.Tests.{some_found, some_intro, all_default}
use Rattle.image.specs.declared.answer.Head.{Head}
use Rattle.library.specs.Library.{Library, Sequence, Entry, item, call, Item, step, check}
use Rattle.library.specs.Accepted.{Counted, Named}
use Rattle.runs.specs.Run.{alternatives_of, alternative_of, Gives, nothing, by_item, by_call, Run}
use Rattle.runs.specs.Added.{with_list, added_to, CallsBelow, Whole}
use Rattle.runs.specs.Touch.{Side, item_touch}
use Rattle.runs.specs.View.{View, touches, standing, view_mark}
use Rattle.runs.specs.Algebra.{outcome, side_algebra, marks_listed}
use Rattle.runs.specs.Possible.{column_of, column_count, question_column, column_has, column_possible}
use Rattle.runs.specs.Rows.{Row, column_number, row_side, join_row, start_row, entry_row, fold_row, read_row, OccursIn, GoodRow}
use Rattle.runs.specs.Rows.{GoodRows, Covers, ClosedRows}
use Rattle.runs.proofs.Run.{call_iff}
use Rattle.runs.proofs.Possible.{alternative_below}
use Rattle.runs.proofs.Columns.{column_iff}
use Rattle.runs.proofs.Rows.{by_column, side_column, read_good, rows_possible}

-- what follows from P holds of each element of which P holds
all_map : {A : Type 0} {P Q : A → Type 0} → ((x : A) → P x → Q x) → (xs : List A) → All P xs → All Q xs
all_map k [] each = tt
all_map k (x ∷ xs) each = (k x each.0, all_map k xs each.1)

-- a library whose entries name what the head counts is whole
pub whole_counted : (L : Library) (h : Head) → Counted L h → Whole L
whole_counted L h counted = all_map (all_map (all_map below)) L.sequences counted.named
  where
    below : (e : Entry) → Named h e → CallsBelow (length L.sequences) e
    below (item x) named = tt
    below (call c) named = subst (λ (n : ℕ). c < n) (sym counted.sequences) named

-- the entries of each alternative of a whole library
whole_below : (L : Library) → Whole L → (c i : ℕ) → All (CallsBelow (length L.sequences)) (alternative_of L.sequences c i)
whole_below L whole c i =
    let P = CallsBelow (length L.sequences) in
    all_default (All P) [] tt (alternatives_of L.sequences c) (all_default (All (All P)) [] tt L.sequences whole c) i

-- the rows of what is possible for fact f are good, and reading adds nothing to them
module _ (L : Library) (f : ℕ) where
  abbrev possible_rows : ℕ → Row
  possible_rows c j = column_possible L j c f

  possible_occurs : (c j : ℕ) → possible_rows c j ≡ true → OccursIn L f c j
  possible_occurs c j e = (column_iff (column_of j) L c f).0 e

  occurs_possible : (c j : ℕ) → OccursIn L f c j → possible_rows c j ≡ true
  occurs_possible c j o = (column_iff (column_of j) L c f).1 o

  possible_live : (c : ℕ) (s : Side) → some (row_side s (possible_rows c)) (side_algebra s).all ≡ possible_rows c 0
  possible_live c s =
      both_ways (some (row_side s (possible_rows c)) (side_algebra s).all) (possible_rows c 0)
      (λ e.
      let m = some_found (row_side s (possible_rows c)) (side_algebra s).all e in
      let o = possible_occurs c (column_number s m.0) m.2 in
      occurs_possible c 0 (o.0, o.1, refl))
      (λ e.
      let o = possible_occurs c 0 e in
      let m = outcome (side_algebra s) (item_touch L s f) o.0 in
      let h = (column_iff (question_column (record { side = s; mark = m })) L c f).1 (o.0, o.1, refl) in
      some_intro (row_side s (possible_rows c)) (marks_listed m) (subst (λ K. column_has K L c f ≡ true) (sym (side_column s m)) h))

  possible_good : GoodRows L f possible_rows
  possible_good c =
      record {
        sound = λ j lt. possible_occurs c j;
        live = possible_live c;
        empty = λ e. let o = possible_occurs c 1 e in occurs_possible c 0 (o.0, o.1, refl);
      }

  possible_full : ClosedRows L f possible_rows
  possible_full c i lt j below e = occurs_possible c j ((read_good L f possible_rows possible_good c i lt).sound j below e)

module _ (L : Library) (ms : List ℕ) where
  -- the sequences before and after
  abbrev S : List Sequence
  S = L.sequences

  abbrev S⁺ : List Sequence
  S⁺ = (with_list L ms).sequences

  -- the sequences that were there keep their alternatives, and the added one has the list
  alternatives_kept : (c : ℕ) → c < length S → alternatives_of S⁺ c ≡ alternatives_of S c
  alternatives_kept c lt = get_or-append S ((map call ms ∷ []) ∷ []) [] c lt

  alternatives_added : alternatives_of S⁺ (length S) ≡ map call ms ∷ []
  alternatives_added = get_or-append_seam S (map call ms ∷ []) [] []

  alternative_added : (i : ℕ) → i < length (alternatives_of S⁺ (length S)) → alternative_of S⁺ (length S) i ≡ map call ms
  alternative_added i lt = ap (λ a. get_or a i []) alternatives_added ∙ only i (subst (λ a. i < length a) alternatives_added lt)
    where
      only : (k : ℕ) → k < 1 → get_or (map call ms ∷ []) k [] ≡ map call ms
      only zero below = refl
      only (suc k) below = absurd (omega arith)

  -- what entries give, they give with the sequence added
  gives_more : {es : List Entry} {w : List Item} → Gives S es w → Gives S⁺ es w
  gives_more nothing = nothing
  gives_more (by_item g) = by_item (gives_more g)
  gives_more (by_call {c = c} {u = u} i lt g g' e) =
      let kept = sym (alternatives_kept c (alternative_below S c i lt)) in
      by_call i (subst (λ a. i < length a) kept lt) (subst (λ a. Gives S⁺ (get_or a i []) u) kept (gives_more g)) (gives_more g') e

  run_more : (c : ℕ) (w : List Item) → Run L c w → Run (with_list L ms) c w
  run_more c w r = (call_iff S⁺ c w).0 (gives_more ((call_iff S c w).1 r))

  -- and where they name only sequences that were there, nothing else
  gives_fewer : Whole L → {es : List Entry} {w : List Item} → All (CallsBelow (length S)) es → Gives S⁺ es w → Gives S es w
  gives_fewer whole below nothing = nothing
  gives_fewer whole below (by_item g) = by_item (gives_fewer whole below.1 g)
  gives_fewer whole below (by_call {c = c} {u = u} i lt g g' e) =
      let kept = alternatives_kept c below.0 in
      let named = subst (λ a. All (CallsBelow (length S)) (get_or a i [])) (sym kept) (whole_below L whole c i) in
      by_call i (subst (λ a. i < length a) kept lt) (subst (λ a. Gives S (get_or a i []) u) kept (gives_fewer whole named g))
      (gives_fewer whole below.1 g') e

  -- nothing else moves: a list is a run of a sequence of the library exactly where it is one with the sequence added
  pub runs_kept : Whole L → (c : ℕ) → c < length L.sequences → (w : List Item) → Run L c w ↔ Run (with_list L ms) c w
  runs_kept whole c lt w = (run_more c w, λ r. (call_iff S c w).0 (gives_fewer whole (lt, tt) ((call_iff S⁺ c w).1 r)))

  -- the items stay the actions that they were, and so do their marks
  view_kept : (v : View) (f : ℕ) → view_mark (with_list L ms) v f ≡ view_mark L v f
  view_kept v f = fun_ext (same v)
    where
      same : (u : View) (x : Item) → view_mark (with_list L ms) u f x ≡ view_mark L u f x
      same (touches s) (step a) = refl
      same (touches s) (check g) = refl
      same standing (step a) = refl
      same standing (check g) = refl

  marking_kept : (f j : ℕ) → j < column_count → (column_of j).marking (with_list L ms) f ≡ (column_of j).marking L f
  marking_kept f =
      by_column (λ j. (column_of j).marking (with_list L ms) f ≡ (column_of j).marking L f) refl refl
      (λ s m. subst (λ K. K.marking (with_list L ms) f ≡ K.marking L f) (sym (side_column s m)) (view_kept (touches s) f))
      (view_kept standing f) (view_kept standing f)

  outcome_kept : (f j : ℕ) → j < column_count → (w : List Item)
      → outcome (column_of j).algebra ((column_of j).marking (with_list L ms) f) w ≡ outcome (column_of j).algebra ((column_of j).marking L f) w
  outcome_kept f j below w = ap (λ mark. outcome (column_of j).algebra mark w) (marking_kept f j below)

  occurs_more : (f c j : ℕ) → j < column_count → OccursIn L f c j → OccursIn (with_list L ms) f c j
  occurs_more f c j below (w, run, e) = (w, run_more c w run, outcome_kept f j below w ∙ e)

  occurs_fewer : Whole L → (f c j : ℕ) → c < length S → j < column_count → OccursIn (with_list L ms) f c j → OccursIn L f c j
  occurs_fewer whole f c j lt below (w, run, e) = (w, (runs_kept whole c lt w).1 run, sym (outcome_kept f j below w) ∙ e)

  -- and so the columns of the sequences that were there
  pub possible_kept : Whole L → (c f j : ℕ) → c < length L.sequences → j < column_count
      → column_possible (with_list L ms) j c f ≡ column_possible L j c f
  possible_kept whole c f j lt below =
      both_ways (column_possible (with_list L ms) j c f) (column_possible L j c f)
      (λ e. occurs_possible L f c j (occurs_fewer whole f c j lt below (possible_occurs (with_list L ms) f c j e)))
      (λ e. occurs_possible (with_list L ms) f c j (occurs_more f c j below (possible_occurs L f c j e)))

-- the entries of a list of sequences name only them
list_below_lem : (n : ℕ) (ms : List ℕ) → All (λ (m : ℕ). m < n) ms → All (CallsBelow n) (map call ms)
list_below_lem n [] each = tt
list_below_lem n (m ∷ ms) each = (each.0, list_below_lem n ms each.1)

module _ (L : Library) (ms : List ℕ) (f : ℕ) where
  abbrev L⁺ : Library
  L⁺ = with_list L ms

  abbrev C : ℕ
  C = added_to L

  -- the rows that were there, and in the added sequence's place the list read by them
  abbrev list_row : Row
  list_row = read_row L f (possible_rows L f) (map call ms)

  abbrev rows_with : ℕ → Row
  rows_with c = cond (eqb c C) list_row (possible_rows L f c)

  row_kept : (c : ℕ) → c < C → rows_with c ≡ possible_rows L f c
  row_kept c lt = ap (λ (b : Bool). cond b list_row (possible_rows L f c)) (ne_eqb c C (λ e. absurd (omega arith)))

  row_added_lem : rows_with C ≡ list_row
  row_added_lem = ap (λ (b : Bool). cond b list_row (possible_rows L f C)) (eq-eqb C C refl)

  -- entries that name only what was there are read as before
  abbrev Alike : (ℕ → Row) → Type 0
  Alike B = (c : ℕ) → c < C → B c ≡ possible_rows L f c

  entry_kept : (B : ℕ → Row) → Alike B → (e : Entry) → CallsBelow C e → entry_row L⁺ f B e ≡ entry_row L f (possible_rows L f) e
  entry_kept B same (item (step a)) below = refl
  entry_kept B same (item (check g)) below = refl
  entry_kept B same (call c) below = same c below

  fold_kept : (B : ℕ → Row) → Alike B → (X : Row) (es : List Entry) → All (CallsBelow C) es
      → fold_row L⁺ f B X es ≡ fold_row L f (possible_rows L f) X es
  unfolding fold_row
  fold_kept B same X [] below = refl
  fold_kept B same X (e ∷ es) below =
      ap (λ (r : Row). fold_row L⁺ f B (join_row X r) es) (entry_kept B same e below.0)
      ∙ fold_kept B same (join_row X (entry_row L f (possible_rows L f) e)) es below.1

  read_kept : (B : ℕ → Row) → Alike B → (es : List Entry) → All (CallsBelow C) es → read_row L⁺ f B es ≡ read_row L f (possible_rows L f) es
  read_kept B same es below = ap {B = Row} (λ r j. r 0 && r j) (fold_kept B same start_row es below)

  -- the rows that were there are good with the sequence added
  kept_good : GoodRows L⁺ f (possible_rows L f)
  kept_good c =
      let g = possible_good L f c in
      record { sound = λ j lt e. occurs_more L ms f c j lt (g.sound j lt e); live = g.live; empty = g.empty }

  module _ (members : All (λ (m : ℕ). m < C) ms) where
    -- and so is the list's row
    list_read : (B : ℕ → Row) → Alike B → (i : ℕ) → i < length (alternatives_of L⁺.sequences C)
        → read_row L⁺ f B (alternative_of L⁺.sequences C i) ≡ list_row
    list_read B same i lt = ap (read_row L⁺ f B) (alternative_added L ms i lt) ∙ read_kept B same (map call ms) (list_below_lem C ms members)

    list_good : GoodRow L⁺ f C list_row
    list_good =
        let lt = subst (λ a. 0 < length a) (sym (alternatives_added L ms)) (omega arith) in
        subst (GoodRow L⁺ f C) (list_read (possible_rows L f) (λ c below. refl) 0 lt) (read_good L⁺ f (possible_rows L f) kept_good C 0 lt)

    rows_good : GoodRows L⁺ f rows_with
    rows_good c = go (eqb c C) refl
      where
        go : (b : Bool) → eqb c C ≡ b → GoodRow L⁺ f c (cond b list_row (possible_rows L f c))
        go true e = subst (λ d. GoodRow L⁺ f d list_row) (sym (eqb-true c C e)) list_good
        go false e = kept_good c

    -- reading adds nothing to the rows that were there, nor to the list's
    kept_closed : Whole L → (c i : ℕ) → c < C → i < length (alternatives_of L⁺.sequences c)
        → Covers L⁺ f rows_with c (alternative_of L⁺.sequences c i)
    kept_closed whole c i below lt j column e =
        let kept = alternatives_kept L ms c below in
        let same = read_kept rows_with row_kept (alternative_of L.sequences c i) (whole_below L whole c i) in
        ap (λ (r : Row). r j) (row_kept c below)
        ∙ possible_full L f c i (subst (λ a. i < length a) kept lt) j column
        (ap (λ (r : Row). r j) (sym same) ∙ subst (λ a. read_row L⁺ f rows_with (get_or a i []) j ≡ true) kept e)

    added_closed : (i : ℕ) → i < length (alternatives_of L⁺.sequences C) → Covers L⁺ f rows_with C (alternative_of L⁺.sequences C i)
    added_closed i lt j column e = ap (λ (r : Row). r j) (row_added_lem ∙ sym (list_read rows_with row_kept i lt)) ∙ e

    rows_closed : Whole L → ClosedRows L⁺ f rows_with
    rows_closed whole c i lt = go (dec_lt c C)
      where
        go : Dec (c < C) → Covers L⁺ f rows_with c (alternative_of L⁺.sequences c i)
        go (yes below) = kept_closed whole c i below lt
        go (no beyond) =
            let n = alternative_below L⁺.sequences c i lt in
            let last : c ≡ C = omega (arith, length-append L.sequences ((map call ms ∷ []) ∷ [])) in
            subst (λ d. i < length (alternatives_of L⁺.sequences d) → Covers L⁺ f rows_with d (alternative_of L⁺.sequences d i)) (sym last)
            (added_closed i) lt

-- the row of the added sequence is the list read by the rows that were there
pub possible_added : (L : Library) (ms : List ℕ) → Whole L → All (λ (m : ℕ). m < length L.sequences) ms → (f j : ℕ) → j < column_count
    → column_possible (with_list L ms) j (length L.sequences) f ≡ read_row L f (λ d k. column_possible L k d f) (map call ms) j
possible_added L ms whole members f j column =
    sym (rows_possible (with_list L ms) f (rows_with L ms f) (rows_good L ms f members) (rows_closed L ms f members whole) j column (added_to L))
    ∙ ap (λ (r : Row). r j) (row_added_lem L ms f)
