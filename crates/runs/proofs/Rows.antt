-- The columns worked out together: reading adds to good rows only what keeps them good, and good rows to which reading adds
-- nothing are what is possible.
-- It has: the cases of a column once (`by_column`); good rows (`none_good`, `or_good`, `read_good`); `rows_possible`; and what joins and folds agree on
-- (`join_agree`, `fold_agree`).
use Prim.Native.Nat.{ℕ, ◌<◌}
use mathlib.Core.Path.{◌≡◌, refl, sym, ◌∙◌, ap, ap₂, subst, fun_ext}
use mathlib.Core.Logic.{⊎_elim}
use mathlib.Core.Bool.{Bool, true, false, cond, ◌&&◌, ◌||◌, false≢true, and-true, and_assoc, and_self}
use mathlib.Core.List.{List, [], ◌∷◌}
use native.Mathlib.Omega.{arith}
use lib.ListN.{length}
use borrow.Author.Count.{below_none, below_more}
use Rattle.library.specs.Library.{has, Library, Entry, item, call, Item}
use Rattle.general.specs.Tests.{some}
use Rattle.general.proofs.Bools.{and_parts, and_both, and_implied, or_cases, or_left, or_right}
use Rattle.runs.specs.Domain.{action_of}
use Rattle.runs.specs.Run.{alternatives_of, alternative_of}
use Rattle.runs.specs.Touch.{Mark, present, absent, untouched, Side, last, first, item_touch}
use Rattle.runs.specs.View.{standing, view_mark}
use Rattle.runs.specs.Algebra.{outcome, side_algebra, any_algebra, empty_algebra, same_mark}
use Rattle.runs.specs.Possible.{Table, Column, column_of, column_count, run_column, empty_column, question_column, column_possible, column_has}
use Rattle.runs.specs.Possible.{is_check, can, possible}
use Rattle.runs.specs.Table.{whole, no_item, Occurs, Sound, Closed}
use Rattle.runs.specs.Reading.{entry_outcomes}
use Rattle.runs.specs.Rows.{Row, row_of, column_number, cleared_column, unmentioned_column, row_side, join_sets, join_row, start_row, item_row}
use Rattle.runs.specs.Rows.{touch_row, entry_row, fold_row, read_row, OccursIn, GoodRow, GoodRows, ClosedRows}
use Rattle.general.proofs.Tests.{some_or}
use Rattle.runs.proofs.Possible.{look_place, look_sound, alternative_sound, possible_sound, possible_iff, table_possible}
use Rattle.runs.proofs.Reading.{all_run, all_empty, read_sets, side_outcomes, side_can, side_live, run_can, empty_can}
use Rattle.runs.proofs.Standing.{cleared_reached, unmentioned_reached, cleared_covered, unmentioned_covered}

-- what holds of the run column, of the empty run column, of each side's columns and of the two of what stands holds of all
pub by_column : (P : ℕ → Type 0) → P 0 → P 1 → ((s : Side) (m : Mark) → P (column_number s m)) → P cleared_column → P unmentioned_column
    → (j : ℕ) → j < column_count → P j
by_column P run empty side cleared unmentioned =
    let flags = below_more P 1 (below_more P 0 (below_none P) run) empty in
    let lasts = below_more P 4 (below_more P 3 (below_more P 2 flags (side last present)) (side last absent)) (side last untouched) in
    let firsts = below_more P 7 (below_more P 6 (below_more P 5 lasts (side first present)) (side first absent)) (side first untouched) in
    below_more P 9 (below_more P 8 firsts cleared) unmentioned

-- a side's column
pub side_column : (s : Side) (m : Mark) → column_of (column_number s m) ≡ question_column (record { side = s; mark = m })
side_column last present = refl
side_column last absent = refl
side_column last untouched = refl
side_column first present = refl
side_column first absent = refl
side_column first untouched = refl

row_of_side : (run empty : Bool) (X : Side → Mark → Bool) (cleared unmentioned : Bool) (s : Side) (m : Mark)
    → row_of run empty X cleared unmentioned (column_number s m) ≡ X s m
row_of_side run empty X cleared unmentioned last present = refl
row_of_side run empty X cleared unmentioned last absent = refl
row_of_side run empty X cleared unmentioned last untouched = refl
row_of_side run empty X cleared unmentioned first present = refl
row_of_side run empty X cleared unmentioned first absent = refl
row_of_side run empty X cleared unmentioned first untouched = refl

-- an outcome that occurs on a side occurs in its column
module _ (L : Library) (f c : ℕ) where
  OccursColumn : Column → Type 0
  OccursColumn K = Occurs L.sequences K.algebra (K.marking L f) c K.asked

  occurs_side : (s : Side) (m : Mark) → OccursIn L f c (column_number s m) → Occurs L.sequences (side_algebra s) (item_touch L s f) c m
  unfolding OccursColumn
  occurs_side s m o = subst OccursColumn (side_column s m) o

  side_occurs : (s : Side) (m : Mark) → Occurs L.sequences (side_algebra s) (item_touch L s f) c m → OccursIn L f c (column_number s m)
  unfolding OccursColumn
  side_occurs s m o = subst OccursColumn (sym (side_column s m)) o

pub column_number_below : (s : Side) (m : Mark) → column_number s m < column_count
column_number_below last present = omega arith
column_number_below last absent = omega arith
column_number_below last untouched = omega arith
column_number_below first present = omega arith
column_number_below first absent = omega arith
column_number_below first untouched = omega arith

-- the row of an item, by its facts
abbrev marked : Bool → Bool → Bool → Side → Mark
marked needs sets clears last = cond sets present (cond clears absent untouched)
marked needs sets clears first = cond needs present (cond sets absent untouched)

abbrev stood : Bool → Bool → Bool → Mark
stood needs sets clears = cond clears absent (cond (sets || needs) present untouched)

touch_row_lem : (check needs sets clears : Bool) (j : ℕ)
    → row_of true check (λ s m. same_mark (marked needs sets clears s) m) (same_mark (stood needs sets clears) absent) (same_mark (stood needs sets clears) untouched) j
    ≡ touch_row check needs sets clears j
touch_row_lem check true true true j = refl
touch_row_lem check true true false j = refl
touch_row_lem check true false true j = refl
touch_row_lem check true false false j = refl
touch_row_lem check false true true j = refl
touch_row_lem check false true false j = refl
touch_row_lem check false false true j = refl
touch_row_lem check false false false j = refl

pub item_row_touch : (L : Library) (f : ℕ) (a : Item) (j : ℕ)
    → item_row L f a j ≡ touch_row (is_check a) (has f (action_of L a).needs) (has f (action_of L a).sets) (has f (action_of L a).clears) j
item_row_touch L f a j = touch_row_lem (is_check a) (has f (action_of L a).needs) (has f (action_of L a).sets) (has f (action_of L a).clears) j

-- a side of two rows joined
join_side : (X Y : Row) (s : Side) (m : Mark) → join_row X Y (column_number s m) ≡ join_sets s (row_side s X) (row_side s Y) m
join_side X Y s m =
    row_of_side (X 0 && Y 0) (X 1 && Y 1) (λ s' n. join_sets s' (row_side s' X) (row_side s' Y) n)
    (X cleared_column && Y unmentioned_column || Y cleared_column) (X unmentioned_column && Y unmentioned_column) s m

-- a blank row is good, and so is one with the columns of two
pub none_good : (L : Library) (f c : ℕ) → GoodRow L f c (λ j. false)
unfolding some
none_good L f c = record { sound = λ j lt e. absurd (false≢true e); live = λ s. refl; empty = λ e. e }

pub or_good : (L : Library) (f c : ℕ) (r r' : Row) → GoodRow L f c r → GoodRow L f c r' → GoodRow L f c (λ j. r j || r' j)
or_good L f c r r' g g' =
    record {
      sound = λ j lt e. ⊎_elim (g.sound j lt) (g'.sound j lt) (or_cases (r j) (r' j) e);
      live = λ s. some_or (row_side s r) (row_side s r') (side_algebra s).all ∙ ap₂ ◌||◌ (g.live s) (g'.live s);
      empty = λ e. ⊎_elim (λ p. or_left (r 0) (r' 0) (g.empty p)) (λ p. or_right (r 0) (r' 0) (g'.empty p)) (or_cases (r 1) (r' 1) e);
    }

module _ (L : Library) (f : ℕ) (B : ℕ → Row) where
  -- what the columns make of the entries: a run, an empty run, a side
  fold_run : (X : Row) (es : List Entry) → fold_row L f B X es 0 ≡ (X 0 && all_run (λ d. B d 0) es)
  unfolding fold_row all_run
  fold_run X [] = sym (and-true (X 0))
  fold_run X (item a ∷ es) = fold_run (join_row X (item_row L f a)) es ∙ rw (and-true (X 0))
  fold_run X (call c ∷ es) = fold_run (join_row X (B c)) es ∙ and_assoc (X 0) (B c 0) (all_run (λ d. B d 0) es)

  fold_empty : (X : Row) (es : List Entry) → fold_row L f B X es 1 ≡ (X 1 && all_empty (λ d. B d 1) es)
  unfolding fold_row all_empty
  fold_empty X [] = sym (and-true (X 1))
  fold_empty X (item a ∷ es) = fold_empty (join_row X (item_row L f a)) es ∙ and_assoc (X 1) (is_check a) (all_empty (λ d. B d 1) es)
  fold_empty X (call c ∷ es) = fold_empty (join_row X (B c)) es ∙ and_assoc (X 1) (B c 1) (all_empty (λ d. B d 1) es)

  abbrev side_table : (s : Side) → Table (side_algebra s)
  side_table s c m = row_side s (B c) m

  entry_side : (s : Side) (e : Entry) → row_side s (entry_row L f B e) ≡ entry_outcomes (side_algebra s) (item_touch L s f) (side_table s) e
  entry_side s (item a) =
      fun_ext
      (λ m. row_of_side true (is_check a) (λ s' n. same_mark (item_touch L s' f a) n) (same_mark (view_mark L standing f a) absent)
      (same_mark (view_mark L standing f a) untouched) s m)
  entry_side s (call c) = refl

  fold_side : (s : Side) (X : Row) (es : List Entry) (m : Mark)
      → fold_row L f B X es (column_number s m) ≡ read_sets s (item_touch L s f) (side_table s) (row_side s X) es m
  unfolding fold_row read_sets
  fold_side s X [] m = refl
  fold_side s X (e ∷ es) m =
      let Y = entry_row L f B e in
      fold_side s (join_row X Y) es m
      ∙ ap (λ Z. read_sets s (item_touch L s f) (side_table s) Z es m)
      (fun_ext (λ n. join_side X Y s n)
      ∙ ap (join_sets s (row_side s X)) (entry_side s e))

  read_run : (es : List Entry) → read_row L f B es 0 ≡ all_run (λ d. B d 0) es
  read_run es = and_self (fold_row L f B start_row es 0) ∙ fold_run start_row es

  read_side : (s : Side) (es : List Entry) (m : Mark)
      → read_row L f B es (column_number s m) ≡ side_outcomes s (item_touch L s f) (λ d. B d 0) (side_table s) es m
  read_side s es m =
      ap₂ ◌&&◌ (fold_run start_row es)
      (fold_side s start_row es m
      ∙ ap (λ Z. read_sets s (item_touch L s f) (side_table s) Z es m) (fun_ext (λ n. row_of_side true true (λ s' n'. same_mark untouched n') false true s n)))

  module _ (good : GoodRows L f B) where
    empty_runs : (es : List Entry) → all_empty (λ d. B d 1) es ≡ true → all_run (λ d. B d 0) es ≡ true
    unfolding all_empty all_run
    empty_runs [] e = refl
    empty_runs (item a ∷ es) e = empty_runs es (and_parts (is_check a) (all_empty (λ d. B d 1) es) e).1
    empty_runs (call c ∷ es) e =
        let p = and_parts (B c 1) (all_empty (λ d. B d 1) es) e in
        and_both (B c 0) (all_run (λ d. B d 0) es) ((good c).empty p.0) (empty_runs es p.1)

    read_empty : (es : List Entry) → read_row L f B es 1 ≡ all_empty (λ d. B d 1) es
    read_empty es =
        ap₂ ◌&&◌ (fold_run start_row es) (fold_empty start_row es) ∙ and_implied (all_run (λ d. B d 0) es) (all_empty (λ d. B d 1) es) (empty_runs es)

    -- what an alternative can have is its row
    can_run_lem : (es : List Entry) → can any_algebra (run_column.marking L f) (λ c m. B c 0) es tt tt ≡ read_row L f B es 0
    can_run_lem es = run_can (run_column.marking L f) (λ d. B d 0) es ∙ sym (read_run es)

    can_empty : (es : List Entry) → can empty_algebra (empty_column.marking L f) (λ c b. B c 1) es true true ≡ read_row L f B es 1
    can_empty es = empty_can (λ d. B d 1) es ∙ sym (read_empty es)

    can_side : (s : Side) (es : List Entry) (m : Mark)
        → can (side_algebra s) (item_touch L s f) (side_table s) es untouched m ≡ read_row L f B es (column_number s m)
    can_side s es m = side_can s (item_touch L s f) (λ d. B d 0) (side_table s) (λ c. (good c).live s) es m ∙ sym (read_side s es m)

    -- good rows are sound tables
    run_sound : Sound L.sequences any_algebra (run_column.marking L f) (whole any_algebra) (λ c m. B c 0)
    run_sound c m h e = (good c).sound 0 (omega arith) e

    empty_sound : Sound L.sequences empty_algebra (empty_column.marking L f) no_item (λ c b. B c 1)
    empty_sound c m h e = subst (Occurs L.sequences empty_algebra (empty_column.marking L f) c) (sym h) ((good c).sound 1 (omega arith) e)

    side_sound : (s : Side) → Sound L.sequences (side_algebra s) (item_touch L s f) (whole (side_algebra s)) (side_table s)
    side_sound s c m h e = occurs_side L f c s m ((good c).sound (column_number s m) (column_number_below s m) e)

    -- what is possible of what stands has what the rows have
    abbrev stands_possible : Table (side_algebra last)
    stands_possible = possible L.sequences (side_algebra last) (view_mark L standing f)

    stands_occurs : (c : ℕ) (m : Mark) → Occurs L.sequences (side_algebra last) (view_mark L standing f) c m → stands_possible c m ≡ true
    stands_occurs c m o = (possible_iff L.sequences (side_algebra last) (view_mark L standing f) c m).1 o

    has_outcome : (c : ℕ) → B c 0 ≡ true → (m : Mark) × (stands_possible c m ≡ true)
    has_outcome c e =
        let o = (good c).sound 0 (omega arith) e in
        let m = outcome (side_algebra last) (view_mark L standing f) o.0 in
        (m, stands_occurs c m (o.0, o.1, refl))

    has_cleared : (c : ℕ) → B c cleared_column ≡ true → stands_possible c absent ≡ true
    has_cleared c e = stands_occurs c absent ((good c).sound cleared_column (omega arith) e)

    has_unmentioned : (c : ℕ) → B c unmentioned_column ≡ true → stands_possible c untouched ≡ true
    has_unmentioned c e = stands_occurs c untouched ((good c).sound unmentioned_column (omega arith) e)

    stands_sound : (c i : ℕ) (m : Mark) → i < length (alternatives_of L.sequences c)
        → can (side_algebra last) (view_mark L standing f) stands_possible (alternative_of L.sequences c i) untouched m ≡ true
        → Occurs L.sequences (side_algebra last) (view_mark L standing f) c m
    stands_sound c i m lt e =
        alternative_sound L.sequences (side_algebra last) (view_mark L standing f) (whole (side_algebra last)) stands_possible
        (possible_sound L.sequences (side_algebra last) (view_mark L standing f)) c i m tt lt e

    -- the row of an alternative of a sequence is good
    pub read_good : (c i : ℕ) → i < length (alternatives_of L.sequences c) → GoodRow L f c (read_row L f B (alternative_of L.sequences c i))
    read_good c i lt =
        let es = alternative_of L.sequences c i in
        record {
          sound = by_column (λ j. read_row L f B es j ≡ true → OccursIn L f c j)
              (λ e. alternative_sound L.sequences any_algebra (run_column.marking L f) (whole any_algebra) (λ d m. B d 0) run_sound c i tt tt lt
              (can_run_lem es ∙ e))
              (λ e. alternative_sound L.sequences empty_algebra (empty_column.marking L f) no_item (λ d b. B d 1) empty_sound c i true refl lt
              (can_empty es ∙ e))
              (λ s m e. side_occurs L f c s m
              (alternative_sound L.sequences (side_algebra s) (item_touch L s f) (whole (side_algebra s)) (side_table s) (side_sound s) c i m tt lt
              (can_side s es m ∙ e)))
              (λ e. stands_sound c i absent lt (cleared_reached L f B stands_possible has_outcome has_cleared has_unmentioned es e))
              (λ e. stands_sound c i untouched lt (unmentioned_reached L f B stands_possible has_outcome has_cleared has_unmentioned es e));
          live = λ s.
              ap (λ X. some X (side_algebra s).all) (fun_ext (read_side s es))
              ∙ (side_live s (item_touch L s f) (λ d. B d 0) (side_table s) (λ d. (good d).live s) es ∙ sym (read_run es));
          empty = λ e.
              let p = and_parts (fold_row L f B start_row es 0) (fold_row L f B start_row es 1) e in
              and_both (fold_row L f B start_row es 0) (fold_row L f B start_row es 0) p.0 p.0;
        }

    -- the rows' two columns of what stands, with what is possible for the third outcome
    abbrev stands_table : Table (side_algebra last)
    stands_table c present = stands_possible c present
    stands_table c absent = B c cleared_column
    stands_table c untouched = B c unmentioned_column

    -- good rows to which reading adds nothing are what is possible
    pub rows_possible : ClosedRows L f B → (j : ℕ) → j < column_count → (c : ℕ) → B c j ≡ column_possible L j c f
    rows_possible closed =
        by_column (λ j. (c : ℕ) → B c j ≡ column_possible L j c f)
        run_right
        (λ c. table_possible L.sequences empty_algebra (empty_column.marking L f) no_item (λ d b. B d 1) empty_sound empty_closed c true refl)
        (λ s m c.
        table_possible L.sequences (side_algebra s) (item_touch L s f) (whole (side_algebra s)) (side_table s) (side_sound s) (side_closed s) c m tt
        ∙ ap (λ K. column_has K L c f) (sym (side_column s m)))
        (λ c. stands_right c absent)
        (λ c. stands_right c untouched)
      where
        run_closed : Closed L.sequences any_algebra (run_column.marking L f) (whole any_algebra) (λ c m. B c 0)
        run_closed c m h e =
            let p = look_place L.sequences any_algebra (run_column.marking L f) (λ d n. B d 0) c m e in
            closed c p.0 p.1 0 (omega arith) (sym (can_run_lem (alternative_of L.sequences c p.0)) ∙ p.2)

        run_right : (c : ℕ) → B c 0 ≡ column_possible L 0 c f
        run_right c = table_possible L.sequences any_algebra (run_column.marking L f) (whole any_algebra) (λ d m. B d 0) run_sound run_closed c tt tt

        empty_closed : Closed L.sequences empty_algebra (empty_column.marking L f) no_item (λ c b. B c 1)
        empty_closed c m h e =
            let p = look_place L.sequences empty_algebra (empty_column.marking L f) (λ d b. B d 1) c m e in
            closed c p.0 p.1 1 (omega arith)
            (sym (can_empty (alternative_of L.sequences c p.0))
            ∙ subst (λ b. can empty_algebra (empty_column.marking L f) (λ d n. B d 1) (alternative_of L.sequences c p.0) true b ≡ true) h p.2)

        side_closed : (s : Side) → Closed L.sequences (side_algebra s) (item_touch L s f) (whole (side_algebra s)) (side_table s)
        side_closed s c m h e =
            let p = look_place L.sequences (side_algebra s) (item_touch L s f) (side_table s) c m e in
            closed c p.0 p.1 (column_number s m) (column_number_below s m) (sym (can_side s (alternative_of L.sequences c p.0) m) ∙ p.2)

        table_sound : Sound L.sequences (side_algebra last) (view_mark L standing f) (whole (side_algebra last)) stands_table
        table_sound c present h e = (possible_iff L.sequences (side_algebra last) (view_mark L standing f) c present).0 e
        table_sound c absent h e = (good c).sound cleared_column (omega arith) e
        table_sound c untouched h e = (good c).sound unmentioned_column (omega arith) e

        has_run_lem : (c : ℕ) (m : Mark) → stands_table c m ≡ true → B c 0 ≡ true
        has_run_lem c m e =
            let o = table_sound c m tt e in
            run_right c ∙ (possible_iff L.sequences any_algebra (run_column.marking L f) c tt).1 (o.0, o.1, refl)

        table_closed : Closed L.sequences (side_algebra last) (view_mark L standing f) (whole (side_algebra last)) stands_table
        table_closed c present h e =
            stands_occurs c present
            (look_sound L.sequences (side_algebra last) (view_mark L standing f) (whole (side_algebra last)) stands_table table_sound c present tt e)
        table_closed c absent h e =
            let p = look_place L.sequences (side_algebra last) (view_mark L standing f) stands_table c absent e in
            closed c p.0 p.1 cleared_column (omega arith)
            (cleared_covered L f B stands_table has_run_lem (λ d q. q) (λ d q. q) (alternative_of L.sequences c p.0) p.2)
        table_closed c untouched h e =
            let p = look_place L.sequences (side_algebra last) (view_mark L standing f) stands_table c untouched e in
            closed c p.0 p.1 unmentioned_column (omega arith)
            (unmentioned_covered L f B stands_table has_run_lem (λ d q. q) (λ d q. q) (alternative_of L.sequences c p.0) p.2)

        stands_right : (c : ℕ) (m : Mark) → stands_table c m ≡ stands_possible c m
        stands_right c m =
            table_possible L.sequences (side_algebra last) (view_mark L standing f) (whole (side_algebra last)) stands_table table_sound table_closed c m tt

-- rows that agree in all columns are joined and read on alike
pub join_agree : (X X' Y Y' : Row) → ((j : ℕ) → j < column_count → X j ≡ X' j) → ((j : ℕ) → j < column_count → Y j ≡ Y' j) → (j : ℕ) → j < column_count
    → join_row X Y j ≡ join_row X' Y' j
join_agree X X' Y Y' p q =
    by_column (λ j. join_row X Y j ≡ join_row X' Y' j) (ap₂ ◌&&◌ (p 0 (omega arith)) (q 0 (omega arith)))
    (ap₂ ◌&&◌ (p 1 (omega arith)) (q 1 (omega arith)))
    (λ s m. join_side X Y s m ∙ (ap₂ (λ Z W. join_sets s Z W m) (alike p s) (alike q s) ∙ sym (join_side X' Y' s m)))
    (ap₂ ◌||◌ (ap₂ ◌&&◌ (p 8 (omega arith)) (q 9 (omega arith))) (q 8 (omega arith)))
    (ap₂ ◌&&◌ (p 9 (omega arith)) (q 9 (omega arith)))
  where
    alike : {Z Z' : Row} → ((j : ℕ) → j < column_count → Z j ≡ Z' j) → (s : Side) → row_side s Z ≡ row_side s Z'
    alike r s = fun_ext (λ m. r (column_number s m) (column_number_below s m))

pub fold_agree : (L : Library) (f : ℕ) (B : ℕ → Row) (es : List Entry) (X X' : Row) → ((j : ℕ) → j < column_count → X j ≡ X' j)
    → (j : ℕ) → j < column_count → fold_row L f B X es j ≡ fold_row L f B X' es j
unfolding fold_row
fold_agree L f B [] X X' agree = agree
fold_agree L f B (e ∷ es) X X' agree =
    fold_agree L f B es (join_row X (entry_row L f B e)) (join_row X' (entry_row L f B e))
    (join_agree X X' (entry_row L f B e) (entry_row L f B e) agree (λ j lt. refl))

-- where what stands before has no run, nothing has one with it
pub fold_dead : (L : Library) (f : ℕ) (B : ℕ → Row) (X : Row) (es : List Entry) → X 0 ≡ false → fold_row L f B X es 0 ≡ false
fold_dead L f B X es none = fold_run L f B X es ∙ ap (λ (b : Bool). b && all_run (λ d. B d 0) es) none
