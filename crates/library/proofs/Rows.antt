-- The tables of masks and places, written from the last word to the first: what holds at the head of the loop, and a turn of each kind.
-- It has: `MasksAt` with its start, a fact word, a step's opener and the end; `PlacesAt` with its start, words passed by, a sequence's opener
-- and the end. What a table says at an index is in Lookup.
-- Assumes nothing.
use Prim.Native.Nat.{ℕ, zero, suc, ◌+◌, ◌*◌, ◌-◌, ◌≤◌, ◌<◌}
use native.Mathlib.Nat.{suc-add, le_of_suc-le-suc}
use native.Mathlib.Numerals.{add-one}
use native.Mathlib.Omega.{arith}
use mathlib.Core.Path.{◌≡◌, refl, sym, ap, ap₂, ◌∙◌, subst}
use mathlib.Core.Bool.{Bool, true, false, cond}
use mathlib.Core.List.{List, [], ◌∷◌, ◌++◌}
use lib.ListN.{length, get_or, take, drop, set, take-append-drop, length-set}
use lib.Seq.{drop-cons, drop-length, take-length, take-suc}
use borrow.Author.Tests.{eqb-false}
use mir.Val.{bool_byte}
use Rattle.column.specs.Words.{with_fact_in}
use Rattle.column.proofs.Words.{column_with_in}
use Rattle.image.specs.Word.{kind, payload, is_kind}
use Rattle.rules.specs.Rules.{opened}
use Rattle.library.specs.Library.{has, Step, facts_from, steps_from}
use Rattle.library.specs.Seam.{NoneOpens}
use Rattle.general.specs.Tests.{All}
use Rattle.library.specs.Accepted.{StepWord}
use Rattle.library.specs.Tables.{mask_words, mask_of, masks, places_from, masks_from, with_word, with_row, NoPlaces, LastPlace, StepsAsked, SequencesAsked}
use Rattle.image.specs.declared.answer.Head.{Head}
use Rattle.library.specs.declared.tables.Masks.{Masks}
use Rattle.library.proofs.Decode.{kind_is, steps_open, steps_skip, facts_here, facts_other, facts_end}
use Rattle.library.proofs.Lookup.{mask_none}
use Rattle.library.proofs.Back.{last_length, last_within, last_word, last_left}
use Rattle.rules.proofs.Checked.{opened_snoc}

-- ---- lists

pub all_at : {A : Type 0} (P : A → Type 0) (xs : List A) → All P xs → (d : A) (i : ℕ) → i < length xs → P (get_or xs i d)
all_at P [] a d i l = absurd (omega arith)
all_at P (x ∷ xs) a d zero l = a.0
all_at P (x ∷ xs) a d (suc i) l = all_at P xs a.1 d i (le_of_suc-le-suc l)

-- a store at the seam takes the place of the element before it
put_one : (t r : List ℕ) (j v : ℕ) → j < length t → set (take (j + 1) t ++ r) j v ≡ take j t ++ (v ∷ r)
put_one [] r j v l = absurd (omega arith)
put_one (x ∷ t) r zero v l = refl
put_one (x ∷ t) r (suc j) v l = rw (suc-add j 1) (ap (λ (y : List ℕ). x ∷ y) (put_one t r j v (le_of_suc-le-suc l)))

put_row : (t r : List ℕ) (j : ℕ) (m : Masks) → j + 3 ≤ length t
    → with_row (take (j + 3) t ++ r) j m ≡ take j t ++ (m.needs ∷ m.sets ∷ m.clears ∷ r)
put_row [] r j m l = absurd (omega arith)
put_row (x ∷ []) r zero m l = absurd (omega arith)
put_row (x ∷ y ∷ []) r zero m l = absurd (omega arith)
put_row (x ∷ y ∷ z ∷ t) r zero m l = refl
put_row (x ∷ t) r (suc j) m l = rw (suc-add j 3, suc-add j 1, suc-add j 2) (ap (λ (y : List ℕ). x ∷ y) (put_row t r j m (omega arith)))

-- ---- openers up to a word

opened_take : (k j : ℕ) (ws : List ℕ) → j < length ws → opened k (take (suc j) ws) ≡ opened k (take j ws) + bool_byte (is_kind k (get_or ws j 0))
opened_take k j ws l = ap (opened k) (take-suc ws j 0 l) ∙ opened_snoc k (get_or ws j 0) (take j ws)

opened_append : (k : ℕ) (xs ys : List ℕ) → opened k (xs ++ ys) ≡ opened k xs + opened k ys
unfolding opened
opened_append k [] ys = omega arith
opened_append k (x ∷ xs) ys = omega (arith, opened_append k xs ys)

opened_within : (k j : ℕ) (ws : List ℕ) → opened k (take j ws) ≤ opened k ws
opened_within k j ws = omega (arith, opened_append k (take j ws) (drop j ws), ap (opened k) (take-append-drop j ws))

-- ---- masks

mask_cons : (n f : ℕ) (fs : List ℕ) → with_fact_in n (mask_of n fs) f ≡ mask_of n (f ∷ fs)
unfolding mask_of has
mask_cons n f fs = column_with_in n f (λ (g : ℕ). has g fs)

-- no fact stands from an opener to the step's end, since there the step before it ends
mask_opener : (n k w : ℕ) (ws : List ℕ) → kind w ≡ 5 → 0 ≡ mask_of n (facts_from k (w ∷ ws))
mask_opener n k w ws e = sym (ap (mask_of n) (facts_end k w ws e) ∙ mask_none n)

masks_opener : (n w : ℕ) (ws : List ℕ) → kind w ≡ 5 → record { needs = 0; sets = 0; clears = 0 } ≡ masks_from n (w ∷ ws)
masks_opener n w ws e i = record { needs = mask_opener n 2 w ws e i; sets = mask_opener n 3 w ws e i; clears = mask_opener n 4 w ws e i }

-- a fact word adds its fact to the mask of its kind, and to no other
module _ (n w : ℕ) (ws : List ℕ) (l : 2 ≤ kind w) (u : kind w ≤ 4) where
  mask_here : (k : ℕ) → 2 ≤ k → k ≤ 4 → kind w ≡ k → with_fact_in n (mask_of n (facts_from k ws)) (payload w) ≡ mask_of n (facts_from k (w ∷ ws))
  mask_here k low high e = mask_cons n (payload w) (facts_from k ws) ∙ ap (mask_of n) (sym (facts_here k w ws low high e))

  mask_other : (k : ℕ) → (kind w ≡ k → ⊥) → mask_of n (facts_from k ws) ≡ mask_of n (facts_from k (w ∷ ws))
  mask_other k d = ap (mask_of n) (sym (facts_other k w ws l u d))

  masks_word : with_word n (masks_from n ws) w ≡ masks_from n (w ∷ ws)
  masks_word = go (is_kind 2 w) (is_kind 3 w) refl refl
    where
      m : Masks
      m = masks_from n ws

      go : (a b : Bool) → is_kind 2 w ≡ a → is_kind 3 w ≡ b
          → cond a (record { needs = with_fact_in n m.needs (payload w); sets = m.sets; clears = m.clears })
          (cond b (record { needs = m.needs; sets = with_fact_in n m.sets (payload w); clears = m.clears })
          (record { needs = m.needs; sets = m.sets; clears = with_fact_in n m.clears (payload w) }))
          ≡ masks_from n (w ∷ ws)
      go true b p q =
          let e = kind_is 2 w p in
          λ i. record { needs = mask_here 2 (omega arith) (omega arith) e i; sets = mask_other 3 (omega arith) i; clears = mask_other 4 (omega arith) i }
      go false true p q =
          let e = kind_is 3 w q in
          λ i. record { needs = mask_other 2 (omega arith) i; sets = mask_here 3 (omega arith) (omega arith) e i; clears = mask_other 4 (omega arith) i }
      go false false p q =
          let d = eqb-false (kind w) 2 p in
          let e = eqb-false (kind w) 3 q in
          λ i. record { needs = mask_other 2 d i; sets = mask_other 3 e i; clears = mask_here 4 (omega arith) (omega arith) (omega arith) i }

-- ---- the loops

-- the masks from word i on are at hand, and the rows of the steps from word i on are written
pub record MasksAt (n : ℕ) (part area₀ area : List ℕ) (m : Masks) (i : ℕ) : Type 0 where
  pub within : i ≤ length part
  pub masked : m ≡ masks_from n (drop i part)
  pub written : area ≡ take (mask_words * opened 5 (take i part)) area₀ ++ (masks n (steps_from (drop i part)) ++ drop (mask_words * opened 5 part) area₀)
  pub long : length area ≡ length area₀

module _ (n : ℕ) (part area₀ : List ℕ) where
  pub masks_start : MasksAt n part area₀ area₀ (record { needs = 0; sets = 0; clears = 0 }) (length part)
  unfolding masks steps_from facts_from
  masks_start =
      record {
        within = omega arith;
        masked = rw (drop-length part) (λ i. record { needs = sym (mask_none n) i; sets = sym (mask_none n) i; clears = sym (mask_none n) i });
        written = rw (drop-length part, take-length part) (sym (take-append-drop (mask_words * opened 5 part) area₀));
        long = refl;
      }

  module _ (h : Head) (asked : StepsAsked h part area₀) (area : List ℕ) (m : Masks) (j : ℕ) (l : j < length part) (at : MasksAt n part area₀ area m (suc j)) where
    w : ℕ
    w = get_or part j 0

    rest : List ℕ
    rest = drop (suc j) part

    cut : drop j part ≡ w ∷ rest
    unfolding w rest
    cut = drop-cons part j 0 l

    here : StepWord h w
    unfolding w
    here = all_at (StepWord h) part asked.words 0 j l

    past : opened 5 (take (suc j) part) ≡ opened 5 (take j part) + bool_byte (is_kind 5 w)
    unfolding w
    past = opened_take 5 j part l

    -- a fact word
    pub masks_fact : is_kind 5 (get_or part j 0) ≡ false → MasksAt n part area₀ area (with_word n m (get_or part j 0)) j
    unfolding w rest
    masks_fact e =
        let d = eqb-false (kind w) 5 e in
        let same : opened 5 (take (suc j) part) ≡ opened 5 (take j part) = omega (arith, past, ap bool_byte e) in
        let high : kind w ≤ 4 = omega (arith, here) in
        record {
          within = omega arith;
          masked = ap (λ (x : Masks). with_word n x w) at.masked ∙ masks_word n w rest here.low high ∙ ap (masks_from n) (sym cut);
          written =
              at.written
              ∙ ap₂ (λ (k : ℕ) (ss : List Step). take (mask_words * k) area₀ ++ (masks n ss ++ drop (mask_words * opened 5 part) area₀)) same
              (sym (ap steps_from cut ∙ steps_skip w rest d));
          long = at.long;
        }

    -- the number of the step that a word opens, and the room for its row
    number : is_kind 5 w ≡ true → (payload w ≡ opened 5 (take j part)) × (opened 5 (take (suc j) part) ≡ opened 5 (take j part) + 1) × (mask_words * opened 5 (take j part) + mask_words ≤ length area₀)
    unfolding w
    number e =
        let next : opened 5 (take (suc j) part) ≡ opened 5 (take j part) + 1 = past ∙ ap (λ (b : Bool). opened 5 (take j part) + bool_byte b) e in
        (asked.numbered j l (kind_is 5 w e), next, omega (arith, next, opened_within 5 (suc j) part, asked.opened, asked.room))

    pub row_room : is_kind 5 (get_or part j 0) ≡ true → mask_words * payload (get_or part j 0) + mask_words ≤ length area
    unfolding w
    row_room e = omega (arith, number e, at.long)

    -- an opener
    pub masks_row : is_kind 5 (get_or part j 0) ≡ true
        → MasksAt n part area₀ (with_row area (mask_words * payload (get_or part j 0)) m) (record { needs = 0; sets = 0; clears = 0 }) j
    unfolding w rest masks
    masks_row e =
        let k = opened 5 (take j part) in
        let at_step = number e in
        let later = masks n (steps_from rest) ++ drop (mask_words * opened 5 part) area₀ in
        let three : mask_words * opened 5 (take (suc j) part) ≡ mask_words * k + mask_words = omega (arith, at_step) in
        record {
          within = omega arith;
          masked = masks_opener n w rest (kind_is 5 w e) ∙ ap (masks_from n) (sym cut);
          written =
              ap₂ (λ (x : List ℕ) (p : ℕ). with_row x (mask_words * p) m) (at.written ∙ ap (λ (t : ℕ). take t area₀ ++ later) three) at_step.0
              ∙ put_row area₀ later (mask_words * k) m at_step.2
              ∙ ap (λ (x : Masks). take (mask_words * k) area₀ ++ (x.needs ∷ x.sets ∷ x.clears ∷ later)) at.masked
              ∙ ap (λ (ss : List Step). take (mask_words * k) area₀ ++ (masks n ss ++ drop (mask_words * opened 5 part) area₀)) (sym (ap steps_from cut ∙ steps_open w rest (kind_is 5 w e)));
          long = simp length-set at.long;
        }

  pub masks_end : (area : List ℕ) (m : Masks) → MasksAt n part area₀ area m 0 → area ≡ masks n (steps_from part) ++ drop (mask_words * opened 5 part) area₀
  unfolding opened
  masks_end area m at = at.written

-- the masks that `default` gives
pub no_masks : (m : Masks) → (m.needs ≡ 0) × ((m.sets ≡ 0) × (m.clears ≡ 0)) → m ≡ record { needs = 0; sets = 0; clears = 0 }
no_masks m none = λ i. record { needs = none.0 i; sets = none.1.0 i; clears = none.1.1 i }

-- the words that are left stand before those whose masks and rows are there
pub record MasksLeft (n : ℕ) (part area₀ area : List ℕ) (m : Masks) (left : List ℕ) : Type 0 where
  pub is : left ≡ take (length left) part
  pub at : MasksAt n part area₀ area m (length left)

module _ (n : ℕ) (part area₀ : List ℕ) (h : Head) (asked : StepsAsked h part area₀) where
  pub left_start : MasksLeft n part area₀ area₀ (record { needs = 0; sets = 0; clears = 0 }) part
  left_start = record { is = sym (take-length part); at = masks_start n part area₀ }

  pub left_end : (area : List ℕ) (m : Masks) (left : List ℕ) → MasksLeft n part area₀ area m left → length left ≡ 0
      → area ≡ masks n (steps_from part) ++ drop (mask_words * h.steps) area₀
  left_end area m left here none =
      masks_end n part area₀ area m (subst (MasksAt n part area₀ area m) none here.at)
      ∙ ap (λ (k : ℕ). masks n (steps_from part) ++ drop (mask_words * k) area₀) asked.opened

  module _ (area : List ℕ) (m : Masks) (left next : List ℕ) (w : ℕ) (here : MasksLeft n part area₀ area m left) (step : left ≡ next ++ w ∷ []) where
    word : get_or part (length next) 0 ≡ w
    word = last_word part left next w here.is step

    at_next : MasksAt n part area₀ area m (suc (length next))
    at_next = subst (MasksAt n part area₀ area m) (last_length part left next w here.is step) here.at

    pub left_fact : is_kind 5 w ≡ false → MasksLeft n part area₀ area (with_word n m w) next
    left_fact e =
        record {
          is = last_left part left next w here.is step;
          at =
              subst (λ (x : ℕ). MasksAt n part area₀ area (with_word n m x) (length next)) word
              (masks_fact n part area₀ h asked area m (length next) (last_within part left next w here.is step) at_next (ap (is_kind 5) word ∙ e));
        }

    pub left_room : is_kind 5 w ≡ true → mask_words * payload w + mask_words ≤ length area
    left_room e =
        subst (λ (x : ℕ). mask_words * payload x + mask_words ≤ length area) word
        (row_room n part area₀ h asked area m (length next) (last_within part left next w here.is step) at_next (ap (is_kind 5) word ∙ e))

    pub left_row : is_kind 5 w ≡ true
        → MasksLeft n part area₀ (with_row area (mask_words * payload w) m) (record { needs = 0; sets = 0; clears = 0 }) next
    left_row e =
        record {
          is = last_left part left next w here.is step;
          at =
              subst (λ (x : ℕ). MasksAt n part area₀ (with_row area (mask_words * payload x) m) (record { needs = 0; sets = 0; clears = 0 }) (length next)) word
              (masks_row n part area₀ h asked area m (length next) (last_within part left next w here.is step) at_next (ap (is_kind 5) word ∙ e));
        }

-- the places of the sequences from word i on are written
pub record PlacesAt (part area₀ area : List ℕ) (i : ℕ) : Type 0 where
  pub within : i ≤ length part
  pub written : area ≡ take (opened 6 (take i part)) area₀ ++ (places_from i (drop i part) ++ drop (opened 6 part) area₀)
  pub long : length area ≡ length area₀

places_cons : (i w : ℕ) (ws : List ℕ) (b : Bool) → is_kind 6 w ≡ b → places_from i (w ∷ ws) ≡ cond b (i ∷ places_from (suc i) ws) (places_from (suc i) ws)
unfolding places_from
places_cons i w ws b e = ap (λ (c : Bool). cond c (i ∷ places_from (suc i) ws) (places_from (suc i) ws)) e

module _ (part : List ℕ) (j : ℕ) (l : j < length part) where
  past_opener : (b : Bool) → is_kind 6 (get_or part j 0) ≡ b → opened 6 (take (suc j) part) ≡ opened 6 (take j part) + bool_byte b
  past_opener b e = opened_take 6 j part l ∙ ap (λ (c : Bool). opened 6 (take j part) + bool_byte c) e

  places_drop : (b : Bool) → is_kind 6 (get_or part j 0) ≡ b
      → places_from j (drop j part) ≡ cond b (j ∷ places_from (suc j) (drop (suc j) part)) (places_from (suc j) (drop (suc j) part))
  places_drop b e = ap (places_from j) (drop-cons part j 0 l) ∙ places_cons j (get_or part j 0) (drop (suc j) part) b e

  pub none_here : is_kind 6 (get_or part j 0) ≡ false → NoPlaces part j (suc j)
  none_here e = record { low = omega arith; opened = omega (arith, past_opener false e); places = places_drop false e }

pub none_start : (part : List ℕ) (i : ℕ) → NoPlaces part i i
none_start part i = record { low = omega arith; opened = refl; places = refl }

pub none_both : (part : List ℕ) (i k end : ℕ) → NoPlaces part i k → NoPlaces part k end → NoPlaces part i end
none_both part i k end low high =
    record { low = omega (arith, low.low, high.low); opened = low.opened ∙ high.opened; places = low.places ∙ high.places }

-- a turn of a loop that goes down
pub none_turn : (part : List ℕ) (i end : ℕ) → 0 < i → i ≤ length part → is_kind 6 (get_or part (i - 1) 0) ≡ false → NoPlaces part i end
    → NoPlaces part (i - 1) end
none_turn part i end some within e none =
    let low : suc (i - 1) ≡ i = omega arith in
    none_both part (i - 1) i end (subst (NoPlaces part (i - 1)) low (none_here part (i - 1) (omega arith) e)) none

pub none_four : (part : List ℕ) (i end : ℕ) → 4 ≤ i → i ≤ length part → NoneOpens part (i - 4) → NoPlaces part i end → NoPlaces part (i - 4) end
none_four part i end four l none after =
    let next : (j k : ℕ) → j < length part → suc j ≡ k → is_kind 6 (get_or part j 0) ≡ false → NoPlaces part k end → NoPlaces part j end
    = λ j k lt e shut. none_both part j k end (subst (NoPlaces part j) e (none_here part j lt shut)) in
    next (i - 4) (i - 4 + 1) (omega arith) (omega arith) none.first
    (next (i - 4 + 1) (i - 4 + 2) (omega arith) (omega arith) none.second
    (next (i - 4 + 2) (i - 4 + 3) (omega arith) (omega arith) none.third
    (next (i - 4 + 3) i (omega arith) (omega arith) none.fourth after)))

module _ (part area₀ : List ℕ) where
  -- words that open no sequence leave the area as it is
  pub places_pass : (area : List ℕ) (i end : ℕ) → NoPlaces part i end → PlacesAt part area₀ area end → PlacesAt part area₀ area i
  places_pass area i end none at =
      record {
        within = omega (arith, none.low, at.within);
        written =
            at.written
            ∙ ap₂ (λ (k : ℕ) (ps : List ℕ). take k area₀ ++ (ps ++ drop (opened 6 part) area₀)) (sym none.opened) (sym none.places);
        long = at.long;
      }

  pub places_start : PlacesAt part area₀ area₀ (length part)
  unfolding places_from
  places_start =
      record {
        within = omega arith;
        written = rw (drop-length part, take-length part) (sym (take-append-drop (opened 6 part) area₀));
        long = refl;
      }

  module _ (h : Head) (asked : SequencesAsked h part area₀) (area : List ℕ) (j : ℕ) (l : j < length part) (at : PlacesAt part area₀ area (suc j)) where
    place : is_kind 6 (get_or part j 0) ≡ true → (payload (get_or part j 0) ≡ opened 6 (take j part)) × (opened 6 (take j part) < length area₀)
    place e = (asked.numbered j l (kind_is 6 (get_or part j 0) e), omega (arith, past_opener part j l true e, opened_within 6 (suc j) part, asked.opened, asked.room))

    place_room : is_kind 6 (get_or part j 0) ≡ true → payload (get_or part j 0) < length area
    place_room e = omega (arith, place e, at.long)

    places_write : is_kind 6 (get_or part j 0) ≡ true → PlacesAt part area₀ (set area (payload (get_or part j 0)) j) j
    places_write e =
        let k = opened 6 (take j part) in
        let later = places_from (suc j) (drop (suc j) part) ++ drop (opened 6 part) area₀ in
        record {
          within = omega arith;
          written =
              ap₂ (λ (x : List ℕ) (p : ℕ). set x p j) (at.written ∙ ap (λ (t : ℕ). take t area₀ ++ later) (past_opener part j l true e)) (place e).0
              ∙ put_one area₀ later k j (place e).1
              ∙ ap (λ (ps : List ℕ). take k area₀ ++ (ps ++ drop (opened 6 part) area₀)) (sym (places_drop part j l true e));
          long = simp length-set at.long;
        }

  -- a turn: the last opener before index `end`
  module _ (h : Head) (asked : SequencesAsked h part area₀) (area : List ℕ) (end j : ℕ) (at : PlacesAt part area₀ area end) (last : LastPlace part end j) where
    in_part : j < length part
    in_part = omega (arith, last.none.low, at.within)

    after_it : PlacesAt part area₀ area (suc j)
    after_it = subst (PlacesAt part area₀ area) (add-one j) (places_pass area (j + 1) end last.none at)

    pub last_room : payload (get_or part j 0) < length area
    last_room = place_room h asked area j in_part after_it last.opens

    pub last_written : PlacesAt part area₀ (set area (payload (get_or part j 0)) j) j
    last_written = places_write h asked area j in_part after_it last.opens

  pub places_end : (area : List ℕ) → PlacesAt part area₀ area 0 → area ≡ places_from 0 part ++ drop (opened 6 part) area₀
  unfolding opened
  places_end area at = at.written
