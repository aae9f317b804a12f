-- Rows stored into a table: what is read back, what stays, and how much is lacking after a store.
-- It has: the row that is read back and the others (`row_same`, `row_other`), equal rows (`rows_equal`), and the weight (`lacking_least`,
-- `lacking_falls`).
-- Assumes nothing.
use Rattle.std.proofs.Common.{◌≡◌, ℕ, suc, ◌+◌, ◌*◌, ◌^◌, ◌≤◌, ◌<◌, true, false, ◌⊎◌, inl, inr, List, [], ◌∷◌, ◌++◌, length, get_or, set, take, drop, refl, sym, ap, ap₂, ◌∙◌, append_assoc, arith, rules, drop-drop, drop_at, take_at}
use Rattle.std.proofs.lemmas.List.Edits.{sets, sets-eq}
use Rattle.std.proofs.lemmas.Bool.Decides.{nat_tests}
use mathlib.Core.Bool.{false≢true}
use mathlib.Core.Logic.{⊎_elim}
use native.Mathlib.Decide.{dec_lt}
use native.Mathlib.Nat.{add-zero}
use lib.ListN.{take-append-drop}
use lib.Seq.{length-sets, length-take-le, get_or-set_other, set-get_or}
use lib.Bits.{bit_or, or_add_and, and_le_r}
use lib.Dec.{eqb}
use borrow.Author.Tests.{eq-eqb}
use Rattle.general.specs.Tests.{All}
use Rattle.row.specs.Words.{row_words, or_rows, same_rows, row_in, with_row, words_of}
use Rattle.row.specs.declared.words.Row.{Row}
use Rattle.rows.proofs.Places.{stores, row_read}
use Rattle.outcome.specs.Visited.{lacking}

-- ---- a run of stores

sets_other : (vs l : List ℕ) (i k : ℕ) → (k < i) ⊎ (i + length vs ≤ k) → get_or (sets l i vs) k 0 ≡ get_or l k 0
sets_other [] l i k out = refl
sets_other (v ∷ vs) l i k out =
    sets_other vs (set l i v) (suc i) k (⊎_elim (λ p. inl (omega arith)) (λ p. inr (omega arith)) out)
    ∙ get_or-set_other l i k v 0 (⊎_elim (λ p q. omega arith) (λ p q. omega arith) out)

pub row_length : (t : List ℕ) (c : ℕ) (r : Row) → length (with_row t c r) ≡ length t
row_length t c r = sym (ap length (stores t c r)) ∙ length-sets t (row_words * c) (words_of r)

words_row : (x y : Row) → words_of x ≡ words_of y → x ≡ y
words_row x y e = ap (λ (ws : List ℕ). row_in ws 0) e

module _ (t : List ℕ) (c : ℕ) (r : Row) where
  abbrev from : ℕ
  from = row_words * c

  word_other : (k : ℕ) → (k < from) ⊎ (from + row_words ≤ k) → get_or (with_row t c r) k 0 ≡ get_or t k 0
  word_other k out = sym (ap (λ (l : List ℕ). get_or l k 0) (stores t c r)) ∙ sets_other (words_of r) t from k out

  -- the words before the row, the row's, and those after it
  stored : from + row_words ≤ length t → with_row t c r ≡ take from t ++ (words_of r ++ drop (from + row_words) t)
  stored room = sym (stores t c r) ∙ sets-eq (words_of r) t from room ∙ append_assoc (take from t) (words_of r) (drop (from + row_words) t)

  -- what is read back
  pub row_same : from + row_words ≤ length t → row_in (with_row t c r) c ≡ r
  row_same room =
      let long : length (take from t) ≡ from = length-take-le from t (omega arith) in
      words_row _ r
      (row_read (with_row t c r) c (omega (arith, row_length t c r)) ∙ ap (λ (l : List ℕ). take row_words (drop from l)) (stored room)
      ∙ ap (take row_words) (drop_at (take from t) (words_of r ++ drop (from + row_words) t) from long)
      ∙ take_at (words_of r) (drop (from + row_words) t) row_words refl)

  -- the other rows stay
  pub row_other : (d : ℕ) → (d ≡ c → ⊥) → row_in (with_row t c r) d ≡ row_in t d
  row_other d apart i =
      let w : (k : ℕ) → k < row_words → get_or (with_row t c r) (row_words * d + k) 0 ≡ get_or t (row_words * d + k) 0 = λ k u. word_other (row_words * d + k) (outside k u) in
      let first_word : get_or (with_row t c r) (row_words * d) 0 ≡ get_or t (row_words * d) 0 = rw (add-zero (row_words * d)) at (w 0 (omega arith)) in
      record {
        run = first_word i;
        empty = w 1 (omega arith) i;
        last = record { present = w 2 (omega arith) i; absent = w 3 (omega arith) i; untouched = w 4 (omega arith) i };
        first = record { present = w 5 (omega arith) i; absent = w 6 (omega arith) i; untouched = w 7 (omega arith) i };
        cleared = w 8 (omega arith) i;
        unmentioned = w 9 (omega arith) i;
      }
    where
      outside : (k : ℕ) → k < row_words → (row_words * d + k < row_words * c) ⊎ (row_words * c + row_words ≤ row_words * d + k)
      outside k u = elim (dec_lt d c) [ yes l ↦ inl (omega arith) | no l ↦ inr (omega arith) ]

-- storing what is there changes nothing
pub row_again : (t : List ℕ) (c : ℕ) → with_row t c (row_in t c) ≡ t
row_again t c = simp set-get_or

-- ---- how much is lacking

lacking_append : (xs ys : List ℕ) → lacking (xs ++ ys) ≡ lacking xs + lacking ys
unfolding lacking
lacking_append [] ys = omega arith
lacking_append (x ∷ xs) ys = omega (arith, lacking_append xs ys)

lacking_row : (t : List ℕ) (c : ℕ) (r : Row) → row_words * c + row_words ≤ length t → lacking (with_row t c r) + lacking (words_of (row_in t c)) ≡ lacking t + lacking (words_of r)
lacking_row t c r room =
    let i = row_words * c in
    let whole : take i t ++ (words_of (row_in t c) ++ drop (i + row_words) t) ≡ t =
    ap (λ (l : List ℕ). take i t ++ (l ++ drop (i + row_words) t)) (row_read t c room)
    ∙ ap (λ (l : List ℕ). take i t ++ (take row_words (drop i t) ++ l)) (sym (drop-drop row_words i t))
    ∙ ap (λ (l : List ℕ). take i t ++ l) (take-append-drop row_words (drop i t)) ∙ take-append-drop i t in
    omega (
      arith,
      ap lacking (stored t c r room),
      lacking_append (take i t) (words_of r ++ drop (i + row_words) t),
      lacking_append (words_of r) (drop (i + row_words) t),
      ap lacking (sym whole),
      lacking_append (take i t) (words_of (row_in t c) ++ drop (i + row_words) t),
      lacking_append (words_of (row_in t c)) (drop (i + row_words) t),
    )

or_le : (a b : ℕ) → a ≤ bit_or a b
or_le a b = omega (arith, or_add_and a b, and_le_r a b)

-- each word of the one list is at most that of the other
Below : List ℕ → List ℕ → Type 0
Below [] ys = Unit {0}
Below (x ∷ xs) [] = ⊥
Below (x ∷ xs) (y ∷ ys) = (x ≤ y) × Below xs ys

below_or : (x y : Row) → Below (words_of x) (words_of (or_rows x y))
unfolding Below
below_or x y = search (rules, or_le) depth 24

-- each word is one of 64 bits
abbrev pub Fitting : Row → Type 0
Fitting x = All (λ (w : ℕ). w < 2 ^ 64) (words_of x)

lacking_below : (xs ys : List ℕ) → length xs ≡ length ys → Below xs ys → lacking ys ≤ lacking xs
unfolding lacking Below
lacking_below [] [] e b = omega arith
lacking_below [] (y ∷ ys) e b = absurd (omega arith)
lacking_below (x ∷ xs) [] e b = absurd b
lacking_below (x ∷ xs) (y ∷ ys) e b = omega (arith, b.0, lacking_below xs ys (omega arith) b.1)

-- words that lack no less are the same
lacking_same : (xs ys : List ℕ) → length xs ≡ length ys → Below xs ys → All (λ (w : ℕ). w < 2 ^ 64) ys → lacking xs ≤ lacking ys → xs ≡ ys
unfolding lacking Below
lacking_same [] [] e b f l = refl
lacking_same [] (y ∷ ys) e b f l = absurd (omega arith)
lacking_same (x ∷ xs) [] e b f l = absurd b
lacking_same (x ∷ xs) (y ∷ ys) e b f l =
    let rest = lacking_below xs ys (omega arith) b.1 in
    let here : x ≡ y = omega (arith, b.0, f.0) in
    ap₂ (λ (w : ℕ) (ws : List ℕ). w ∷ ws) here (lacking_same xs ys (omega arith) b.1 f.1 (omega (arith, b.0)))

-- rows that pass the test are equal, and equal rows pass it
self : (n : ℕ) → eqb n n ≡ true
self n = eq-eqb n n refl

same_self : (x : Row) → same_rows x x ≡ true
same_self x = simp self

pub rows_equal : (x y : Row) → same_rows x y ≡ true → x ≡ y
rows_equal x y e = grind (arith, nat_tests)

-- a row that grew: no more is lacking, and less where it is another
module _ (t : List ℕ) (c : ℕ) (y : Row) (room : row_words * c + row_words ≤ length t) where
  pub lacking_least : lacking (with_row t c (or_rows (row_in t c) y)) ≤ lacking t
  lacking_least =
      let x = row_in t c in
      let z = or_rows x y in
      omega (arith, lacking_row t c z room, lacking_below (words_of x) (words_of z) refl (below_or x y))

  pub lacking_falls : Fitting (or_rows (row_in t c) y) → same_rows (row_in t c) (or_rows (row_in t c) y) ≡ false → lacking (with_row t c (or_rows (row_in t c) y)) < lacking t
  lacking_falls fit other =
      let x = row_in t c in
      let z = or_rows x y in
      elim (dec_lt (lacking (words_of z)) (lacking (words_of x))) [
        | yes l ↦ omega (arith, lacking_row t c z room, l)
        | no l ↦ absurd (false≢true
            (sym other ∙ ap (same_rows x) (sym (words_row x z (lacking_same (words_of x) (words_of z) refl (below_or x y) fit (omega arith)))) ∙ same_self x))
      ]
