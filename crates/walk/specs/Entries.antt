-- A walk over the entries of an alternative by turns: each says what is known with one entry more, or leaves the walk at that entry.
use Rattle.std.specs.Prelude.{ℕ, ◌+◌, ◌≡◌, true, false, List, get_or, Option, Some, None, Result, Ok, Err}
use Rattle.image.specs.Word.{is_entry}

module _ {A : Type 0} (turn : A → ℕ → Option A → Type 0) (part : List ℕ) where
  -- with `a` known at index i, what is known in the end, and the index there
  pub data Walked : A → ℕ → Result A A → ℕ → Type 0 where
    out : {a : A} {i : ℕ} {r : Result A A} {e : ℕ} → is_entry (get_or part i 0) ≡ false → r ≡ Ok a → e ≡ i → Walked a i r e
    left : {a : A} {i : ℕ} {r : Result A A} {e : ℕ} → is_entry (get_or part i 0) ≡ true → turn a (get_or part i 0) None → r ≡ Err a → e ≡ i → Walked a i r e
    on : {a b : A} {i : ℕ} {r : Result A A} {e : ℕ} → is_entry (get_or part i 0) ≡ true → turn a (get_or part i 0) (Some b) → Walked b (i + 1) r e
        → Walked a i r e
