-- What the endless call gives back, case by case (document 02, request 7). One case always applies, and it fixes the number and every word of the
-- area (`endless_return` and `endless_only`, proofs/EndlessCall).
use Rattle.std.specs.Prelude.{ℕ, ◌≤◌, ◌<◌, ◌≡◌, List, ◌++◌, length, drop, Ok, Err}
use Rattle.rules.specs.Checked.{checked}
use Rattle.library.specs.Library.{library_of}
use Rattle.image.specs.declared.answer.Head.{Head}
use Rattle.image.specs.declared.answer.Refusal.{Refusal}
use Rattle.image.specs.declared.answer.Refusal.TheVariants as refusal
use Rattle.runs.specs.Run.{HasRun, NoRun}
use Rattle.endings.specs.Endless.{Listed}
use Rattle.dulimoven.specs.Returned.{Returned, returned, turned_down}

-- the image is accepted, and the sequence is below C
pub record Asked (image : List ℕ) (c : ℕ) : Type 0 where
  pub head : Head
  pub accepted : checked image ≡ Ok head
  pub sequence : c < head.sequences

-- the first refusal that applies: "Like every later call over an image, this one meets 1 to 7 first."
pub data EndlessRefused (image : List ℕ) (c room : ℕ) : Refusal → Type 0 where
  by_image : {why : Refusal} → checked image ≡ Err why → EndlessRefused image c room why
  -- 9: "The sequence asked about is not below C."
  by_sequence : (h : Head) → checked image ≡ Ok h → h.sequences ≤ c → EndlessRefused image c room refusal.Sequence
  -- "16 where the sequence has a run, after 9"
  by_run : Asked image c → HasRun (library_of image) c → EndlessRefused image c room refusal.HasRun
  -- "17 where the list is longer than the area, which is of 32-bit words, after 16"
  by_area : Asked image c → NoRun (library_of image) c → (xs : List ℕ) → Listed (library_of image) c xs → room < length xs
      → EndlessRefused image c room refusal.ListArea

-- what the endless call gives back
pub data EndlessReturn (image : List ℕ) (c : ℕ) (area : List ℕ) (r : Returned) : Type 0 where
  refused : (why : Refusal) → EndlessRefused image c (length area) why → r ≡ turned_down why area → EndlessReturn image c area r
  -- "Otherwise the answer is the list's length and words past it stay."
  listed : Asked image c → NoRun (library_of image) c → (xs : List ℕ) → Listed (library_of image) c xs → length xs ≤ length area
      → r ≡ returned (length xs) (xs ++ drop (length xs) area) → EndlessReturn image c area r
