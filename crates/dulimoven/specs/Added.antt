-- The card of a test list over the cards of a library, as a caller of the calls sees it (document 02, request 5): what it says of runs.
use Rattle.std.specs.Prelude.{ℕ, ◌^◌, ◌<◌, ◌≤◌, ◌≡◌, List, length}
use Rattle.general.specs.Tests.{All}
use Rattle.library.specs.Library.{library_of}
use Rattle.runs.specs.Added.{with_list, added_to}
use Rattle.cards.specs.Layout.{card_words}
use Rattle.cards.specs.Area.{part_number}
use Rattle.cards.specs.Meaning.{Card}
use Rattle.cards.specs.Composed.{most_list}
use Rattle.dulimoven.specs.Returned.{Returned}
use Rattle.dulimoven.specs.Demands.{Engine, count, Ready}

-- a list of sequences of an accepted image's library, whose cards the card call has room for
pub record Listed (image area list : List ℕ) : Type 0 where
  pub ready : Ready image area
  pub short : length list ≤ most_list
  pub below : All (λ (m : ℕ). m < count (library_of image)) list

-- the list call "Over an area that the card call filled, with that library's F and C"
abbrev pub list_over : Engine → List ℕ → List ℕ → List ℕ → List ℕ → Returned
list_over e image area list before = e.list (library_of image).facts (count (library_of image)) (e.cards image area).area list before

pub record Lists (e : Engine) : Type 0 where
  pub number : (image area list before : List ℕ) → Listed image area list → (list_over e image area list before).number ≡ 0
  pub long : (image area list before : List ℕ) → Listed image area list → length (list_over e image area list before).area ≡ card_words
  pub narrow : (image area list before : List ℕ) → Listed image area list → All (λ (w : ℕ). w < 2 ^ 64) (list_over e image area list before).area
  -- "the list's card equals that of an added sequence, limits aside, whose one alternative names the list": it says of the added sequence what
  -- a card says, and no other numbers do (`card_unique`, cards/proofs). What follows for every engine that meets this and demand 2 is in
  -- proofs/Added: what the words say of runs (`list_runs`), that they are the sequence's card in every image whose library has it (`list_image`),
  -- and the shortest lists (`list_single`, `list_empty`)
  pub card : (image area list before : List ℕ) → Listed image area list
      → Card (with_list (library_of image) list) (added_to (library_of image)) (part_number (list_over e image area list before).area 0)
