-- Why a sequence has no run, as a caller of the calls sees it (document 02, request 7): what the list in the area says of the library's runs.
use Rattle.std.specs.Prelude.{ℕ, ◌*◌, ◌^◌, ◌≤◌, ◌<◌, ◌≡◌, ◌↔◌, length, take, Ok}
use mathlib.Core.List.{List, Memᴰ}
use Rattle.column.specs.Column.{bit}
use Rattle.image.specs.declared.answer.Head.{Head}
use Rattle.rules.specs.Checked.{checked}
use Rattle.library.specs.Library.{Library, library_of}
use Rattle.cards.specs.Area.{part_word}
use Rattle.endings.specs.Endless.{Endless, Listed, Supports, NoneEnds}
use Rattle.dulimoven.specs.Returned.{Returned}
use Rattle.dulimoven.specs.Demands.{Engine, Refuses, count, Ready}

-- the list that a caller finds: of the area's words the first, as many as the number says
abbrev pub found : Returned → List ℕ
found r = take r.number r.area

-- what it says of sequence c
pub record Reason (L : Library) (c : ℕ) (xs : List ℕ) : Type 0 where
  -- "the list, in rising order, of all sequences without a run that the asked one reaches through entries of sequences without a run, itself
  -- included"
  pub listed : Listed L c xs
  pub itself : Memᴰ c xs
  -- "Every alternative of each listed sequence names a listed one."
  pub supports : Supports L xs
  -- "none of its members has a run"
  pub none : NoneEnds L xs

-- it holds of every engine that meets demands 1 and 2 (`engines_explain`, proofs/Explained)
pub record Explains (e : Engine) : Type 0 where
  -- whatever the call is handed: a number that is no refusal counts such a list
  pub reason : (image : List ℕ) (c : ℕ) (area : List ℕ) → ¬ Refuses (e.endless image c area).number
      → Reason (library_of image) c (found (e.endless image c area))
  -- an area with a word for each sequence is enough, for every sequence without a run
  pub enough : (image area : List ℕ) (h : Head) → checked image ≡ Ok h → (c : ℕ) → Endless (library_of image) c
      → count (library_of image) ≤ length area → ¬ Refuses (e.endless image c area).number
  -- "16 where the sequence has a run": where its card has bit 0, "a run exists", and only there
  pub told : (image area cards : List ℕ) → Ready image cards → (c : ℕ) → c < count (library_of image)
      → ((e.endless image c area).number ≡ 16 * 2 ^ 32) ↔ (bit (part_word (e.cards image cards).area c 0) 0 ≡ 1)
