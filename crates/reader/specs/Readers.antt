-- What the functions of the check promise: where each stopped, and that the answer from there on is the answer from where it began.
use Rattle.std.specs.Prelude.{ℕ, ◌+◌, ◌-◌, ◌%◌, ◌≤◌, ◌<◌, ◌≡◌, length, get_or, drop, true, ◌⊎◌, List}
use Rattle.column.specs.Sets.{in_column}
use Rattle.image.specs.Fours.{AllFour}
use Rattle.image.specs.Word.{kind, payload}
use Rattle.rules.specs.Quick.{inside_right, with_last, up_to}
use Rattle.rules.specs.Walk.{walk}
use Rattle.image.specs.declared.answer.Head.{Head}
use Rattle.rules.specs.declared.rules.Earlier.{Earlier}
use Rattle.reader.specs.declared.check.Body.{Body}
use Rattle.reader.specs.declared.check.Facts.{Facts}

-- what a reader promises: the answer from where it stopped is the answer from where it began. e is what is carried of the words before
-- index `at`, and `then` of those before index `next`; p is the position at which the part begins
pub record Read (h : Head) (part : List ℕ) (e : Earlier) (at : ℕ) (then : Earlier) (next : ℕ) : Type 0 where
  pub low : at ≤ next
  pub within : next ≤ length part
  pub same : (p : ℕ) → walk h (up_to part e at) (p + at) (drop at part) ≡ walk h (up_to part then next) (p + next) (drop next part)

-- ---- a step's words

-- the words from index `at` on and before index `next` are of kind k, and each is greater than the one before it
pub record Run (part : List ℕ) (k at next : ℕ) : Type 0 where
  pub low : at ≤ next
  pub within : next ≤ length part
  pub kinds : (j : ℕ) → j < next → at ≤ j → kind (get_or part j 0) ≡ k
  pub rising : (j : ℕ) → j < next → at < j → get_or part (j - 1) 0 < get_or part j 0

-- fact words of kind k from index `at` on: the head counts the fact of each, and the fingerprint has its remainder
pub record KindRead (h : Head) (part : List ℕ) (k at : ℕ) (r : Facts) : Type 0 where
  pub run : Run part k at r.next
  pub counted : (j : ℕ) → j < r.next → at ≤ j → payload (get_or part j 0) < h.facts
  pub printed : (j : ℕ) → j < r.next → at ≤ j → in_column r.fingerprint (payload (get_or part j 0) % 64) ≡ true

-- the word at index j names the fact of none of the words from index `from` on and before index `to`
abbrev pub NamesNone : List ℕ → ℕ → ℕ → ℕ → Type 0
NamesNone part from to j = (i : ℕ) → from ≤ i → i < to → payload (get_or part i 0) ≡ payload (get_or part j 0) → ⊥

-- r is the first of the clear words, from index `clears` on and before index `end`, that names the fact of a set word, which stand from
-- index `sets` on; or `end`
pub record FirstShared (part : List ℕ) (sets clears end r : ℕ) : Type 0 where
  pub low : clears ≤ r
  pub high : r ≤ end
  pub none_before : (j : ℕ) → j < r → clears ≤ j → NamesNone part sets clears j
  pub shared : (r ≡ end) ⊎ ((i : ℕ) × (sets ≤ i) × (i < clears) × (payload (get_or part i 0) ≡ payload (get_or part r 0)))

-- the fact words of the step that the word at index `opener` opens
abbrev pub FactsRead : Head → List ℕ → ℕ → ℕ → Type 0
FactsRead h part opener next =
    (e : Earlier) → Read h part (with_last e (get_or part opener 0)) (opener + 1) (with_last e (get_or part (next - 1) 0)) next

-- ---- a sequence's words

abbrev pub BodyRead : Head → List ℕ → Earlier → ℕ → Body → Type 0
BodyRead h part e at r = Read h part e at (with_last e r.last) r.next

-- the same after the word `last`, wherever a sequence is open
abbrev pub FoursRead : Head → List ℕ → ℕ → ℕ → Body → Type 0
FoursRead h part last at r = (e : Earlier) → 0 < e.sequences → BodyRead h part (with_last e last) at r

-- the four words from index i on are right within an alternative
abbrev pub FourRight : Head → List ℕ → ℕ → Type 0
FourRight h part i = AllFour (λ w. inside_right h w ≡ true) part i
