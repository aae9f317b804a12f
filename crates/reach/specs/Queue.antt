-- What is found from a sequence on, in the form that the loops follow: a set, and a queue of its members in the order in which they were found.
-- That it is what the sequence reaches is proved in crate `endless`.
use Rattle.std.specs.Prelude.{ℕ, ◌+◌, ◌≤◌, ◌<◌, ◌≡◌, ◌≢◌, true, false, cond, List, length, get_or, set}
use mir.Val.{bool_byte}
use Rattle.general.specs.Scan.{passing}
use Rattle.image.specs.Word.{kind, payload, most_sequences}
use Rattle.callers.specs.Callers.{set_words, in_set, calls}

-- a word that names a sequence names one below n
abbrev pub NamesWithin : ℕ → List ℕ → Type 0
NamesWithin n part = (i : ℕ) → i < length part → kind (get_or part i 0) ≡ 9 → payload (get_or part i 0) < n

-- the first words of the queue, so many of them, name what is in the set, each number below n once
pub record Queued (n : ℕ) (found queue : List ℕ) (count : ℕ) : Type 0 where
  pub few : n ≤ most_sequences
  pub four : length found ≡ set_words
  pub room : n ≤ length queue
  pub low : (d : ℕ) → in_set found d ≡ true → d < n
  pub members : (j : ℕ) → j < count → in_set found (get_or queue j 0) ≡ true
  pub queued : (d : ℕ) → in_set found d ≡ true → ¬ ((j : ℕ) → j < count → get_or queue j 0 ≢ d)
  pub size : count ≡ length (passing (in_set found) n)

-- what reaching asks of the sequences below n: their places, and the words that name them
pub record ReachAsked (n : ℕ) (part places runs : List ℕ) : Type 0 where
  pub few : n ≤ most_sequences
  pub placed : n ≤ length places
  pub within : (c : ℕ) → c < n → get_or places c 0 < length part
  pub names : NamesWithin n part

-- from sequence c on: itself, and what one of these calls that is not among `runs`
pub data FromAsked (part places runs : List ℕ) (c : ℕ) : ℕ → Type 0 where
  itself : FromAsked part places runs c c
  onward : {d e : ℕ} → FromAsked part places runs c d → calls part places d e ≡ true → in_set runs e ≡ false → FromAsked part places runs c e

-- the set has these and no other, and so many
pub record Found (n : ℕ) (part places runs : List ℕ) (c : ℕ) (found : List ℕ) (count : ℕ) : Type 0 where
  pub four : length found ≡ set_words
  pub asked : in_set found c ≡ true
  pub sound : (e : ℕ) → in_set found e ≡ true → FromAsked part places runs c e
  pub closed : (d e : ℕ) → in_set found d ≡ true → calls part places d e ≡ true → in_set runs e ≡ false → in_set found e ≡ true
  pub size : count ≡ length (passing (in_set found) n)

-- sequence c is written at index k where it is in the set, and r is the index after it
pub record MemberPut (members : List ℕ) (c : ℕ) (before : List ℕ) (k : ℕ) (after : List ℕ) (r : ℕ) : Type 0 where
  pub area : after ≡ cond (in_set members c) (set before k c) before
  pub next : r ≡ k + bool_byte (in_set members c)
