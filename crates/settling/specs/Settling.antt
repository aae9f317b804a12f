-- Visits in place until nothing changes, for any table: a visit of a number gives another table, by the table as it stands. A number is stale
-- until it is visited, and again where one that it calls has changed since, and a visit of one that is not stale changes nothing.
use Rattle.std.specs.Prelude.{ℕ, ◌*◌, ◌≤◌, ◌<◌, ◌≡◌, Bool, true, false, List, length}
use Rattle.image.specs.Word.{most_sequences}
use Rattle.general.specs.Numbers.{Complete}
use Rattle.callers.specs.Callers.{set_words, in_set, CallersWritten}

-- `visit` gives the table after a visit of number c
module _ (visit : List ℕ → ℕ → List ℕ) where
  -- tables that visits of the numbers below n lead to
  pub data Reached (n : ℕ) (before : List ℕ) : List ℕ → Type 0 where
    here : Reached n before before
    next : {table : List ℕ} (c : ℕ) → c < n → Reached n before table → Reached n before (visit table c)

  -- no visit changes the table
  abbrev pub Settled : ℕ → List ℕ → Type 0
  Settled n table = (c : ℕ) → c < n → visit table c ≡ table

  -- tables that visits lead to, until no visit changes one
  pub record Settles (n : ℕ) (before after : List ℕ) : Type 0 where
    pub reached : Reached n before after
    pub settled : Settled n after

  -- `weight` is what falls while the table changes
  module _ (weight : List ℕ → ℕ) where
    -- what a visit promises: the table after it, and whether that is another
    pub record Visit (before : List ℕ) (c : ℕ) (after : List ℕ) (changed : Bool) : Type 0 where
      pub done : after ≡ visit before c
      pub falls : changed ≡ true → weight after < weight before
      pub stays : changed ≡ false → after ≡ before

    -- what a pass over so many of the numbers below n promises; `count` is how many of its visits changed the table
    pub record Pass (n turns : ℕ) (before after : List ℕ) (count : ℕ) : Type 0 where
      pub reached : Reached n before after
      pub few : count ≤ turns
      pub falls : 0 < count → weight after < weight before
      pub settled : n ≤ turns → count ≡ 0 → Settled n after

-- no visit of a number below n that is not stale changes the table
abbrev pub Fresh : (List ℕ → ℕ → List ℕ) → ℕ → (ℕ → Bool) → List ℕ → Type 0
Fresh visit n stale table = (c : ℕ) → c < n → stale c ≡ false → visit table c ≡ table

-- what the laws ask of a visit: it keeps the length, and does not raise the weight of a table that has the room
pub record Lowers (visit : List ℕ → ℕ → List ℕ) (weight : List ℕ → ℕ) (n room : ℕ) : Type 0 where
  pub keeps : (t : List ℕ) (c : ℕ) → length (visit t c) ≡ length t
  pub lowers : (t : List ℕ) (c : ℕ) → c < n → room ≤ length t → weight (visit t c) ≤ weight t

-- and one that changes nothing still changes nothing after a visit of a number that it does not call, and neither does a second visit of a
-- number that does not call itself
pub record Local (visit : List ℕ → ℕ → List ℕ) (calls : ℕ → ℕ → Bool) (n room : ℕ) : Type 0 where
  pub stays : (t : List ℕ) (c d : ℕ) → c < n → d < n → room ≤ length t → calls d c ≡ false → visit t d ≡ t → visit (visit t c) d ≡ visit t c
  pub again : (t : List ℕ) (c : ℕ) → c < n → room ≤ length t → calls c c ≡ false → visit (visit t c) c ≡ visit t c

-- the laws of the visits of the numbers below n, in a table t of which is asked what they ask: it has the room, and a table of its length can be
-- visited too
pub record VisitLaws (visit : List ℕ → ℕ → List ℕ) (weight : List ℕ → ℕ) (calls : ℕ → ℕ → Bool) (n : ℕ) (asked : List ℕ → Type 0) (t : List ℕ) : Type 0 where
  pub room : ℕ
  pub long : room ≤ length t
  pub lowers : Lowers visit weight n room
  pub local : Local visit calls n room
  pub kept : (u : List ℕ) → length u ≡ length t → asked u

-- a table that visits lead to, and the set of the numbers that are stale in it
pub record Swept (visit : List ℕ → ℕ → List ℕ) (n : ℕ) (before after stale : List ℕ) : Type 0 where
  pub reached : Reached visit n before after
  pub fresh : Fresh visit n (in_set stale) after

-- what settling a table of the sequences below n goes by: an order that names each of them, and the sets of their callers
pub record Scheduled (n : ℕ) (part places callers order : List ℕ) : Type 0 where
  pub few : n ≤ most_sequences
  pub room : set_words * n ≤ length callers
  pub written : CallersWritten n part places callers
  pub complete : Complete order n
