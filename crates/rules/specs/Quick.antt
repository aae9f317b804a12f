-- The rules in the form that the check's loops follow: quick tests of a word by the rules of its kind alone, and what is carried from word to word.
use Rattle.std.specs.Prelude.{◌≡◌, ℕ, ◌+◌, ◌*◌, ◌^◌, ◌<◌, ◌≤◌, Bool, ◌&&◌, ◌||◌, ◌⊎◌, List, take, ◌==◌, nat_le, nat_lt}
use mir.Val.{bool_byte}
use Rattle.image.specs.Word.{kind, payload, is_kind, is_entry}
use Rattle.rules.specs.Rules.{sets_after, sets_of, Before}
use Rattle.image.specs.declared.answer.Head.{Head}
use Rattle.rules.specs.declared.rules.Earlier.{Earlier}

-- an entry that names what the head counts: a step, a sequence, or the fact that it checks
abbrev pub entry_counted : Head → ℕ → Bool
entry_counted h w =
    is_kind 8 w && nat_lt (payload w) h.steps || is_kind 9 w && nat_lt (payload w) h.sequences || is_kind 13 w && nat_lt (payload w) h.facts

-- A word that is right by the rules of its kind alone has no fault: `proofs/Right` proves it. An entry after a kind 7 or another entry
-- that names what the head counts; an alternative's opener after the first sequence's; the next step's opener before the first
-- sequence's; the next sequence's opener after all steps
abbrev pub entry_right : Head → ℕ → ℕ → Bool
entry_right h last w = (is_kind 7 last || is_entry last) && entry_counted h w

abbrev pub alternative_right : Earlier → ℕ → Bool
alternative_right e w = w == 7 * 2 ^ 28 && nat_lt 0 e.sequences

abbrev pub body_right : Head → Earlier → ℕ → ℕ → Bool
body_right h e last w = entry_right h last w || alternative_right e w

abbrev pub step_right : Head → Earlier → ℕ → Bool
step_right h e w = is_kind 5 w && e.sequences == 0 && payload w == e.steps && nat_lt (payload w) h.steps

abbrev pub sequence_right : Head → Earlier → ℕ → Bool
sequence_right h e w = is_kind 6 w && nat_le h.steps e.steps && payload w == e.sequences && nat_lt (payload w) h.sequences

-- a fact word of kind k may follow the word `last`, whatever its fact: that opens a step, or is a fact word of a kind below k
abbrev pub FactFollows : ℕ → ℕ → Type 0
FactFollows last k = (kind last ≡ 5) ⊎ ((2 ≤ kind last) × (kind last < k))

-- an entry or an alternative's opener, where the word before is one too
abbrev pub inside_right : Head → ℕ → Bool
inside_right h w = entry_counted h w || w == 7 * 2 ^ 28

-- what the head counts is below what a payload may be
pub record Counts (h : Head) : Type 0 where
  pub facts : h.facts < 2 ^ 28
  pub steps : h.steps < 2 ^ 28
  pub sequences : h.sequences < 2 ^ 28

-- what the rules ask of the words before the next word
abbrev pub after : Before → ℕ → Before
after e w =
    record {
      steps = e.steps + bool_byte (is_kind 5 w);
      sequences = e.sequences + bool_byte (is_kind 6 w);
      last = w;
      sets = sets_after e.sets w;
    }

-- of this the loops carry all but what the step sets, which may be more facts than a word has bits
abbrev pub passed : Earlier → ℕ → Earlier
passed e w = record { steps = e.steps + bool_byte (is_kind 5 w); sequences = e.sequences + bool_byte (is_kind 6 w); last = w }

-- where words that open neither a step nor a sequence follow, the last of these
abbrev pub with_last : Earlier → ℕ → Earlier
with_last e last = record { steps = e.steps; sequences = e.sequences; last = last }

-- what the rules ask, by what the loops carry and the column of what the step sets
abbrev pub seen : Earlier → ℕ → Before
seen e sets = record { steps = e.steps; sequences = e.sequences; last = e.last; sets = sets }

-- that column is the one of the part's words before index i: what was set before the part began, after the head or at a sequence's opener,
-- is asked for nowhere in it (proofs/Middle)
abbrev pub up_to : List ℕ → Earlier → ℕ → Before
up_to part e i = seen e (sets_of 0 (take i part))

-- an alternative's opener or an entry: what an entry may follow
abbrev pub in_alternative : ℕ → Bool
in_alternative w = is_kind 7 w || is_entry w
