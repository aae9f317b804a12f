-- The rules for a word between head and sum word: what may stand where (refusal 4), the payloads (5), the order of fact words (6)
-- and that no step clears what it sets (13). Each is a rule on the word and on the words before it, the head among them (document 01,
-- "The image"; document 02, requests 1 and 4).
use Rattle.std.specs.Prelude.{◌≡◌, ℕ, ◌+◌, Bool, cond, not, ◌&&◌, ◌||◌, List, [], ◌∷◌, ◌++◌, ◌==◌, nat_le, nat_lt, Option, Some, None}
use mir.Val.{bool_byte}
use Rattle.column.specs.Column.{with_fact}
use Rattle.column.specs.Sets.{in_column}
use Rattle.image.specs.Word.{kind, payload, is_kind, is_fact, is_entry}
use Rattle.image.specs.declared.answer.Head.{Head}
use Rattle.image.specs.declared.answer.Refusal.TheVariants.{Kind, Payload, FactOrder, SetAndCleared}
use Rattle.image.specs.declared.answer.Refusal.{Refusal}

-- how many of the words are of a kind
unfoldable pub opened : ℕ → List ℕ → ℕ
opened k [] = 0
opened k (w ∷ ws) = bool_byte (is_kind k w) + opened k ws

-- the last of the words
unfoldable pub last_of : List ℕ → ℕ
last_of [] = 0
last_of (w ∷ []) = w
last_of (w ∷ v ∷ ws) = last_of (v ∷ ws)

-- the column of the facts that a step sets, with one word more: a set word adds its fact, and a step's opener begins anew
abbrev pub sets_after : ℕ → ℕ → ℕ
sets_after sets w = cond (is_kind 3 w) (with_fact sets (payload w)) (cond (is_kind 5 w) 0 sets)

-- and with all these words
unfoldable pub sets_of : ℕ → List ℕ → ℕ
sets_of sets [] = sets
sets_of sets (w ∷ ws) = sets_of (sets_after sets w) ws

-- "an earlier word of the same step sets" the fact: a set word that names it stands among the words, and no step is opened after it.
-- `sets_iff` (proofs/Sets) proves that `sets_of 0` is the column of these facts
pub record SetBefore (f : ℕ) (before : List ℕ) : Type 0 where
  pub until : List ℕ
  pub word : ℕ
  pub since : List ℕ
  pub stands : before ≡ until ++ (word ∷ since)
  pub sets : kind word ≡ 3
  pub names : payload word ≡ f
  pub same_step : opened 5 since ≡ 0

-- what the rules ask of the words before a word: how many steps and sequences they open, the word right before it, and the column of
-- the facts that the step sets that they opened last
pub record Before : Type 0 where
  pub steps : ℕ
  pub sequences : ℕ
  pub last : ℕ
  pub sets : ℕ

abbrev pub earlier : List ℕ → Before
earlier before = record { steps = opened 5 before; sequences = opened 6 before; last = last_of before; sets = sets_of 0 before }

-- "A kind 2, 3 or 4 word stands only after a step's opener or another such word."
-- "A kind 5 word stands only before the first kind 6, a kind 6 word only once A steps have been opened."
-- "A kind 7 word stands anywhere after the first kind 6, an entry only after a kind 7 or another entry."
-- "No other kind stands between head and sum word." Document 02 has kind 13 among the entries
abbrev pub may_stand : Head → Before → ℕ → Bool
may_stand h e w =
    is_fact w && (is_kind 5 e.last || is_fact e.last)
    || is_kind 5 w && e.sequences == 0
    || is_kind 6 w && nat_le h.steps e.steps
    || is_kind 7 w && nat_lt 0 e.sequences
    || is_entry w && (is_kind 7 e.last || is_entry e.last)

-- the rule holds of a word of that kind, and says nothing of others
abbrev pub where_kind : Bool → Bool → Bool
where_kind is rule = not is || rule

-- 5: "an opener's is not the next number or not below the head's count, an entry names nothing that the head counts, a fact is
-- not below F, or a kind 7 payload is not 0"; numbers are "counted from 0 in the order of the image". Document 02: "Kind 13, an entry,
-- checks that its fact stands; its payload is below F under 5."
abbrev pub payload_right : Head → Before → ℕ → Bool
payload_right h e w =
    where_kind (is_kind 5 w) (payload w == e.steps && nat_lt (payload w) h.steps)
    && where_kind (is_kind 6 w) (payload w == e.sequences && nat_lt (payload w) h.sequences)
    && where_kind (is_kind 8 w) (nat_lt (payload w) h.steps)
    && where_kind (is_kind 9 w) (nat_lt (payload w) h.sequences)
    && where_kind (is_fact w) (nat_lt (payload w) h.facts)
    && where_kind (is_kind 7 w) (payload w == 0)
    && where_kind (is_kind 13 w) (nat_lt (payload w) h.facts)

-- 6: "A fact word of a step is not greater, as a 32-bit number, than the fact word before it in that step." Fact words of one
-- step stand together, so the fact word before it in that step is the word right before it, if that is one
abbrev pub in_order : Before → ℕ → Bool
in_order e w = where_kind (is_fact w && is_fact e.last) (nat_lt e.last w)

-- 13: "a clear word naming a fact that an earlier word of the same step sets"; the column has those facts
abbrev pub clears_unset : ℕ → ℕ → Bool
clears_unset sets w = where_kind (is_kind 4 w) (not (in_column sets (payload w)))

-- the fault of a word at position p: "in one word the lower number"; 13 "joins 4 to 6 .. and comes last within one word"
abbrev pub fault_at : Head → Before → ℕ → ℕ → Option Refusal
fault_at h e p w =
    cond (may_stand h e w)
    (cond (payload_right h e w)
    (cond (in_order e w)
    (cond (clears_unset e.sets w) None (Some (SetAndCleared p)))
    (Some (FactOrder p)))
    (Some (Payload p)))
    (Some (Kind p))
