-- Sets of sequences, bit by bit: what each operation leaves, and what holds at the heads of the loops that write
-- the callers.
-- It has: one bit more and one less; one member more, no member; `removed` and `united`, with what is out of a united set; `added`, and the loops over a sequence's words
-- (`Adding`) and over the sequences (`Writing`); the set of all (`all_in`). The calls that are left from an index on are in Calls.
-- Assumes nothing.
use Prim.Native.Nat.{ℕ, zero, suc, ◌+◌, ◌-◌, ◌*◌, ◌/◌, ◌%◌, ◌^◌, ◌≤◌, ◌<◌}
use native.Mathlib.Omega.{arith}
use native.Mathlib.Decide.{ℕ_discrete, dec_lt}
use mathlib.Core.Path.{◌≡◌, refl, sym, ap, ap₂, ◌∙◌}
use mathlib.Core.Bool.{Bool, true, false, ◌&&◌, ◌||◌}
use mathlib.Core.List.{List, [], ◌∷◌}
use lib.Bits.{bit_and, bit_or, or_zero_l}
use Rattle.std.specs.Int.{trailing_zeros}
use Rattle.std.proofs.Common.{w64, min}
use Rattle.std.proofs.lemmas.Nat.Bits.{bit_at-trailing_zeros}
use lib.Dec.{eqb, ltb}
use lib.ListN.{length, get_or, set, drop, length-set, get_or-eq_default}
use lib.Pow.{pow-lt}
use lib.Seq.{get_or-set_same, get_or-set_other}
use mir.Val.{bool_byte}
use borrow.Author.Tests.{eqb-true, eqb-false, eq-eqb, ne_eqb, lt-ltb, le-ltb}
use Rattle.general.proofs.Bools.{or_right}
use Rattle.library.specs.Library.{alternatives_from}
use Rattle.library.specs.Calls.{calls_of}
use Rattle.callers.specs.Callees.{calls_left, Called}
use Rattle.column.specs.Column.{bit, with_fact}
use Rattle.column.specs.Sets.{in_column, difference}
use Rattle.column.proofs.Bits.{bit_none, bit_le, bit_or_lem, bit_and_lem, bit_not, bit_pow}
use Rattle.general.specs.Numbers.{Zeros}
use Rattle.callers.specs.Callers.{in_set, with_member, is_caller, calls, Removed, United, Put, CallersWritten}

-- ---- one bit

one_in : (a f : ℕ) → bit a f ≡ 1 → in_column a f ≡ true
unfolding in_column
one_in a f e = eq-eqb (bit a f) 1 e

in_none : (a f : ℕ) → in_column a f ≡ false → bit a f ≡ 0
unfolding in_column
in_none a f e = let other = eqb-false (bit a f) 1 e in zero_or_one (bit a f) (bit_le a f) other
  where
    zero_or_one : (b : ℕ) → b ≤ 1 → (b ≡ 1 → ⊥) → b ≡ 0
    zero_or_one b l other = elim (ℕ_discrete b 1) [ yes e ↦ absurd (other e) | no q ↦ omega arith ]

none_in : (a f : ℕ) → bit a f ≡ 0 → in_column a f ≡ false
unfolding in_column
none_in a f e = ne_eqb (bit a f) 1 (λ q. omega arith)

-- a column with a bit more
with_same : (a f : ℕ) → in_column (with_fact a f) f ≡ true
with_same a f = one_in (with_fact a f) f (omega (arith, bit_or_lem a (2 ^ f) f, bit_le a f, bit_pow f f, ap bool_byte (eq-eqb f f refl)))

with_other : (a f k : ℕ) → (k ≡ f → ⊥) → in_column (with_fact a f) k ≡ in_column a k
unfolding in_column
with_other a f k other =
    let same : bit (with_fact a f) k ≡ bit a k =
    omega (arith, bit_or_lem a (2 ^ f) k, bit_le a k, bit_pow f k, ap bool_byte (ne_eqb f k (λ e. other (sym e)))) in
    ap (λ (b : ℕ). eqb b 1) same

-- a column with a bit less
without_other : (a f k : ℕ) → f < 64 → k < 64 → (k ≡ f → ⊥) → in_column (difference 64 a (with_fact 0 f)) k ≡ in_column a k
unfolding in_column
without_other a f k l u other =
    let one : with_fact 0 f ≡ 2 ^ f = or_zero_l (2 ^ f) in
    let small : 2 ^ f < 2 ^ 64 = pow-lt l in
    let off = ap bool_byte (ne_eqb f k (λ e. other (sym e))) in
    let same : bit (difference 64 a (2 ^ f)) k ≡ bit a k =
    omega (arith, bit_and_lem a (2 ^ 64 - 1 - 2 ^ f) k, bit_not 64 (2 ^ f) k small u, bit_pow f k, off, bit_le a k) in
    ap (λ (b : ℕ). eqb b 1) (ap (λ (b : ℕ). bit (difference 64 a b) k) one ∙ same)

without_same : (a f : ℕ) → f < 64 → in_column (difference 64 a (with_fact 0 f)) f ≡ false
unfolding in_column
without_same a f low =
    let one : with_fact 0 f ≡ 2 ^ f = or_zero_l (2 ^ f) in
    let small : 2 ^ f < 2 ^ 64 = pow-lt low in
    let gone : bit (difference 64 a (2 ^ f)) f ≡ 0 =
    omega (arith, bit_and_lem a (2 ^ 64 - 1 - 2 ^ f) f, bit_not 64 (2 ^ f) f small low, bit_pow f f, ap bool_byte (eq-eqb f f refl), bit_le a f) in
    ap (λ (b : ℕ). eqb b 1) (ap (λ (b : ℕ). bit (difference 64 a b) f) one ∙ gone)

-- ---- one more

module _ (s : List ℕ) (c : ℕ) (room : c / 64 < length s) where
  abbrev one : ℕ
  one = with_fact (get_or s (c / 64) 0) (c % 64)

  pub member_same : in_set (with_member s c) c ≡ true
  member_same = ap (λ (w : ℕ). in_column w (c % 64)) (get_or-set_same s (c / 64) one 0 room) ∙ with_same (get_or s (c / 64) 0) (c % 64)

  pub member_other : (d : ℕ) → (d ≡ c → ⊥) → in_set (with_member s c) d ≡ in_set s d
  member_other d other =
      elim (ℕ_discrete (d / 64) (c / 64)) [
        | yes same ↦
            ap (λ (k : ℕ). in_column (get_or (with_member s c) k 0) (d % 64)) same
            ∙ ap (λ (w : ℕ). in_column w (d % 64)) (get_or-set_same s (c / 64) one 0 room)
            ∙ with_other (get_or s (c / 64) 0) (c % 64) (d % 64) (λ q. other (omega arith))
            ∙ ap (λ (k : ℕ). in_column (get_or s k 0) (d % 64)) (sym same)
        | no apart ↦ ap (λ (w : ℕ). in_column w (d % 64)) (get_or-set_other s (c / 64) (d / 64) one 0 apart)
      ]

  -- what is in the set stays in it
  pub member_stays : (d : ℕ) → in_set s d ≡ true → in_set (with_member s c) d ≡ true
  member_stays d e =
      elim (ℕ_discrete d c) [ yes same ↦ ap (in_set (with_member s c)) same ∙ member_same | no other ↦ member_other d other ∙ e ]

-- a set of zeros has none
pub none_member : (s : List ℕ) → Zeros s → (c : ℕ) → in_set s c ≡ false
none_member s zeros c = ap (λ (x : ℕ). in_column x (c % 64)) (zeros (c / 64)) ∙ none_in 0 (c % 64) (bit_none (c % 64))

-- past the words of a set there is none
pub past_member : (s : List ℕ) (c : ℕ) → length s ≡ 4 → 256 ≤ c → in_set s c ≡ false
past_member s c four high =
    ap (λ (x : ℕ). in_column x (c % 64)) (get_or-eq_default s 0 {n = c / 64} (omega arith)) ∙ none_in 0 (c % 64) (bit_none (c % 64))

-- ---- one less, and some more

others_stay : (s : List ℕ) (c v : ℕ) → v ≡ difference 64 (get_or s (c / 64) 0) (with_fact 0 (c % 64)) → c / 64 < length s → (d : ℕ) → (d ≡ c → ⊥)
    → in_set (set s (c / 64) v) d ≡ in_set s d
others_stay s c v e l d other =
    elim (ℕ_discrete (d / 64) (c / 64)) [
      | yes same ↦
          ap (λ (k : ℕ). in_column (get_or (set s (c / 64) v) k 0) (d % 64)) same
          ∙ ap (λ (w : ℕ). in_column w (d % 64)) (get_or-set_same s (c / 64) v 0 l ∙ e)
          ∙ without_other (get_or s (c / 64) 0) (c % 64) (d % 64) (omega arith) (omega arith) (λ q. other (omega arith))
          ∙ ap (λ (k : ℕ). in_column (get_or s k 0) (d % 64)) (sym same)
      | no apart ↦ ap (λ (w : ℕ). in_column w (d % 64)) (get_or-set_other s (c / 64) (d / 64) v 0 apart)
    ]

pub removed : (s : List ℕ) (c v : ℕ) → v ≡ difference 64 (get_or s (c / 64) 0) (with_fact 0 (c % 64)) → c / 64 < length s → Removed c s (set s (c / 64) v)
removed s c v e l =
    record {
      out = ap (λ (w : ℕ). in_column w (c % 64)) (get_or-set_same s (c / 64) v 0 l ∙ e) ∙ without_same (get_or s (c / 64) 0) (c % 64) (omega arith);
      others = others_stay s c v e l;
    }

-- what holds at the head of the loop that puts the callers of sequence d in: the words below i have them
pub record Uniting (d : ℕ) (callers s₀ s : List ℕ) (i : ℕ) : Type 0 where
  pub four : length s ≡ 4
  pub done : (k : ℕ) → k < i → get_or s k 0 ≡ bit_or (get_or s₀ k 0) (get_or callers (4 * d + k) 0)
  pub left : (k : ℕ) → i ≤ k → get_or s k 0 ≡ get_or s₀ k 0

pub uniting_turn : (d : ℕ) (callers s₀ s : List ℕ) (i v : ℕ) → i < 4 → v ≡ bit_or (get_or s i 0) (get_or callers (4 * d + i) 0) → Uniting d callers s₀ s i
    → Uniting d callers s₀ (set s i v) (i + 1)
uniting_turn d callers s₀ s i v low e p =
    let l : i < length s = omega (arith, p.four) in
    record {
      four = length-set s i v ∙ p.four;
      done = λ k m. elim (ℕ_discrete k i) [
        | yes same ↦
            ap (λ (j : ℕ). get_or (set s i v) j 0) same ∙ get_or-set_same s i v 0 l ∙ e
            ∙ ap (λ (x : ℕ). bit_or x (get_or callers (4 * d + i) 0)) (p.left i (omega arith))
            ∙ ap (λ (j : ℕ). bit_or (get_or s₀ j 0) (get_or callers (4 * d + j) 0)) (sym same)
        | no other ↦ get_or-set_other s i k v 0 other ∙ p.done k (omega arith)
      ];
      left = λ k high. get_or-set_other s i k v 0 (λ q. omega arith) ∙ p.left k (omega arith);
    }

pub united_out : (d : ℕ) (callers s s' : List ℕ) → United d callers s s' → (c : ℕ) → c < 256 → in_set s' c ≡ false → (in_set s c ≡ false) × (is_caller callers d c ≡ false)
united_out d callers s s' words c l e =
    let k = c / 64 in
    let f = c % 64 in
    let x = get_or s k 0 in
    let y = get_or callers (4 * d + k) 0 in
    let word = words k (omega arith) in
    let none : bit (bit_or x y) f ≡ 0 = in_none (bit_or x y) f (ap (λ (w : ℕ). in_column w f) (sym word) ∙ e) in
    (none_in x f (omega (arith, bit_or_lem x y f)), none_in y f (omega (arith, bit_or_lem x y f)))

-- the lowest bit that words k of a set and of the callers of sequence d have in common
pub first_in : (s callers : List ℕ) (d k both t c : ℕ) → k < 4 → both ≡ bit_and (get_or s k 0) (get_or callers (4 * d + k) 0) → 0 < both → both < 2 ^ 64
    → t ≡ trailing_zeros w64 both → c ≡ 64 * k + t → (c < 256) × (in_set s c ≡ true) × (is_caller callers d c ≡ true)
unfolding bit
first_in s callers d k both t c low e some fits is at =
    let found = bit_at-trailing_zeros w64 both some fits in
    let within : t < 64 = omega (arith, is, found.0) in
    let one : bit both t ≡ 1 = ap (bit both) is ∙ found.1 in
    let parts : min (bit (get_or s k 0) t) (bit (get_or callers (4 * d + k) 0) t) ≡ 1 =
    sym (bit_and_lem (get_or s k 0) (get_or callers (4 * d + k) 0) t) ∙ ap (λ (x : ℕ). bit x t) (sym e) ∙ one in
    let word : k ≡ c / 64 = omega arith in
    let place : t ≡ c % 64 = omega arith in (
      omega arith,
      ap₂ (λ (j f : ℕ). in_column (get_or s j 0) f) (sym word) (sym place) ∙ one_in (get_or s k 0) t (omega (arith, bit_le (get_or s k 0) t)),
      ap₂ (λ (j f : ℕ). in_column (get_or callers (4 * d + j) 0) f) (sym word) (sym place)
          ∙ one_in (get_or callers (4 * d + k) 0) t (omega (arith, bit_le (get_or callers (4 * d + k) 0) t)),
    )

-- ---- the callers

or_none : (x : Bool) → x ≡ (x || false)
or_none true = refl
or_none false = refl

and_none : (x : Bool) → (x && false) ≡ false
and_none true = refl
and_none false = refl

-- sequence p has c among its callers
module _ (s : List ℕ) (c p v : ℕ) (few : c < 256) (l : 4 * p + c / 64 < length s)
    (e : v ≡ with_fact (get_or s (4 * p + c / 64) 0) (c % 64)) where
  abbrev k : ℕ
  k = 4 * p + c / 64

  -- the word that is written, at another place or under that name
  there : (d b : ℕ) → 4 * d + b / 64 ≡ k → is_caller (set s k v) d b ≡ in_column (with_fact (get_or s k 0) (c % 64)) (b % 64)
  there d b same =
      ap (λ (j : ℕ). in_column (get_or (set s k v) j 0) (b % 64)) same ∙ ap (λ (x : ℕ). in_column x (b % 64)) (get_or-set_same s k v 0 l ∙ e)

  others_callers : (d b : ℕ) → b < 256 → (b ≡ c → p ≡ d → ⊥) → is_caller (set s k v) d b ≡ is_caller s d b
  others_callers d b low other =
      elim (ℕ_discrete (4 * d + b / 64) k) [
        | yes same ↦
            there d b same
            ∙ with_other (get_or s k 0) (c % 64) (b % 64) (λ q. other (omega arith) (omega arith))
            ∙ ap (λ (j : ℕ). in_column (get_or s j 0) (b % 64)) (sym same)
        | no apart ↦ ap (λ (x : ℕ). in_column x (b % 64)) (get_or-set_other s k (4 * d + b / 64) v 0 apart)
      ]

  pub added : Put c (λ d. eqb p d) s (set s k v)
  added d b low room = go (eqb b c) (eqb p d) refl refl
    where
      go : (x y : Bool) → eqb b c ≡ x → eqb p d ≡ y → is_caller (set s k v) d b ≡ (is_caller s d b || (x && y))
      go true true same name =
          let one = eqb-true b c same in
          let two = eqb-true p d name in
          there d b (omega arith)
          ∙ ap (λ (f : ℕ). in_column (with_fact (get_or s k 0) (c % 64)) (f % 64)) one
          ∙ with_same (get_or s k 0) (c % 64)
          ∙ sym (or_right (is_caller s d b) true refl)
      go true false same name = others_callers d b low (λ q r. eqb-false p d name r) ∙ or_none (is_caller s d b)
      go false y same name = others_callers d b low (λ q r. eqb-false b c same q) ∙ or_none (is_caller s d b)

-- where the set has no room
pub added_none : (s : List ℕ) (p c : ℕ) → c < 256 → length s ≤ 4 * p + c / 64 → Put c (λ d. eqb p d) s s
added_none s p c few l d b low room =
    or_none (is_caller s d b)
    ∙ ap (λ (x : Bool). is_caller s d b || x) (sym (and_none (eqb b c)) ∙ ap (λ (y : Bool). eqb b c && y) (sym (ne_eqb p d (λ q. omega arith))))

-- what holds at the head of the loop over the calls of sequence c: the callers so far, with the calls that are left, are all
pub record Adding (part : List ℕ) (at c : ℕ) (s₀ s : List ℕ) (i : ℕ) : Type 0 where
  pub long : length s ≡ length s₀
  pub same : (d b : ℕ) → b < 256 → 4 * d + 4 ≤ length s₀
      → (is_caller s d b || (eqb b c && calls_left part i d)) ≡ (is_caller s₀ d b || (eqb b c && calls_of (alternatives_from (drop at part)) d))

pub adding_start : (part : List ℕ) (at c : ℕ) (s : List ℕ) (i : ℕ) → ((d : ℕ) → calls_left part i d ≡ calls_of (alternatives_from (drop at part)) d)
    → Adding part at c s s i
adding_start part at c s i e = record { long = refl; same = λ d b low room. ap (λ (x : Bool). is_caller s d b || (eqb b c && x)) (e d) }

shift : (x e p r : Bool) → ((x || (e && p)) || (e && r)) ≡ (x || (e && (p || r)))
shift true e p r = refl
shift false false p r = refl
shift false true p r = refl

module _ {part : List ℕ} {at c : ℕ} {s₀ s : List ℕ} {i : ℕ} (here : Adding part at c s₀ s i) where
  -- a call
  pub adding_call : {next p : ℕ} (s' : List ℕ) → length s' ≡ length s → Called part i next p → Put c (λ d. eqb p d) s s' → Adding part at c s₀ s' next
  adding_call {next} {p} s' long call put =
      record {
        long = long ∙ here.long;
        same = λ d b low room.
            ap (λ (x : Bool). x || (eqb b c && calls_left part next d)) (put d b low (omega (arith, here.long)))
            ∙ shift (is_caller s d b) (eqb b c) (eqb p d) (calls_left part next d)
            ∙ ap (λ (x : Bool). is_caller s d b || (eqb b c && x)) (sym (call.left d))
            ∙ here.same d b low room;
      }

  -- no call is left
  pub adding_done : ((d : ℕ) → calls_left part i d ≡ false) → Put c (λ d. calls_of (alternatives_from (drop at part)) d) s₀ s
  adding_done none d b low room =
      or_none (is_caller s d b)
      ∙ ap (λ (x : Bool). is_caller s d b || x) (sym (and_none (eqb b c)) ∙ ap (λ (y : Bool). eqb b c && y) (sym (none d)))
      ∙ here.same d b low room

-- what holds at the head of the loop over the sequences
pub record Writing (part places s₀ s : List ℕ) (n c : ℕ) : Type 0 where
  pub within : c ≤ n
  pub long : length s ≡ length s₀
  pub written : CallersWritten c part places s

pub writing_start : (part places s : List ℕ) (n : ℕ) → Zeros s → Writing part places s s n 0
writing_start part places s n zeros =
    record {
      within = omega arith;
      long = refl;
      written = λ d b low room. ap (λ (x : ℕ). in_column x (b % 64)) (zeros (4 * d + b / 64)) ∙ none_in 0 (b % 64) (bit_none (b % 64))
          ∙ ap (λ (x : Bool). x && calls part places b d) (sym (le-ltb b 0 (omega arith)));
    }

one_more : (b c : ℕ) (x y : Bool) → (b ≡ c → x ≡ y) → ((ltb b c && x) || (eqb b c && y)) ≡ (ltb b (c + 1) && x)
one_more b c x y same =
    elim (ℕ_discrete b c) [
      | yes q ↦ go_same q (same q)
      | no q ↦ go_other q
    ]
  where
    all : (z : Bool) → ((false && z) || (true && z)) ≡ (true && z)
    all z = refl

    none : (u v : Bool) → (u || (false && v)) ≡ u
    none true v = refl
    none false v = refl

    go_same : b ≡ c → x ≡ y → ((ltb b c && x) || (eqb b c && y)) ≡ (ltb b (c + 1) && x)
    go_same q e =
        ap₂ (λ (u v : Bool). (u && x) || (v && y)) (le-ltb b c (omega arith)) (eq-eqb b c q)
        ∙ ap (λ (v : Bool). v) (sym e) ∙ ap (λ (u : Bool). u && x) (sym (lt-ltb b (c + 1) (omega arith)))

    go_other : (b ≡ c → ⊥) → ((ltb b c && x) || (eqb b c && y)) ≡ (ltb b (c + 1) && x)
    go_other q =
        ap (λ (v : Bool). (ltb b c && x) || (v && y)) (ne_eqb b c q) ∙ none (ltb b c && x) y
        ∙ elim (dec_lt b c) [
          | yes l ↦ ap (λ (u : Bool). u && x) (lt-ltb b c l ∙ sym (lt-ltb b (c + 1) (omega arith)))
          | no l ↦ ap (λ (u : Bool). u && x) (le-ltb b c (omega arith) ∙ sym (le-ltb b (c + 1) (omega arith)))
        ]

pub writing_turn : (part places s₀ s s' : List ℕ) (n c : ℕ) → c < n → length s' ≡ length s → Writing part places s₀ s n c
    → Put c (λ d. calls_of (alternatives_from (drop (get_or places c 0 + 1) part)) d) s s' → Writing part places s₀ s' n (c + 1)
writing_turn part places s₀ s s' n c l long p put =
    record {
      within = omega arith;
      long = long ∙ p.long;
      written = λ d b low room.
          put d b low (omega (arith, long))
          ∙ ap (λ (x : Bool). x || (eqb b c && calls part places c d)) (p.written d b low (omega (arith, long)))
          ∙ one_more b c (calls part places b d) (calls part places c d) (λ q. ap (λ (k : ℕ). calls part places k d) q);
    }

-- ---- every sequence

four_words : (w k : ℕ) → k < 4 → get_or (w ∷ w ∷ w ∷ w ∷ []) k 0 ≡ w
four_words w zero l = refl
four_words w (suc zero) l = refl
four_words w (suc (suc zero)) l = refl
four_words w (suc (suc (suc zero))) l = refl
four_words w (suc (suc (suc (suc k)))) l = absurd (omega arith)

all_bits_lem : (k : ℕ) → k < 64 → in_column (2 ^ 64 - 1) k ≡ true
all_bits_lem k l = one_in (2 ^ 64 - 1) k (omega (arith, bit_not 64 0 k (omega arith) l, bit_none k))

-- all bits of the four words are set: every sequence is in the set
pub all_in_lem : (c : ℕ) → c < 256 → in_set (18446744073709551615 ∷ 18446744073709551615 ∷ 18446744073709551615 ∷ 18446744073709551615 ∷ []) c ≡ true
all_in_lem c l = ap (λ (w : ℕ). in_column w (c % 64)) (four_words 18446744073709551615 (c / 64) (omega arith)) ∙ all_bits_lem (c % 64) (omega arith)
