-- The sums of words in four lanes. It has, in this order: numbers with wrap; the lanes joined; the start, a turn and the end of the loop.
-- Assumes nothing.
use Rattle.std.proofs.Common.{◌≡◌, ℕ, ◌+◌, ◌-◌, ◌*◌, ◌/◌, ◌%◌, ◌^◌, ◌<◌, List, [], ◌∷◌, ◌++◌, length, get_or, drop, sym, refl, ap, ◌∙◌, arith, append_assoc, length-append}
use Rattle.std.proofs.Math.Seq.{drop-append_seam}
use native.Mathlib.Nat.{add-mod, mod-add-mod}
use Rattle.general.proofs.Numbers.{same_remainder}
use Rattle.image.specs.Word.{counts_as}
use Rattle.sum.specs.Sums.{with_word, sums_after}
use Rattle.sum.specs.Lanes.{wrapped, Lanes, Joined}
use Rattle.sum.specs.declared.sums.Sums.{Sums}

-- ---- numbers with wrap

-- a word more, before or after the wrap
wrapped_turn : (s b w : ℕ) → with_word (wrapped s b) w ≡ wrapped (s + counts_as w) (b + (s + counts_as w))
wrapped_turn s b w i =
    let running = mod-add-mod s (2 ^ 32) (counts_as w) in
    let values = ap (λ (x : ℕ). (b % 2 ^ 32 + x) % 2 ^ 32) running ∙ sym (add-mod b (s + counts_as w) (2 ^ 32)) in
    record { running = running i; values = values i }

-- numbers added with wrap, one after the other
pub added_wraps : (a b c d two three r : ℕ) → two ≡ (a + b) % 2 ^ 32 → three ≡ (two + c) % 2 ^ 32 → r ≡ (three + d) % 2 ^ 32
    → r ≡ (a + b + c + d) % 2 ^ 32
added_wraps a b c d two three r p q s =
    let m = 2 ^ 32 in
    s ∙ ap (λ (x : ℕ). (x + d) % m) (q ∙ ap (λ (x : ℕ). (x + c) % m) p ∙ mod-add-mod (a + b) m c) ∙ mod-add-mod (a + b + c) m d

-- numbers that wrapped before they are added
added_wrapped : (a b c d : ℕ) → (a % 2 ^ 32 + b % 2 ^ 32 + c % 2 ^ 32 + d % 2 ^ 32) % 2 ^ 32 ≡ (a + b + c + d) % 2 ^ 32
added_wrapped a b c d = same_remainder (2 ^ 32) _ _ (a / 2 ^ 32 + b / 2 ^ 32 + c / 2 ^ 32 + d / 2 ^ 32) 0 (omega arith)

-- what the lanes' values weigh
weighed_wraps : (x p q t v : ℕ) → 4 * x ≡ v + p + 2 * q + 3 * t
    → (4 * (x % 2 ^ 32) + 6 * 2 ^ 32 - (p % 2 ^ 32 + 2 * (q % 2 ^ 32) + 3 * (t % 2 ^ 32))) % 2 ^ 32 ≡ v % 2 ^ 32
weighed_wraps x p q t v e = same_remainder (2 ^ 32) _ _ (4 * (x / 2 ^ 32)) (6 + p / 2 ^ 32 + 2 * (q / 2 ^ 32) + 3 * (t / 2 ^ 32)) (omega arith)

-- ---- the lanes

lane_is : (lane : Sums) (s b : ℕ) → lane ≡ wrapped s b → (lane.running ≡ s % 2 ^ 32) × (lane.values ≡ b % 2 ^ 32)
lane_is lane s b e = (ap (λ (x : Sums). x.running) e, ap (λ (x : Sums). x.values) e)

module _ (a b c d : Sums) (running values : ℕ) (added : running ≡ (a.running + b.running + c.running + d.running) % 2 ^ 32)
    (added_values : values ≡ (a.values + b.values + c.values + d.values) % 2 ^ 32) where
  pub lanes_joined : Joined a b c d (record {
    running = running;
    values = (4 * values + 6 * 2 ^ 32 - (b.running + 2 * c.running + 3 * d.running)) % 2 ^ 32;
  })
  lanes_joined lanes i =
      let first = lane_is a lanes.running₀ lanes.values₀ lanes.first in
      let second = lane_is b lanes.running₁ lanes.values₁ lanes.second in
      let third = lane_is c lanes.running₂ lanes.values₂ lanes.third in
      let fourth = lane_is d lanes.running₃ lanes.values₃ lanes.fourth in
      let whole : running ≡ lanes.running % 2 ^ 32 = cc (added_wrapped lanes.running₀ lanes.running₁ lanes.running₂ lanes.running₃, lanes.together) in
      let sum = lanes.values₀ + lanes.values₁ + lanes.values₂ + lanes.values₃ in
      let values_whole : values ≡ sum % 2 ^ 32 = cc (added_wrapped lanes.values₀ lanes.values₁ lanes.values₂ lanes.values₃) in
      let weighs : (4 * values + 6 * 2 ^ 32 - (b.running + 2 * c.running + 3 * d.running)) % 2 ^ 32 ≡ lanes.values % 2 ^ 32 =
      cc (weighed_wraps sum lanes.running₁ lanes.running₂ lanes.running₃ lanes.values lanes.weighed) in
      record { running = whole i; values = weighs i }

-- the lanes, where the words in front are in them and the rest is to come
pub record InFours (words : List ℕ) (a b c d : Sums) (rest : List ℕ) : Type 0 where
  pub front : List ℕ
  pub stands : words ≡ front ++ rest
  pub fours : length front % 4 ≡ 0
  pub lanes : Lanes a b c d
  pub so_far : sums_after (wrapped lanes.running lanes.values) rest ≡ sums_after (wrapped 0 0) words

-- what `default` gives
abbrev NoSums : Sums → Type 0
NoSums s = (s.running ≡ 0) × (s.values ≡ 0)

no_sums : (s : Sums) → NoSums s → s ≡ wrapped 0 0
no_sums s (r, v) i = record { running = r i; values = v i }

pub fours_none : (words : List ℕ) (a b c d : Sums) → NoSums a → NoSums b → NoSums c → NoSums d → InFours words a b c d words
fours_none words a b c d p q r t =
    record {
      front = [];
      stands = refl;
      fours = refl;
      lanes =
          record {
            running₀ = 0;
            running₁ = 0;
            running₂ = 0;
            running₃ = 0;
            values₀ = 0;
            values₁ = 0;
            values₂ = 0;
            values₃ = 0;
            running = 0;
            values = 0;
            first = no_sums a p;
            second = no_sums b q;
            third = no_sums c r;
            fourth = no_sums d t;
            together = refl;
            weighed = refl;
          };
      so_far = refl;
    }

-- a word more in a lane
lane_turn : (s b w : ℕ) (lane next : Sums) → next ≡ with_word lane w → lane ≡ wrapped s b → next ≡ wrapped (s + counts_as w) (b + (s + counts_as w))
lane_turn s b w lane next e l = e ∙ ap (λ (x : Sums). with_word x w) l ∙ wrapped_turn s b w

-- four words more
pub fours_turn : (words four rest then : List ℕ) (a b c d a' b' c' d' : Sums) → rest ≡ four ++ then → length four ≡ 4 → InFours words a b c d rest
    → a' ≡ with_word a (get_or four 0 0) → b' ≡ with_word b (get_or four 1 0) → c' ≡ with_word c (get_or four 2 0)
    → d' ≡ with_word d (get_or four 3 0) → InFours words a' b' c' d' then
fours_turn words (w₀ ∷ w₁ ∷ w₂ ∷ w₃ ∷ []) rest then a b c d a' b' c' d' is size so p q r t =
    let l = so.lanes in
    let four = w₀ ∷ w₁ ∷ w₂ ∷ w₃ ∷ [] in
    let s₀ = l.running + counts_as w₀ in
    let s₁ = s₀ + counts_as w₁ in
    let s₂ = s₁ + counts_as w₂ in
    let s₃ = s₂ + counts_as w₃ in
    let u₀ = l.values + s₀ in
    let u₁ = u₀ + s₁ in
    let u₂ = u₁ + s₂ in
    record {
      front = so.front ++ four;
      stands = so.stands ∙ ap (λ (x : List ℕ). so.front ++ x) is ∙ sym (append_assoc so.front four then);
      fours = rw length-append (omega (arith, so.fours));
      lanes =
          record {
            running₀ = l.running₀ + counts_as w₀;
            running₁ = l.running₁ + counts_as w₁;
            running₂ = l.running₂ + counts_as w₂;
            running₃ = l.running₃ + counts_as w₃;
            values₀ = l.values₀ + (l.running₀ + counts_as w₀);
            values₁ = l.values₁ + (l.running₁ + counts_as w₁);
            values₂ = l.values₂ + (l.running₂ + counts_as w₂);
            values₃ = l.values₃ + (l.running₃ + counts_as w₃);
            running = s₃;
            values = u₂ + s₃;
            first = lane_turn l.running₀ l.values₀ _ a a' p l.first;
            second = lane_turn l.running₁ l.values₁ _ b b' q l.second;
            third = lane_turn l.running₂ l.values₂ _ c c' r l.third;
            fourth = lane_turn l.running₃ l.values₃ _ d d' t l.fourth;
            together = omega (arith, l.together);
            weighed = omega (arith, l.together, l.weighed);
          };
      so_far =
          ap (λ (x : Sums). sums_after x then)
          (sym (wrapped_turn s₂ u₂ w₃)
          ∙ ap (λ (x : Sums). with_word x w₃)
          (sym (wrapped_turn s₁ u₁ w₂) ∙ ap (λ (x : Sums). with_word x w₂) (sym (wrapped_turn s₀ u₀ w₁) ∙ ap (λ (x : Sums). with_word x w₁) (sym (wrapped_turn l.running l.values w₀)))))
          ∙ ap (sums_after (wrapped l.running l.values)) (sym is)
          ∙ so.so_far;
    }
fours_turn words [] rest then a b c d a' b' c' d' is size so p q r t = absurd (omega arith)
fours_turn words (w₀ ∷ []) rest then a b c d a' b' c' d' is size so p q r t = absurd (omega arith)
fours_turn words (w₀ ∷ w₁ ∷ []) rest then a b c d a' b' c' d' is size so p q r t = absurd (omega arith)
fours_turn words (w₀ ∷ w₁ ∷ w₂ ∷ []) rest then a b c d a' b' c' d' is size so p q r t = absurd (omega arith)
fours_turn words (w₀ ∷ w₁ ∷ w₂ ∷ w₃ ∷ w ∷ ws) rest then a b c d a' b' c' d' is size so p q r t = absurd (omega arith)

pub fours_end : (words rest : List ℕ) (a b c d sums : Sums) → length rest < 4 → InFours words a b c d rest → Joined a b c d sums
    → sums_after sums (drop (length words / 4 * 4) words) ≡ sums_after (wrapped 0 0) words
fours_end words rest a b c d sums few so joined =
    let size : length words ≡ length so.front + length rest = rw (so.stands, length-append) refl in
    let last : length words / 4 * 4 ≡ length so.front = omega (arith, so.fours) in
    let left : drop (length words / 4 * 4) words ≡ rest = rw (last, so.stands, drop-append_seam) refl in
    rw (left, joined so.lanes) so.so_far
