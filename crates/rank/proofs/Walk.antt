-- The forms that a loop follows give what the definitions say: ranks lowered by one walk over a sequence's alternatives, an alternative
-- read from left to right, and the choice of a link by nested scans.
-- It has: `lowered_from_lem`, `depth_from_lem`, `fewest_from_lem`, `position_from`, `link_newest` and `tail_from`, one for each form.
use Prim.Native.Nat.{ℕ, zero, suc, ◌+◌, ◌≤◌, ◌<◌, min, max}
use mathlib.Core.Path.{◌≡◌, refl, sym, ◌∙◌, ap, ap₂, fun_ext}
use mathlib.Core.Logic.{⊎_elim}
use mathlib.Core.Bool.{Bool, true, false, cond, ◌&&◌, true≢false}
use mathlib.Core.List.{List, [], ◌∷◌}
use native.Mathlib.Omega.{arith}
use lib.ListN.{length, get_or, take, drop}
use lib.Dec.{leb, ltb}
use borrow.Author.Tests.{leb-true, le-leb, lt-leb, ltb-true, ltb-false, lt-ltb}
use Rattle.library.specs.Library.{Alternative, Sequence, Entry, Item, entry_at}
use Rattle.runs.specs.Run.{alternatives_of, alternative_of}
use Rattle.general.proofs.Bools.{and_parts, both_ways}
use Rattle.general.specs.Scan.{every, least_below, greatest, first_index}
use Rattle.chains.specs.Ranks.{Ranks, Look, lowered, entry_rank, depth_look, candidate, link_look}
use Rattle.chains.specs.Answer.{newest, chosen_alternative, chosen_position}
use Rattle.rank.specs.Walk.{lowered_from, depth_from, fewest_from, position_from, newest_link, tail_from}
use Rattle.chains.specs.Link.{touch_link}
use Rattle.general.proofs.Scan.{least_start, least_le, least_cases, first_found, first_passes, first_same}

-- the least value by its first index
least_cons : (v : ℕ → ℕ) (r n : ℕ) → least_below v r (suc n) ≡ min (v 0) (least_below (λ i. v (suc i)) r n)
unfolding least_below
least_cons v r zero = omega arith
least_cons v r (suc n) = let h = least_cons v r n in omega arith

least_same : (v w : ℕ → ℕ) (r n : ℕ) → ((i : ℕ) → v i ≡ w i) → least_below v r n ≡ least_below w r n
unfolding least_below
least_same v w r zero same = refl
least_same v w r (suc n) same = ap₂ min (least_same v w r n same) (same n)

-- lowered by the first alternative, then by the others
from_least : (value : Alternative → ℕ) (r : ℕ) (alts : List Alternative)
    → lowered_from value r alts ≡ least_below (λ i. suc (value (get_or alts i []))) r (length alts)
unfolding lowered_from least_below
from_least value r [] = refl
from_least value r (es ∷ alts) =
    let h = from_least value (min r (suc (value es))) alts in
    let h' = least_cons (λ i. suc (value (get_or (es ∷ alts) i []))) r (length alts) in
    let h'' = least_min (λ i. suc (value (get_or alts i []))) r (suc (value es)) (length alts) in
    omega arith
  where
    least_min : (v : ℕ → ℕ) (r x n : ℕ) → least_below v (min r x) n ≡ min x (least_below v r n)
    least_min v r x zero = omega arith
    least_min v r x (suc n) = let h = least_min v r x n in omega arith

-- no alternative lowers a rank of 1
pub lowered_least : (value : Alternative → ℕ) (r : ℕ) (alts : List Alternative) → r ≤ 1 → lowered_from value r alts ≡ r
unfolding lowered_from
lowered_least value r [] l = refl
lowered_least value r (es ∷ alts) l =
    let same : min r (suc (value es)) ≡ r = omega arith in
    ap (λ (x : ℕ). lowered_from value x alts) same ∙ lowered_least value r alts l

pub lowered_low : (value : Alternative → ℕ) (r : ℕ) (alts : List Alternative) → lowered_from value r alts ≤ r
unfolding lowered_from
lowered_low value r [] = omega arith
lowered_low value r (es ∷ alts) = omega (arith, lowered_low value (min r (suc (value es))) alts)

pub lowered_from_lem : (S : List Sequence) (look : Look) (T : Ranks) (c : ℕ) → lowered S look T c ≡ lowered_from (look T) (T c) (alternatives_of S c)
unfolding lowered
lowered_from_lem S look T c = sym (from_least (look T) (T c) (alternatives_of S c))

-- an index counted from i on
cond_index : (b : Bool) (i n : ℕ) → cond b i (suc i + n) ≡ i + cond b 0 (suc n)
cond_index true i n = omega arith
cond_index false i n = omega arith

-- the greatest depth from left to right, where the entries so far have a rank
depth_min : (none : ℕ) (rank : Entry → ℕ) (d : ℕ) (es : List Entry) → d ≤ none → depth_from none rank d es ≡ min none (max d (greatest rank es))
unfolding depth_from greatest
depth_min none rank d [] low = omega arith
depth_min none rank d (e ∷ es) low = go (ltb (rank e) none) refl (depth_min none rank (max d (rank e)) es)
  where
    go : (b : Bool) → ltb (rank e) none ≡ b
        → (max d (rank e) ≤ none → depth_from none rank (max d (rank e)) es ≡ min none (max (max d (rank e)) (greatest rank es)))
        → cond b (depth_from none rank (max d (rank e)) es) none ≡ min none (max d (max (rank e) (greatest rank es)))
    go true has rest = let lt = ltb-true (rank e) none has in let h = rest (omega arith) in omega arith
    go false has rest = let le = ltb-false (rank e) none has in omega arith

pub depth_from_lem : (none : ℕ) (test : Item → Bool) (T : Ranks) (es : List Entry) → depth_look none test T es ≡ depth_from none (entry_rank none test T) 0 es
unfolding depth_look
depth_from_lem none test T es = let h = depth_min none (entry_rank none test T) 0 es (omega arith) in omega arith

-- conditions one inside the other
cond_and : (b x y : Bool) (r none : ℕ) → cond ((b && x) && y) r none ≡ cond b (cond (x && y) r none) none
cond_and true x y r none = refl
cond_and false x y r none = refl

least_cond : (b : Bool) (v : ℕ → ℕ) (none n : ℕ) → least_below (λ i. cond b (v i) none) none n ≡ cond b (least_below v none n) none
unfolding least_below
least_cond true v none n = refl
least_cond false v none zero = refl
least_cond false v none (suc n) = let h = least_cond false v none n in omega arith

pub cond_same : (b : Bool) (x : ℕ) → cond b x x ≡ x
cond_same true x = refl
cond_same false x = refl

-- the fewest links by whether what is read so far, and what comes next, pass
arranged : (ok a b bs : Bool) (best r l none : ℕ) → best ≤ none → l ≤ none
    → min (cond bs (min (cond b best none) (cond ok r none)) none) (cond (ok && a) l none)
    ≡ min (cond (b && bs) best none) (cond ok (min (cond bs r none) (cond a l none)) none)
arranged false a true true best r l none h h' = omega arith
arranged false a true false best r l none h h' = omega arith
arranged false a false true best r l none h h' = omega arith
arranged false a false false best r l none h h' = omega arith
arranged true true true true best r l none h h' = omega arith
arranged true true true false best r l none h h' = omega arith
arranged true true false true best r l none h h' = omega arith
arranged true true false false best r l none h h' = omega arith
arranged true false true true best r l none h h' = omega arith
arranged true false true false best r l none h h' = omega arith
arranged true false false true best r l none h h' = omega arith
arranged true false false false best r l none h h' = omega arith

-- a value below `none` under conditions
leb_cond : (ok b : Bool) (x k none : ℕ) → k < none → leb (cond ok (cond b x none) none) k ≡ ((ok && b) && leb x k)
leb_cond true true x k none lt = refl
leb_cond true false x k none lt = lt-leb none k lt
leb_cond false b x k none lt = lt-leb none k lt

cond_cond : (ok a : Bool) (x none : ℕ) → cond ok (cond a x none) none ≡ cond (ok && a) x none
cond_cond true a x none = refl
cond_cond false a x none = refl

-- the floor, by whether all so far pass
floor_and : (ok a : Bool) (none : ℕ) → cond a (cond ok 0 none) none ≡ cond (ok && a) 0 none
floor_and true true none = refl
floor_and true false none = refl
floor_and false true none = refl
floor_and false false none = refl

floor_min : (ok : Bool) (x r none : ℕ) → x ≤ none → min x (max r (cond ok 0 none)) ≡ min x (cond ok r none)
floor_min true x r none h = omega arith
floor_min false x r none h = omega arith

module _ (none : ℕ) (test : Item → Bool) (ahead behind : Entry → Bool) (T : Ranks) where
  abbrev value : List Entry → ℕ → ℕ
  value es = candidate none test ahead behind T es

  abbrev rank : Entry → ℕ
  rank = entry_rank none test T

  -- the fewest links among the positions of an alternative: its first position, or one of the others
  look_cons : (e : Entry) (es : List Entry) → link_look none test ahead behind T (e ∷ es)
      ≡ min (cond (every behind es) (rank e) none) (cond (ahead e) (link_look none test ahead behind T es) none)
  unfolding link_look every
  look_cons e es =
      let h = least_cons (value (e ∷ es)) none (length es) in
      let h' =
      least_same (λ p. value (e ∷ es) (suc p)) (λ p. cond (ahead e) (value es p) none) none (length es)
      (λ p. cond_and (ahead e) (every ahead (take p es)) (every behind (drop (suc p) es)) (rank (entry_at es p)) none) in
      let h'' = least_cond (ahead e) (value es) none (length es) in
      h ∙ ap (min (cond (every behind es) (rank e) none)) (h' ∙ h'')

  look_none : (es : List Entry) → link_look none test ahead behind T es ≤ none
  unfolding link_look
  look_none es = least_start (value es) none (length es)

  -- from left to right
  look_min : (ok : Bool) (best : ℕ) (es : List Entry) → best ≤ none → fewest_from none rank ahead behind (cond ok 0 none) best es
      ≡ min (cond (every behind es) best none) (cond ok (link_look none test ahead behind T es) none)
  unfolding fewest_from every
  look_min ok best [] le = unfold link_look least_below in (let h = cond_same ok none in omega arith)
  look_min ok best (e ∷ es) le =
      let h = look_min (ok && ahead e) (min (cond (behind e) best none) (cond ok (rank e) none)) es (new_le (behind e)) in
      ap₂ (λ (floor b : ℕ). fewest_from none rank ahead behind floor b es) (floor_and ok (ahead e) none)
      (floor_min ok (cond (behind e) best none) (rank e) none (best_le (behind e)))
      ∙ h ∙ (arranged ok (ahead e) (behind e) (every behind es) best (rank e) (link_look none test ahead behind T es) none le (look_none es)
      ∙ ap (λ x. min (cond (behind e && every behind es) best none) (cond ok x none)) (sym (look_cons e es)))
    where
      best_le : (b : Bool) → cond b best none ≤ none
      best_le true = le
      best_le false = omega arith

      new_le : (b : Bool) → min (cond b best none) (cond ok (rank e) none) ≤ none
      new_le true = omega arith
      new_le false = omega arith

  pub fewest_from_lem : (es : List Entry) → link_look none test ahead behind T es ≡ fewest_from none rank ahead behind 0 none es
  fewest_from_lem es =
      let h = look_min true none es (omega arith) in
      let h' = look_none es in
      let h'' = cond_same (every behind es) none in
      omega arith

  module _ (k : ℕ) (low : k < none) where
    -- the position that is chosen, from left to right
    position_index : (ok : Bool) (i : ℕ) (es : List Entry)
        → position_from none rank ahead behind k ok i es ≡ i + first_index (λ p. leb (cond ok (value es p) none) k) (length es)
    unfolding position_from first_index every
    position_index ok i [] = omega arith
    position_index ok i (e ∷ es) =
        let rest = position_index (ok && ahead e) (suc i) es in
        let same =
        first_same (λ p. leb (cond ok (value (e ∷ es) (suc p)) none) k) (λ p. leb (cond (ok && ahead e) (value es p) none) k) (length es)
        (λ p l. ap (λ x. leb x k)
        (ap (λ x. cond ok x none) (cond_and (ahead e) (every ahead (take p es)) (every behind (drop (suc p) es)) (rank (entry_at es p)) none)
        ∙ cond_cond ok (ahead e) (value es p) none)) in
        let here = leb_cond ok (every behind es) (rank e) k none low in
        rw (here, same, rest) (cond_index ((ok && every behind es) && leb (rank e) k) i (first_index (λ p. leb (cond (ok && ahead e) (value es p) none) k) (length es)))

    pub position_from_lem : (es : List Entry) → chosen_position (value es) k es ≡ position_from none rank ahead behind k true 0 es
    unfolding chosen_position
    position_from_lem es = let h = position_index true 0 es in omega arith

    -- an alternative has such a position exactly where it comes to no more than k
    position_inside : (es : List Entry) → ltb (position_from none rank ahead behind k true 0 es) (length es) ≡ leb (link_look none test ahead behind T es) k
    unfolding link_look chosen_position
    position_inside es =
        rw (← position_from_lem es)
        (both_ways (ltb (first_index passes (length es)) (length es)) (leb (least_below (value es) none (length es)) k) there back)
      where
        passes : ℕ → Bool
        passes p = leb (value es p) k

        there : ltb (first_index passes (length es)) (length es) ≡ true → leb (least_below (value es) none (length es)) k ≡ true
        there e =
            let lt = ltb-true (first_index passes (length es)) (length es) e in
            let le = leb-true (value es (first_index passes (length es))) k (first_passes passes (length es) lt) in
            let least = least_le (value es) none (length es) (first_index passes (length es)) lt in
            le-leb (least_below (value es) none (length es)) k (omega arith)

        back : leb (least_below (value es) none (length es)) k ≡ true → ltb (first_index passes (length es)) (length es) ≡ true
        back e =
            let le = leb-true (least_below (value es) none (length es)) k e in
            ⊎_elim (λ h. absurd (omega arith))
            (λ (p, lt, h).
            let found = (first_found passes (length es) p lt (le-leb (value es p) k (omega arith))).0 in
            lt-ltb (first_index passes (length es)) (length es) (omega arith))
            (least_cases (value es) none (length es))

    -- the link of sequence c that is chosen by ranks
    pub link_newest : (S : List Sequence) (c : ℕ)
        → touch_link c (chosen_alternative S (link_look none test ahead behind) T k c)
        (chosen_position (value (alternative_of S c (chosen_alternative S (link_look none test ahead behind) T k c))) k
        (alternative_of S c (chosen_alternative S (link_look none test ahead behind) T k c)))
        ≡ newest_link none rank ahead behind c k (alternatives_of S c)
    unfolding chosen_alternative newest_link
    link_newest S c =
        ap₂ (λ (fits : Alternative → Bool) (place : Alternative → ℕ). touch_link c (newest fits (alternatives_of S c)) (place (alternative_of S c (newest fits (alternatives_of S c)))))
        (fun_ext (λ es. sym (position_inside es))) (fun_ext position_from_lem)

-- The entries from an index on pass exactly from the index on that one walk gives.
tail_all : (test : Entry → Bool) (i start : ℕ) (es : List Entry) → every test es ≡ true → tail_from test i start es ≡ start
unfolding tail_from every
tail_all test i start [] h = refl
tail_all test i start (e ∷ es) h =
    let p = and_parts (test e) (every test es) h in
    rw p.0 (tail_all test (suc i) start es p.1)

tail_some : (test : Entry → Bool) (i start : ℕ) (es : List Entry) → every test es ≡ false → i < tail_from test i start es
unfolding tail_from every
tail_some test i start [] h = absurd (true≢false h)
tail_some test i start (e ∷ es) h = go (test e) (every test es) refl h (tail_all test (suc i) (suc i) es) (λ x. tail_some test (suc i) x es)
  where
    go : (b bs : Bool) → every test es ≡ bs → (b && bs) ≡ false → (every test es ≡ true → tail_from test (suc i) (suc i) es ≡ suc i)
        → ((x : ℕ) → every test es ≡ false → suc i < tail_from test (suc i) x es) → i < tail_from test (suc i) (cond b start (suc i)) es
    go true true s f all some = absurd (true≢false f)
    go true false s f all some = let h = some start s in omega arith
    go false true s f all some = let h = all s in omega arith
    go false false s f all some = let h = some (suc i) s in omega arith

pub tail_from_lem : (test : Entry → Bool) (i start n : ℕ) (es : List Entry) → start ≤ i → leb (tail_from test i start es) (i + n) ≡ every test (drop n es)
unfolding tail_from every
tail_from_lem test i start zero es le = go (every test es) refl
  where
    go : (b : Bool) → every test es ≡ b → leb (tail_from test i start es) (i + 0) ≡ every test es
    go true e = let h = tail_all test i start es e in rw e (le-leb (tail_from test i start es) (i + 0) (omega arith))
    go false e = let h = tail_some test i start es e in rw e (lt-leb (tail_from test i start es) (i + 0) (omega arith))
tail_from_lem test i start (suc n) [] le = le-leb start (i + suc n) (omega arith)
tail_from_lem test i start (suc n) (e ∷ es) le =
    let h : suc i + n ≡ i + suc n = omega arith in
    rw h at (tail_from_lem test (suc i) (cond (test e) start (suc i)) n es (start_le (test e)))
  where
    start_le : (b : Bool) → cond b start (suc i) ≤ suc i
    start_le true = omega arith
    start_le false = omega arith
