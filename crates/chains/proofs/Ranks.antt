-- Ranks by rounds: the table that the rounds end in is closed, and whatever one look at an alternative preserves holds of every rank.
-- Both halves are about any look; what is said of one look serves a table that is lowered in place as well.
use Prim.Native.Nat.{ℕ, zero, suc, ◌*◌, ◌≤◌, ◌<◌}
use mathlib.Core.Path.{◌≡◌, refl, sym, subst}
use mathlib.Core.Logic.{◌⊎◌, inl, inr, ⊎_elim}
use mathlib.Core.Bool.{true, false}
use mathlib.Core.List.{List}
use native.Mathlib.Omega.{arith}
use native.Mathlib.Decide.{dec_lt}
use lib.ListN.{length, get_or, replicate, get_or-eq_default}
use lib.Dec.{leb, ltb}
use borrow.Author.Tests.{leb-true, le-leb, ltb-true, ltb-false}
use Rattle.library.specs.Library.{Sequence}
use Rattle.runs.specs.Run.{alternatives_of, alternative_of}
use Rattle.runs.proofs.Possible.{alternative_below}
use Rattle.general.proofs.Bools.{passes_or_not}
use Rattle.general.specs.Scan.{list_below}
use Rattle.general.specs.Numbers.{total}
use Rattle.chains.specs.Ranks.{Ranks, Look, lowered, Unlowered, round, rounds, ranks, Attained}
use Rattle.chains.specs.Answer.{newest, chosen_alternative}
use Rattle.general.proofs.Scan.{last_found, least_start, least_le, least_cases, length_list_below, get_d_list_below, total_constant, total_same}

-- the alternative that is chosen comes to no more than k, and no higher one does
pub record Newest (S : List Sequence) (look : Look) (T : Ranks) (c k i : ℕ) : Type 0 where
  pub listed : i < length (alternatives_of S c)
  pub keeps : look T (alternative_of S c i) ≤ k
  pub highest : (j : ℕ) → j < length (alternatives_of S c) → look T (alternative_of S c j) ≤ k → j ≤ i

pub alternative_newest : (S : List Sequence) (look : Look) (T : Ranks) (c k j : ℕ) → j < length (alternatives_of S c)
    → look T (alternative_of S c j) ≤ k → Newest S look T c k (chosen_alternative S look T k c)
unfolding newest chosen_alternative
alternative_newest S look T c k j lt low =
    let n = length (alternatives_of S c) in
    let found = last_found (λ i. leb (look T (alternative_of S c i)) k) n n in
    let r = found j lt (le-leb (look T (alternative_of S c j)) k low) in
    record {
      listed = r.1;
      keeps = leb-true (look T (alternative_of S c (chosen_alternative S look T k c))) k r.2;
      highest = λ i l h. (found i l (le-leb (look T (alternative_of S c i)) k h)).0;
    }

-- Ranks that are reached, and that are no higher than what anything reaches, are the least ones: no table whose ranks are reached has a
-- lower one.
pub ranks_least : (P : ℕ → ℕ → Type 0) (none : ℕ) (T U : Ranks) → ((c n : ℕ) → P c n → T c ≤ n) → ((c : ℕ) → T c ≤ none) → Attained P none U
    → (c : ℕ) → T c ≤ U c
ranks_least P none T U low capped reached c = go (dec_lt (U c) none)
  where
    go : Dec (U c < none) → T c ≤ U c
    go (yes h) = low c (U c) (reached c h)
    go (no h) = let le = capped c in omega arith

module _ (S : List Sequence) (look : Look) where
  pub lowered_le : (T : Ranks) (c : ℕ) → lowered S look T c ≤ T c
  unfolding lowered
  lowered_le T c = least_start (λ i. suc (look T (alternative_of S c i))) (T c) (length (alternatives_of S c))

  pub lowered_look : (T : Ranks) (c i : ℕ) → i < length (alternatives_of S c) → lowered S look T c ≤ suc (look T (alternative_of S c i))
  unfolding lowered
  lowered_look T c i lt = least_le (λ i. suc (look T (alternative_of S c i))) (T c) (length (alternatives_of S c)) i lt

  module _ (none : ℕ) where
    -- the ranks in a list
    abbrev in_list : List ℕ → Ranks
    in_list T d = get_or T d none

    round_length : (T : List ℕ) → length (round S look none T) ≡ length S
    unfolding round
    round_length T = length_list_below (lowered S look (in_list T)) (length S)

    -- a round that lowers nothing leaves a closed table
    closed_last : (T : List ℕ) → length T ≡ length S → total T ≤ total (round S look none T) → Unlowered S look (in_list T)
    unfolding round
    closed_last T e le c i lt =
        let below : c < length T = rw e (alternative_below S c i lt) in
        let same =
        total_same (lowered S look (in_list T)) none T (λ j l. lowered_le (in_list T) j) (rw e le) c below in
        subst (λ n. n ≤ suc (look (in_list T) (alternative_of S c i))) same (lowered_look (in_list T) c i lt)

    -- a round that lowers something is followed by the rounds after it, and one that lowers nothing is the last
    rounds_step : (n : ℕ) (T : List ℕ)
        → ((rounds S look none (suc n) T ≡ rounds S look none n (round S look none T)) × (total (round S look none T) < total T))
        ⊎ ((rounds S look none (suc n) T ≡ T) × (total T ≤ total (round S look none T)))
    unfolding rounds
    rounds_step n T =
        ⊎_elim
        (λ (e : ltb (total (round S look none T)) (total T) ≡ true). inl (rw (e, rounds), ltb-true (total (round S look none T)) (total T) e))
        (λ (e : ltb (total (round S look none T)) (total T) ≡ false). inr (rw (e, rounds), ltb-false (total (round S look none T)) (total T) e))
        (passes_or_not (ltb (total (round S look none T)) (total T)))

    rounds_closed : (n : ℕ) (T : List ℕ) → length T ≡ length S → total T ≤ n → Unlowered S look (in_list (rounds S look none n T))
    rounds_closed zero T e le = unfold rounds in closed_last T e (omega arith)
    rounds_closed (suc n) T e le =
        ⊎_elim (λ (s, fewer). rw s (rounds_closed n (round S look none T) (round_length T) (omega arith)))
        (λ (s, same). rw s (closed_last T e same)) (rounds_step n T)

    -- no look lowers a rank
    pub ranks_closed : Unlowered S look (in_list (ranks S look none))
    unfolding ranks
    ranks_closed =
        rounds_closed (length S * none) (list_below (λ c. none) (length S)) (length_list_below (λ c. none) (length S))
        (omega (arith, total_constant none (length S)))

    -- no rank is above `none`
    list_capped : (v : Ranks) → ((c : ℕ) → v c ≤ none) → (n c : ℕ) → get_or (list_below v n) c none ≤ none
    unfolding list_below
    list_capped v le zero c = omega arith
    list_capped v le (suc n) zero = le 0
    list_capped v le (suc n) (suc c) = list_capped (λ i. v (suc i)) (λ i. le (suc i)) n c

    rounds_capped : (n : ℕ) (T : List ℕ) → ((c : ℕ) → in_list T c ≤ none) → (c : ℕ) → in_list (rounds S look none n T) c ≤ none
    rounds_capped zero T le = unfold rounds in le
    rounds_capped (suc n) T le =
        ⊎_elim
        (λ (s, fewer). rw s (rounds_capped n (round S look none T)
        (unfold round in list_capped (lowered S look (in_list T)) (λ d. let h = lowered_le (in_list T) d in let h' = le d in omega arith) (length S))))
        (λ (s, same). rw s le) (rounds_step n T)

    pub ranks_capped : (c : ℕ) → in_list (ranks S look none) c ≤ none
    unfolding ranks
    ranks_capped = rounds_capped (length S * none) (list_below (λ c. none) (length S)) (list_capped (λ c. none) (λ c. omega arith) (length S))

    -- a table without a rank, of any length
    pub start_unranked : (n c : ℕ) → in_list (replicate n none) c ≡ none
    start_unranked zero c = refl
    start_unranked (suc n) zero = refl
    start_unranked (suc n) (suc c) = start_unranked n c

    -- what one look at an alternative preserves holds of every rank
    module _ (P : ℕ → ℕ → Type 0)
        (keeps : (T : Ranks) → Attained P none T → (c i : ℕ) → i < length (alternatives_of S c) → suc (look T (alternative_of S c i)) < none
        → P c (suc (look T (alternative_of S c i)))) where
      pub lowered_reached : (T : Ranks) → Attained P none T → Attained P none (lowered S look T)
      unfolding lowered
      lowered_reached T reached c lt =
          ⊎_elim (λ e. subst (P c) (sym e) (reached c (omega arith)))
          (λ (i, l, e). subst (P c) (sym e) (keeps T reached c i l (omega arith)))
          (least_cases (λ i. suc (look T (alternative_of S c i))) (T c) (length (alternatives_of S c)))

      pub start_reached : (n : ℕ) → Attained P none (in_list (replicate n none))
      start_reached n c lt = let e = start_unranked n c in absurd (omega arith)

      list_reached : (v : Ranks) → Attained P none v → Attained P none (in_list (list_below v (length S)))
      list_reached v reached c lt = go (dec_lt c (length S))
        where
          go : Dec (c < length S) → P c (in_list (list_below v (length S)) c)
          go (yes h) =
              let e = get_d_list_below v (length S) c none h in
              subst (P c) (sym e) (reached c (omega arith))
          go (no h) =
              let l = length_list_below v (length S) in
              let e = get_or-eq_default (list_below v (length S)) none {n = c} (omega arith) in
              absurd (omega arith)

      rounds_reached : (n : ℕ) (T : List ℕ) → Attained P none (in_list T) → Attained P none (in_list (rounds S look none n T))
      rounds_reached zero T reached = unfold rounds in reached
      rounds_reached (suc n) T reached =
          ⊎_elim
          (λ (s, fewer). rw s (rounds_reached n (round S look none T) (unfold round in list_reached (lowered S look (in_list T)) (lowered_reached (in_list T) reached))))
          (λ (s, same). rw s reached) (rounds_step n T)

      pub ranks_reached : Attained P none (in_list (ranks S look none))
      unfolding ranks
      ranks_reached =
          rounds_reached (length S * none) (list_below (λ c. none) (length S))
          (list_reached (λ c. none) (λ c lt. absurd (omega arith)))
