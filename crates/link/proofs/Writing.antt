-- The words of a chain in the area: the links so far are written, and the words past them stay.
-- It has: numbers that have 28 bits (`entry_low`); two words more (`put_first`); the loop over links (`Writing`, with turn, next and end); the
-- answer by the ranks in the area (`answered_untouched`, `answered_links`).
-- Assumes nothing.
use Prim.Native.Nat.{ℕ, zero, suc, pred, ◌+◌, ◌-◌, ◌*◌, ◌^◌, ◌≤◌, ◌<◌}
use native.Mathlib.Numerals.{sub-one}
use native.Mathlib.Omega.{arith}
use mathlib.Core.Path.{◌≡◌, refl, sym, ap, ap₂, ◌∙◌, subst}
use mathlib.Core.Bool.{Bool, true, false, cond, ◌&&◌}
use mathlib.Core.List.{List, [], ◌∷◌, ◌++◌, append_assoc, append-nil}
use lib.ListN.{length, get_or, set, drop, length-append}
use lib.Seq.{set_at, drop-cons}
use lib.Dec.{leb, ltb}
use borrow.Author.Tests.{lt-ltb}
use Rattle.general.specs.Tests.{All}
use Rattle.library.specs.Library.{step, Entry, item, entry_of, alternatives_from, entry_at}
use Rattle.walk.specs.Walk.{alternatives_at}
use Rattle.question.specs.Answer.{link_length, by_rank, shown_links}
use Rattle.chains.specs.Link.{Link, touch_link, choice_word, link_words, chain_words}
use Rattle.slot.specs.Slots.{entry_number}
use Rattle.slot.proofs.Slots.{entry_number_lem}
use Rattle.link.specs.Choice.{link_in, alternative_in, Chosen, link_entry, link_at, links_in, untouched_in, untouched_words, mark_chain, answer_in}
use Rattle.link.specs.declared.link.Choice.{Choice}
use Rattle.chains.specs.Answer.{Answer, none, shown}
use Rattle.question.specs.Reply.{Answered}
use Rattle.question.specs.Asked.{by_mark}
use Rattle.question.specs.declared.answer.Chained.{Chained}
use Rattle.question.specs.declared.asked.Mark.{Mark}
use Rattle.question.specs.declared.asked.Mark.TheVariants.{Present, Absent, Untouched, Run, Other}
use Rattle.general.proofs.Scan.{get_d_inside}
use Rattle.general.proofs.Tests.{all_default}
use Rattle.library.proofs.Decode.{alternatives_all}
use Rattle.chains.proofs.Words.{words_length}
use Rattle.image.specs.declared.answer.Refusal.TheVariants.{ChainArea}
use Rattle.question.specs.declared.asked.Asked.{Asked}

-- ---- an entry's number has 28 bits

abbrev Low : Entry → Type 0
Low e = entry_number e < 2 ^ 28

word_low : (w : ℕ) → Low (entry_of w)
word_low w = omega (arith, entry_number_lem w)

pub entry_low : (ws : List ℕ) (i p : ℕ) → Low (entry_at (get_or (alternatives_from ws) i []) p)
entry_low ws i p =
    all_default Low (item (step 0)) (omega arith) (get_or (alternatives_from ws) i [])
    (all_default (All Low) [] tt (alternatives_from ws) (alternatives_all Low (λ us. Unit {0}) (λ w us o q. tt) (λ w us e q. word_low w) ws tt) i) p

-- ---- two words after those that are written

put_two : (p area : List ℕ) (n x y : ℕ) → length p ≡ n → n + 2 ≤ length area
    → set (set (p ++ drop n area) n x) (n + 1) y ≡ (p ++ (x ∷ y ∷ [])) ++ drop (n + 2) area
put_two p area n x y e room =
    let one : drop n area ≡ get_or area n 0 ∷ drop (suc n) area = drop-cons area n 0 (omega arith) in
    let two : drop (suc n) area ≡ get_or area (suc n) 0 ∷ drop (suc (suc n)) area = drop-cons area (suc n) 0 (omega arith) in
    let end : suc (suc n) ≡ n + 2 = omega arith in
    let long : length (p ++ (x ∷ [])) ≡ n + 1 = omega (arith, length-append p (x ∷ [])) in
    ap (λ (l : List ℕ). set (set (p ++ l) n x) (n + 1) y) one
    ∙ ap (λ (l : List ℕ). set l (n + 1) y) (set_at p (get_or area n 0) (drop (suc n) area) x n e ∙ sym (append_assoc p (x ∷ []) (drop (suc n) area)))
    ∙ ap (λ (l : List ℕ). set ((p ++ (x ∷ [])) ++ l) (n + 1) y) two
    ∙ set_at (p ++ (x ∷ [])) (get_or area (suc n) 0) (drop (suc (suc n)) area) y (n + 1) long
    ∙ append_assoc p (x ∷ []) (y ∷ drop (suc (suc n)) area)
    ∙ ap (λ (k : ℕ). p ++ (x ∷ y ∷ drop k area)) end
    ∙ sym (append_assoc p (x ∷ y ∷ []) (drop (n + 2) area))

-- the two words of one link
pub put_first : (area : List ℕ) (x y : ℕ) → 2 ≤ length area → set (set area 0 x) (0 + 1) y ≡ (x ∷ y ∷ []) ++ drop 2 area
put_first area x y room = put_two [] area 0 x y refl (omega arith)

-- ---- the loop over links

module _ (m : ℕ) (ahead behind ranks part places : List ℕ) (before : List ℕ) (count first : ℕ) where
  abbrev links : ℕ → ℕ → List Link
  links k c = links_in m ahead behind ranks part places k c

  pub record Writing (area : List ℕ) (k c at : ℕ) : Type 0 where
    pub sequence : c < 2 ^ 28
    pub left : at + link_length * k ≡ link_length * count
    pub done : List ℕ
    pub long : length done ≡ at
    pub written : area ≡ done ++ drop at before
    pub rest : done ++ chain_words (links k c) ≡ chain_words (links count first)

  module _ (room : link_length * count ≤ length before) (area : List ℕ) (k c at : ℕ) (here : Writing area k c at) where
    -- the words so far are the whole chain's
    pub writing_end : k ≡ 0 → area ≡ chain_words (links count first) ++ drop (link_length * count) before
    unfolding links_in chain_words
    writing_end over =
        let l = here.left in
        let all : at ≡ link_length * count = omega arith in
        let last : chain_words (links k c) ≡ [] = ap (λ (n : ℕ). chain_words (links n c)) over in
        here.written
        ∙ ap₂ (λ (p : List ℕ) (n : ℕ). p ++ drop n before) (sym (append-nil here.done) ∙ ap (λ (r : List ℕ). here.done ++ r) (sym last) ∙ here.rest) all

    -- one more link
    pub writing_turn : (j : ℕ) → k ≡ suc j → (i p : ℕ) → touch_link c i p ≡ link_at m ahead behind ranks part places j c
        → Writing (set (set area at (choice_word c i)) (at + 1) (11 * 2 ^ 28 + p)) j (entry_number (entry_at (get_or (alternatives_at part places c) i []) p)) (at + 2)
    unfolding links_in chain_words
    writing_turn j next i p link =
        let l = here.left in
        let two = choice_word c i ∷ (11 * 2 ^ 28 + p) ∷ [] in
        let after = entry_number (entry_at (get_or (alternatives_at part places c) i []) p) in
        let same : chain_words (links k c) ≡ two ++ chain_words (links j after) =
        ap (λ (n : ℕ). chain_words (links n c)) next
        ∙ ap (λ (m : Link). link_words m ++ chain_words (links j (link_entry (alternatives_at part places c) m))) (sym link) in
        record {
          sequence = entry_low (drop (get_or places c 0 + 1) part) i p;
          left = omega arith;
          done = here.done ++ two;
          long = omega (arith, length-append here.done two, here.long);
          written =
              ap (λ (a : List ℕ). set (set a at (choice_word c i)) (at + 1) (11 * 2 ^ 28 + p)) here.written
              ∙ put_two here.done before at (choice_word c i) (11 * 2 ^ 28 + p) here.long (omega arith);
          rest = append_assoc here.done two (chain_words (links j after)) ∙ ap (λ (r : List ℕ). here.done ++ r) (sym same) ∙ here.rest;
        }

    -- the same by what the functions promise that choose a link and write its words
    pub writing_next : (j from : ℕ) (r : Choice) (after : List ℕ) {left end : ℕ} → k ≡ suc j → j ≡ left → at + 2 ≡ end → from ≡ get_or places c 0 + 1
        → Chosen m ahead behind ranks part from j r
        → after ≡ set (set area at (choice_word c r.alternative)) (at + 1) (11 * 2 ^ 28 + r.position) → Writing after left r.entry end
    writing_next j from r after next less more opener chosen put =
        rw (put, chosen.entry, opener, ← less, ← more)
        (writing_turn j next r.alternative r.position (chosen.link c ∙ ap (λ (n : ℕ). link_in m ahead behind ranks c j (alternatives_from (drop n part))) opener))

-- ---- the answer by the ranks

pub links_count : (m : ℕ) (ahead behind ranks part places : List ℕ) (k c : ℕ) → length (links_in m ahead behind ranks part places k c) ≡ k
unfolding links_in
links_count m ahead behind ranks part places zero c = refl
links_count m ahead behind ranks part places (suc k) c =
    ap suc (links_count m ahead behind ranks part places k (link_entry (alternatives_at part places c) (link_at m ahead behind ranks part places k c)))

-- the one link by what the functions promise that choose its alternative and write its words
pub untouched_written : (m : ℕ) (ranks part places : List ℕ) (c k from i count : ℕ) (area after : List ℕ) → c < length ranks → k ≡ get_or ranks c 0 - 1
    → from ≡ get_or places c 0 + 1 → i ≡ alternative_in m ranks k (alternatives_from (drop from part)) → 0 < count → link_length * count ≤ length area
    → after ≡ set (set area 0 (choice_word c i)) (0 + 1) (12 * 2 ^ 28) → after ≡ untouched_words m ranks part places count c area
unfolding untouched_in chain_words
untouched_written m ranks part places c k from i count area after listed before opener choice some room put =
    let least : k ≡ pred (get_or ranks c m) = before ∙ sub-one (get_or ranks c 0) ∙ ap pred (get_d_inside ranks c 0 m listed) in
    put ∙ put_first area (choice_word c i) (12 * 2 ^ 28) (omega arith)
    ∙ ap (λ (j : ℕ). (choice_word c j ∷ 12 * 2 ^ 28 ∷ []) ++ drop 2 area)
    (choice ∙ ap₂ (λ (p n : ℕ). alternative_in m ranks p (alternatives_from (drop n part))) least opener)
    ∙ ap (λ (b : Bool). cond b (chain_words (untouched_in m ranks part places c ∷ []) ++ drop 2 area) area) (sym (lt-ltb 0 count some))

-- the same answer
pub answered_same : {a b : Answer} {before after : List ℕ} {found : Chained} → a ≡ b → Answered a before found after → Answered b before found after
answered_same {before = before} {after = after} {found = found} e answered = subst (λ (x : Answer). Answered x before found after) e answered

-- what is told of a chain and written of it, by whether there is a rank and whether there is room
by_rank_lem : (ls : List Link) (before after : List ℕ) (n : ℕ) (a b : Bool) → length ls ≡ n → leb (link_length * n) (length before) ≡ b
    → after ≡ cond (a && b) (chain_words ls ++ drop (link_length * n) before) before
    → Answered (cond a (shown ls) none) before (cond a (cond b (Chained.Shown (record { count = n })) (Chained.Refused ChainArea)) Chained.None) after
by_rank_lem ls before after n false b count room words = record { answer = refl; area = words }
by_rank_lem ls before after n true true count room words =
    let long : link_length * n ≡ length (chain_words ls) = omega (arith, words_length ls) in
    let fits : leb (length (chain_words ls)) (length before) ≡ true = ap (λ (k : ℕ). leb k (length before)) (sym long) ∙ room in
    record {
      answer = rw fits (ap (λ (k : ℕ). Chained.Shown (record { count = k })) (sym count));
      area = rw fits (words ∙ ap (λ (k : ℕ). chain_words ls ++ drop k before) long);
    }
by_rank_lem ls before after n true false count room words =
    let long : link_length * n ≡ length (chain_words ls) = omega (arith, words_length ls) in
    let fits : leb (length (chain_words ls)) (length before) ≡ false = ap (λ (k : ℕ). leb k (length before)) (sym long) ∙ room in
    record { answer = rw fits; area = rw fits words }

module _ (q : Asked) (ahead behind ranks part places : List ℕ) (c rank count : ℕ) (before after : List ℕ) (listed : c < length ranks)
    (own : rank ≡ get_or ranks c 0) (counted : count ≡ shown_links q rank (length before)) where
  own_rank : get_or ranks c q.none ≡ rank
  own_rank = get_d_inside ranks c q.none 0 listed ∙ sym own

  -- what is told and the answer, by the mark asked for
  abbrev known : ℕ → Mark → Answer
  known r m =
      cond (ltb r q.none)
      (shown (mark_chain m (untouched_in q.none ranks part places c ∷ []) (links_in q.none ahead behind ranks part places r c))) none

  abbrev found : Mark → Chained
  found m =
      cond (ltb rank q.none)
      (cond (leb (link_length * by_mark m 1 rank rank) (length before)) (Chained.Shown (record { count = by_mark m 1 rank rank })) (Chained.Refused ChainArea)) Chained.None

  by_mark_lem : (m : Mark) → q.mark ≡ m → Answered (known rank m) before (found m) after
      → Answered (answer_in q ahead behind ranks part places c) before (by_rank q rank (length before)) after
  unfolding answer_in
  by_mark_lem m mark answered =
      subst (λ (x : Chained). Answered (answer_in q ahead behind ranks part places c) before x after) (ap found (sym mark))
      (answered_same (sym (ap₂ known own_rank mark)) answered)

  count_by : (m : Mark) → q.mark ≡ m
      → count ≡ cond (ltb rank q.none && leb (link_length * by_mark m 1 rank rank) (length before)) (by_mark m 1 rank rank) 0
  count_by m mark =
      counted ∙ ap (λ (x : Mark). cond (ltb rank q.none && leb (link_length * by_mark x 1 rank rank) (length before)) (by_mark x 1 rank rank) 0) mark

  pub answered_untouched : q.mark ≡ Untouched → after ≡ untouched_words q.none ranks part places count c before
      → Answered (answer_in q ahead behind ranks part places c) before (by_rank q rank (length before)) after
  answered_untouched mark words =
      by_mark_lem Untouched mark
      (by_rank_lem (untouched_in q.none ranks part places c ∷ []) before after 1 (ltb rank q.none) (leb 2 (length before)) refl refl
      (words ∙ ap (λ (n : ℕ). untouched_words q.none ranks part places n c before) (count_by Untouched mark) ∙ go (ltb rank q.none && leb 2 (length before))))
    where
      go : (b : Bool) → untouched_words q.none ranks part places (cond b 1 0) c before
          ≡ cond b (chain_words (untouched_in q.none ranks part places c ∷ []) ++ drop 2 before) before
      go true = refl
      go false = refl

  pub answered_links : (q.mark ≡ Untouched → ⊥) → after ≡ chain_words (links_in q.none ahead behind ranks part places count c) ++ drop (link_length * count) before
      → Answered (answer_in q ahead behind ranks part places c) before (by_rank q rank (length before)) after
  unfolding links_in chain_words
  answered_links other words = by q.mark refl
    where
      go : (b : Bool) → chain_words (links_in q.none ahead behind ranks part places (cond b rank 0) c) ++ drop (link_length * cond b rank 0) before
          ≡ cond b (chain_words (links_in q.none ahead behind ranks part places rank c) ++ drop (link_length * rank) before) before
      go true = refl
      go false = refl

      answered : count ≡ cond (ltb rank q.none && leb (link_length * rank) (length before)) rank 0
          → Answered (cond (ltb rank q.none) (shown (links_in q.none ahead behind ranks part places rank c)) none) before
          (cond (ltb rank q.none) (cond (leb (link_length * rank) (length before)) (Chained.Shown (record { count = rank })) (Chained.Refused ChainArea)) Chained.None) after
      answered many =
          by_rank_lem (links_in q.none ahead behind ranks part places rank c) before after rank (ltb rank q.none) (leb (link_length * rank) (length before))
          (links_count q.none ahead behind ranks part places rank c) refl
          (words ∙ ap (λ (n : ℕ). chain_words (links_in q.none ahead behind ranks part places n c) ++ drop (link_length * n) before) many
          ∙ go (ltb rank q.none && leb (link_length * rank) (length before)))

      by : (m : Mark) → q.mark ≡ m → Answered (answer_in q ahead behind ranks part places c) before (by_rank q rank (length before)) after
      by Untouched mark = absurd (other mark)
      by Present mark = by_mark_lem Present mark (answered (count_by Present mark))
      by Absent mark = by_mark_lem Absent mark (answered (count_by Absent mark))
      by Run mark = by_mark_lem Run mark (answered (count_by Run mark))
      by Other mark = by_mark_lem Other mark (answered (count_by Other mark))
