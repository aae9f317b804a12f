-- Tables that describe a library give its answers: what they say of an entry is what `Ranks` says, and so the links and the answer by the
-- ranks are the library's.
-- It has: the ranks of the items (`items_marked`, `items_any`); what a table says of an entry (`pass_is`); the looks at an alternative
-- (`pass_look_lem`, `depth_look_lem`, `touch_look_lem`); the answers (`untouched_answer_lem`, `touch_answer_lem`).
-- Assumes nothing.
use Prim.Native.Nat.{ℕ, zero, suc, pred, ◌+◌, ◌*◌, ◌≤◌, ◌<◌}
use native.Mathlib.Decide.{dec_lt}
use native.Mathlib.Omega.{arith}
use mathlib.Core.Path.{◌≡◌, refl, sym, ap, ap₂, ◌∙◌, fun_ext}
use mathlib.Core.Logic.{◌≢◌}
use mathlib.Core.Bool.{Bool, true, false, cond, ◌&&◌}
use mathlib.Core.List.{List, [], ◌∷◌}
use lib.ListN.{length, get_or, take, drop, length-take, get_or-eq_default}
use lib.Seq.{get_or-take, get_or-drop}
use lib.Dec.{eqb, leb, ltb}
use borrow.Author.Tests.{ne_eqb, ltb-true, lt-ltb, le-ltb}
use Rattle.column.specs.Sets.{in_column}
use Rattle.image.specs.Word.{most_facts}
use Rattle.library.specs.Library.{has, Library, Step, Alternative, Item, step, check, Entry, item, call, entry_at}
use Rattle.library.specs.Tables.{mask_of}
use Rattle.walk.specs.Walk.{alternatives_at}
use Rattle.library.proofs.Decode.{has_none, has_one}
use Rattle.library.proofs.Lookup.{mask_has}
use Rattle.runs.specs.Run.{alternatives_of}
use Rattle.runs.specs.Domain.{no_step, action_of}
use Rattle.runs.specs.Touch.{Side, last, first, Mark, present, absent, untouched, Question, touch, item_touch}
use Rattle.runs.specs.Algebra.{same_mark}
use Rattle.chains.specs.Link.{Link, touch_link, untouched_link, Chain}
use Rattle.general.specs.Scan.{every}
use Rattle.chains.specs.Ranks.{Ranks, Attained, Linked, Unlowered, unranked, entry_rank, entry_passes, depth_look, pass_look, has_mark, ahead_of, behind_of, touch_look, untouched_look}
use Rattle.chains.specs.Answer.{Answer, none, shown, newest, chosen_alternative, followed, links_from, touch_answer, untouched_answer}
use Rattle.rank.specs.Walk.{newest_link, depth_from, fewest_from}
use Rattle.slot.specs.Slots.{entry_number, first_step, in_ranks, item_rank, rank_in, pass_in, step_mark, check_mark, mark_rank, check_rank, step_rank, ItemsRanked}
use Rattle.rank.specs.Tables.{depth_in, every_in, fewest_in, look_in}
use Rattle.link.specs.Choice.{link_in, alternative_in, link_entry, link_at, links_in, untouched_in, mark_chain, answer_in}
use Rattle.chain.specs.Described.{is_first, mark_as, Asks, Masked, Placed, ItemsBy, Described}
use Rattle.question.specs.Asked.{by_mark, fact_block, fact_bit}
use Rattle.question.specs.Asked as question
use Rattle.question.specs.declared.asked.Asked.{Asked}
use Rattle.question.specs.declared.asked.Mark as code
use Rattle.question.specs.declared.asked.Mark.TheVariants.{Present, Absent, Untouched, Run}
use Rattle.chains.proofs.Depth.{step_rank_lem, step_passes}
use Rattle.chains.proofs.Links.{entries_of, chosen_at, position_at, chosen, chosen_rank, ranked_listed}
use Rattle.general.proofs.Scan.{get_d_inside}
use Rattle.rank.proofs.Walk.{depth_from_lem, fewest_from_lem, link_newest}

cond_mark : (x y : Bool) → cond x Present (cond y Absent Untouched) ≡ mark_as (cond x present (cond y absent untouched))
cond_mark true y = refl
cond_mark false true = refl
cond_mark false false = refl

same_number : (m n : Mark) → question.same_mark (mark_as m) (mark_as n) ≡ same_mark m n
same_number present present = refl
same_number present absent = refl
same_number present untouched = refl
same_number absent present = refl
same_number absent absent = refl
same_number absent untouched = refl
same_number untouched present = refl
same_number untouched absent = refl
same_number untouched untouched = refl

by_test : (b : Bool) (x y : Answer) → cond b x y ≡ elim b [ true ↦ x | false ↦ y ]
by_test true x y = refl
by_test false x y = refl

-- ---- the ranks of the items

no_touch : (s : Side) (f : ℕ) → touch s no_step f ≡ untouched
no_touch last f = rw (has_none f)
no_touch first f = rw (has_none f)

module _ (L : Library) (q : Asked) (Q : Question) (masks : List ℕ) (asks : Asks L q Q) (masked : Masked L (fact_block q) masks) where
  abbrev asked : ℕ
  asked = q.fact

  -- the mark of an item, as the code has it
  abbrev mark_as_of : Item → code.Mark
  mark_as_of x = mark_as (item_touch L Q.side asked x)

  -- the bit of the fact in a mask of its block
  in_mask : (n : ℕ) (facts : List ℕ) → n ≡ mask_of (fact_block q) facts → in_column n (fact_bit q) ≡ has asked facts
  in_mask n facts e =
      let whole : 64 * fact_block q + fact_bit q ≡ asked = omega arith in
      ap (λ (x : ℕ). in_column x (fact_bit q)) e ∙ mask_has (fact_block q) facts (fact_bit q) (omega arith) ∙ ap (λ (f : ℕ). has f facts) whole

  step_mark_lem : (a : ℕ) → step_mark q masks a ≡ mark_as_of (step a)
  step_mark_lem a =
      let n = in_mask (get_or masks (3 * a) 0) (action_of L (step a)).needs (masked.needs a) in
      let s = in_mask (get_or masks (3 * a + 1) 0) (action_of L (step a)).sets (masked.sets a) in
      let k = in_mask (get_or masks (3 * a + 2) 0) (action_of L (step a)).clears (masked.clears a) in
      rw (asks.first, n, s, k) (go Q.side)
    where
      go : (s : Side)
          → cond (is_first s) (cond (has asked (action_of L (step a)).needs) Present (cond (has asked (action_of L (step a)).sets) Absent Untouched))
          (cond (has asked (action_of L (step a)).sets) Present (cond (has asked (action_of L (step a)).clears) Absent Untouched))
          ≡ mark_as (item_touch L s asked (step a))
      go last = cond_mark (has asked (action_of L (step a)).sets) (has asked (action_of L (step a)).clears)
      go first = cond_mark (has asked (action_of L (step a)).needs) (has asked (action_of L (step a)).sets)

  -- a check touches its own fact on the first side, and nothing else
  check_touch : (s : Side) (f : ℕ) → item_touch L s asked (check f) ≡ cond (is_first s && eqb f asked) present untouched
  check_touch last f = rw (has_none asked)
  check_touch first f = rw (has_one asked f, has_none asked)

  check_mark_lem : (f : ℕ) → check_mark q f ≡ mark_as_of (check f)
  check_mark_lem f = rw (asks.first, check_touch Q.side f) (cond_mark (is_first Q.side && eqb f asked) false)

  -- the rank of an item by its mark
  mark_rank_lem : (x : Item) (k : code.Mark) → k ≡ mark_as_of x → mark_rank false q k ≡ cond (has_mark L Q asked x) 0 q.none
  mark_rank_lem x k e =
      ap (λ (b : Bool). cond b 0 q.none) (ap₂ question.same_mark e asks.mark ∙ same_number (item_touch L Q.side asked x) Q.mark)

  -- a step past the library's touches nothing, and no more does a check of a fact past those that there may be
  pub mark_past : (a : ℕ) → length L.steps ≤ a → has_mark L Q asked (step a) ≡ same_mark untouched Q.mark
  mark_past a le =
      ap (λ (m : Mark). same_mark m Q.mark)
      (ap (λ (s : Step). touch Q.side s asked) (get_or-eq_default L.steps no_step {n = a} le) ∙ no_touch Q.side asked)

  check_past : (f : ℕ) → most_facts ≤ f → has_mark L Q asked (check f) ≡ same_mark untouched Q.mark
  check_past f le =
      ap (λ (m : Mark). same_mark m Q.mark)
      (check_touch Q.side f
      ∙ ap (λ (b : Bool). cond (is_first Q.side && b) present untouched) (ne_eqb f asked (λ e. omega (arith, asks.fact, masked.narrow)))
      ∙ go (is_first Q.side))
    where
      go : (b : Bool) → cond (b && false) present untouched ≡ untouched
      go true = refl
      go false = refl

  module _ (before after : List ℕ) (size : length before ≡ first_step q.none + length L.steps) where
    -- the table's words are by the marks, or all 0
    module _ (all : Bool) (ranked : ItemsRanked all q masks before after) (past : ℕ) where
      abbrev items : List ℕ
      items = drop q.none after

      item_in : (i : ℕ) → q.none + i < length before → get_or items i past ≡ get_or after (q.none + i) 0
      item_in i l = get_or-drop q.none after i past ∙ get_d_inside after (q.none + i) past 0 (omega (arith, ranked.long))

      step_in : (a : ℕ) → a < length L.steps → item_rank past items (step a) ≡ step_rank all q masks a
      step_in a l =
          let at : q.none + (most_facts + a) ≡ first_step q.none + a = omega arith in
          item_in (most_facts + a) (omega arith) ∙ ap (λ (i : ℕ). get_or after i 0) at ∙ ranked.steps a (omega arith)

      step_out : (a : ℕ) → length L.steps ≤ a → item_rank past items (step a) ≡ past
      step_out a l =
          get_or-drop q.none after (most_facts + a) past
          ∙ get_or-eq_default after past {n = q.none + (most_facts + a)} (omega (arith, ranked.long))

      check_in : (f : ℕ) → f < most_facts → item_rank past items (check f) ≡ check_rank all q f
      check_in f l = get_or-take most_facts items f past l ∙ item_in f (omega arith) ∙ ranked.checks f l

      check_out : (f : ℕ) → most_facts ≤ f → item_rank past items (check f) ≡ past
      check_out f l = get_or-eq_default (take most_facts items) past {n = f} (omega (arith, length-take most_facts items))

    pub items_marked : ItemsRanked false q masks before after → (past : ℕ) → past ≡ cond (same_mark untouched Q.mark) 0 q.none
        → ItemsBy q.none past (has_mark L Q asked) after
    items_marked ranked past end (step a) =
        elim (dec_lt a (length L.steps)) [
          | yes l ↦ step_in false ranked past a l ∙ mark_rank_lem (step a) (step_mark q masks a) (step_mark_lem a)
          | no l ↦ step_out false ranked past a (omega arith) ∙ end ∙ ap (λ (b : Bool). cond b 0 q.none) (sym (mark_past a (omega arith)))
        ]
    items_marked ranked past end (check f) =
        elim (dec_lt f most_facts) [
          | yes l ↦ check_in false ranked past f l ∙ mark_rank_lem (check f) (check_mark q f) (check_mark_lem f)
          | no l ↦ check_out false ranked past f (omega arith) ∙ end ∙ ap (λ (b : Bool). cond b 0 q.none) (sym (check_past f (omega arith)))
        ]

    pub items_any : ItemsRanked true q masks before after → ItemsBy q.none 0 (λ (x : Item). true) after
    items_any ranked (step a) =
        elim (dec_lt a (length L.steps)) [
          | yes l ↦ step_in true ranked 0 a l
          | no l ↦ step_out true ranked 0 a (omega arith)
        ]
    items_any ranked (check f) =
        elim (dec_lt f most_facts) [
          | yes l ↦ check_in true ranked 0 f l
          | no l ↦ check_out true ranked 0 f (omega arith)
        ]

-- ---- what a table says of an entry

module _ (none past : ℕ) (test : Item → Bool) (T : List ℕ) (items : ItemsBy none past test T) where
  pub rank_is : rank_in none past T ≡ entry_rank none test (in_ranks none T)
  rank_is = fun_ext go
    where
      go : (e : Entry) → rank_in none past T e ≡ entry_rank none test (in_ranks none T) e
      go (item x) = items x
      go (call d) = refl

-- an entry has a rank exactly where it passes, where a sequence has one exactly where it passes
pub pass_is : (none : ℕ) → 0 < none → (test : Item → Bool) (run : ℕ → Bool) (T : List ℕ) → ItemsBy none 0 test T
    → ((d : ℕ) → ltb (in_ranks none T d) none ≡ run d) → (e : Entry) → pass_in none T e ≡ entry_passes test run e
pass_is n some test run T items ranked (item x) = ap (λ (r : ℕ). ltb r n) (items x) ∙ go (test x)
  where
    go : (b : Bool) → ltb (cond b 0 n) n ≡ b
    go true = lt-ltb 0 n some
    go false = le-ltb n n (omega arith)
pass_is n some test run T items ranked (call d) = ranked d

-- ---- the looks are the library's

-- where it is only asked whether all entries pass
pub pass_look_lem : (m : ℕ) → 0 < m → (q : Asked) (ahead behind : List ℕ) → q.none ≡ m → q.mark ≡ Run → (test : Item → Bool) (T : List ℕ) → ItemsBy m 0 test T
    → look_in q ahead behind T ≡ pass_look m test (in_ranks m T)
unfolding pass_look
pass_look_lem m some q ahead behind none_is three test T items =
    let by : code.Mark → ℕ → Alternative → ℕ =
    λ k n es. by_mark k (depth_in n T es) (every_in n T es) (fewest_in n ahead behind T es) in
    ap₂ by three none_is
    ∙ fun_ext (λ es. ap (λ (p : Entry → Bool). cond (every p es) 0 m) (fun_ext (pass_is m some test (λ d. ltb (in_ranks m T d) m) T items (λ d. refl))))

module _ (L : Library) (q : Asked) (Q : Question) (asks : Asks L q Q) where
  -- a question that asks for a touch, as the code has it
  touch_is : {A : Type 0} (m : Mark) → m ≢ untouched → (x y z : A) → by_mark (mark_as m) x y z ≡ z
  touch_is present t x y z = refl
  touch_is absent t x y z = refl
  touch_is untouched t x y z = absurd (t refl)

  module _ (ahead behind : List ℕ) where
    abbrev look_by : List ℕ → ℕ → code.Mark → Alternative → ℕ
    look_by T n m es = by_mark m (depth_in n T es) (every_in n T es) (fewest_in n ahead behind T es)

    -- the depth, by any test of the items
    depth_is : (test : Item → Bool) (T : List ℕ) → ItemsBy (unranked L) 0 test T → depth_in (unranked L) T ≡ depth_look (unranked L) test (in_ranks (unranked L) T)
    depth_is test T items =
        fun_ext (λ es. ap (λ (r : Entry → ℕ). depth_from (unranked L) r 0 es) (rank_is (unranked L) 0 test T items) ∙ sym (depth_from_lem (unranked L) test (in_ranks (unranked L) T) es))

    pub depth_look_lem : Q.mark ≡ untouched → (test : Item → Bool) (T : List ℕ) → ItemsBy (unranked L) 0 test T
        → look_in q ahead behind T ≡ depth_look (unranked L) test (in_ranks (unranked L) T)
    depth_look_lem marks_none test T items =
        ap₂ (look_by T) asks.none (asks.mark ∙ ap mark_as marks_none) ∙ depth_is test T items

    -- the links
    pub touch_look_lem : Q.mark ≢ untouched → Described L Q q.fact ahead behind → (T : List ℕ) → ItemsBy (unranked L) (unranked L) (has_mark L Q q.fact) T
        → look_in q ahead behind T ≡ touch_look L Q q.fact (in_ranks (unranked L) T)
    touch_look_lem touch described T items =
        let n = unranked L in
        ap₂ (look_by T) asks.none asks.mark
        ∙ fun_ext (λ es. touch_is Q.mark touch (depth_in n T es) (every_in n T es) (fewest_in n ahead behind T es))
        ∙ fun_ext (λ es.
        ap (λ (r : Entry → ℕ). fewest_from n r (pass_in n ahead) (pass_in n behind) 0 n es) (rank_is n n (has_mark L Q q.fact) T items)
        ∙ ap₂ (λ (a b : Entry → Bool). fewest_from n (entry_rank n (has_mark L Q q.fact) (in_ranks n T)) a b 0 n es) (fun_ext described.by_ahead) (fun_ext described.by_behind)
        ∙ sym (fewest_from_lem n (has_mark L Q q.fact) (ahead_of L Q q.fact Q.side) (behind_of L Q q.fact Q.side) (in_ranks n T) es))

    -- ---- the answer by the ranks

    module _ (part places : List ℕ) (placed : Placed L part places) (ranks : List ℕ) where
      abbrev f : ℕ
      f = q.fact

      abbrev T : Ranks
      T = in_ranks (unranked L) ranks

      own : (c : ℕ) → c < length L.sequences → get_or ranks c q.none ≡ T c
      own c lt = ap (λ (n : ℕ). get_or ranks c n) asks.none ∙ sym (get_or-take (unranked L) ranks c (unranked L) (omega arith))

      -- a question that asks for no touch
      pub untouched_answer_lem : Q.mark ≡ untouched → ItemsBy (unranked L) 0 (has_mark L Q f) ranks → (c : ℕ) → c < length L.sequences
          → answer_in q ahead behind ranks part places c ≡ untouched_answer L Q f T c
      unfolding answer_in alternative_in chosen_alternative untouched_in untouched_answer
      untouched_answer_lem marks_none items c lt =
          let chosen = chosen_alternative L.sequences (untouched_look L Q f) T (pred (T c)) c in
          let alternative : alternative_in q.none ranks (pred (get_or ranks c q.none)) (alternatives_at part places c) ≡ chosen =
          ap₂ (λ (r : ℕ) (alts : List Alternative). alternative_in q.none ranks (pred r) alts) (own c lt) (placed c lt)
          ∙ ap (λ (depth : Alternative → ℕ). newest (λ es. leb (depth es) (pred (T c))) (alternatives_of L.sequences c))
          (ap (λ (n : ℕ). depth_in n ranks) asks.none ∙ depth_is (has_mark L Q f) ranks items) in
          ap (λ (m : code.Mark). cond (ltb (get_or ranks c q.none) q.none) (shown (mark_chain m (untouched_in q.none ranks part places c ∷ []) (links_in q.none ahead behind ranks part places (get_or ranks c q.none) c))) none)
          (asks.mark ∙ ap mark_as marks_none)
          ∙ ap₂ (λ (r i : ℕ). cond (ltb r q.none) (shown (untouched_link c i ∷ [])) none) (own c lt) alternative
          ∙ ap (λ (n : ℕ). cond (ltb (T c) n) (shown (untouched_link c chosen ∷ [])) none) asks.none
          ∙ by_test (ltb (T c) (unranked L)) (shown (untouched_link c chosen ∷ [])) none

      -- a question that asks for a touch, by ranks that are reached and that no look lowers
      module _ (touch : Q.mark ≢ untouched) (described : Described L Q f ahead behind) (items : ItemsBy (unranked L) (unranked L) (has_mark L Q f) ranks)
          (reached : Attained (Linked L Q f) (unranked L) T) (closed : Unlowered L.sequences (touch_look L Q f) T) where
        link_is : (k c : ℕ) → k < unranked L → c < length L.sequences
            → link_at q.none ahead behind ranks part places k c ≡ touch_link c (chosen_at L Q f (unranked L) T c k) (position_at L Q f (unranked L) T c k)
        unfolding link_in
        link_is k c low lt =
            let m = unranked L in
            ap₂ (λ (n : ℕ) (alts : List Alternative). newest_link n (rank_in n n ranks) (pass_in n ahead) (pass_in n behind) c k alts) asks.none (placed c lt)
            ∙ ap (λ (r : Entry → ℕ). newest_link m r (pass_in m ahead) (pass_in m behind) c k (alternatives_of L.sequences c)) (rank_is m m (has_mark L Q f) ranks items)
            ∙ ap₂ (λ (a b : Entry → Bool). newest_link m (entry_rank m (has_mark L Q f) T) a b c k (alternatives_of L.sequences c)) (fun_ext described.by_ahead) (fun_ext described.by_behind)
            ∙ sym (link_newest (unranked L) (has_mark L Q f) (ahead_of L Q f Q.side) (behind_of L Q f Q.side) T k low L.sequences c)

        -- the links after the one that is chosen
        after_is : (k : ℕ) → k < unranked L → (e : Entry) → entry_rank (unranked L) (has_mark L Q f) T e ≡ k
            → ((d : ℕ) → T d ≡ k → links_in q.none ahead behind ranks part places k d ≡ links_from L Q f T k d)
            → links_in q.none ahead behind ranks part places k (entry_number e) ≡ followed e (λ d. links_from L Q f T k d)
        unfolding links_in links_from
        after_is zero low (item x) e rest = refl
        after_is (suc k) low (item x) e rest =
            let z = step_rank_lem (unranked L) (has_mark L Q f x) (step_passes (unranked L) (has_mark L Q f x) (omega arith)) in
            absurd (omega arith)
        after_is k low (call d) e rest = rest d e

        links_are : (k c : ℕ) → T c ≡ k → k < unranked L → links_in q.none ahead behind ranks part places k c ≡ links_from L Q f T k c
        unfolding links_in links_from
        links_are zero c e lt = refl
        links_are (suc k) c e lt =
            let i = chosen_at L Q f (unranked L) T c k in
            let p = position_at L Q f (unranked L) T c k in
            let listed = ranked_listed L Q f (unranked L) touch T reached closed c (omega arith) in
            let link = link_is k c (omega arith) listed in
            let rank =
            chosen_rank L Q f (unranked L) touch T reached closed c k i p e lt (chosen L Q f (unranked L) touch T reached closed c k e lt) in
            ap (λ (l : Link). l ∷ links_in q.none ahead behind ranks part places k (link_entry (alternatives_at part places c) l)) link
            ∙ ap (λ (alts : List Alternative). touch_link c i p ∷ links_in q.none ahead behind ranks part places k (entry_number (entry_at (get_or alts i []) p))) (placed c listed)
            ∙ ap (λ (ls : Chain). touch_link c i p ∷ ls)
            (after_is k (omega arith) (entry_at (entries_of L c i) p) rank (λ d same. links_are k d same (omega arith)))

        pub touch_answer_lem : (c : ℕ) → c < length L.sequences → answer_in q ahead behind ranks part places c ≡ touch_answer L Q f T c
        unfolding answer_in touch_answer
        touch_answer_lem c lt =
            ap (λ (ls : Chain). cond (ltb (get_or ranks c q.none) q.none) (shown ls) none)
            (ap (λ (m : code.Mark). mark_chain m (untouched_in q.none ranks part places c ∷ []) (links_in q.none ahead behind ranks part places (get_or ranks c q.none) c)) asks.mark
            ∙ touch_is Q.mark touch (untouched_in q.none ranks part places c ∷ []) (links_in q.none ahead behind ranks part places (get_or ranks c q.none) c) (links_in q.none ahead behind ranks part places (get_or ranks c q.none) c))
            ∙ ap₂ (λ (r n : ℕ). cond (ltb r n) (shown (links_in q.none ahead behind ranks part places r c)) none) (own c lt) asks.none
            ∙ go (ltb (T c) (unranked L)) refl
          where
            go : (b : Bool) → ltb (T c) (unranked L) ≡ b
                → cond b (shown (links_in q.none ahead behind ranks part places (T c) c)) none ≡ elim b [ true ↦ shown (links_from L Q f T (T c) c) | false ↦ none ]
            go true e = ap shown (links_are (T c) c refl (ltb-true (T c) (unranked L) e))
            go false e = refl
