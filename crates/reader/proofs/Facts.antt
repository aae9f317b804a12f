-- A step's fact words: runs of words of one kind, and that no clear word names what a set word does.
-- Assumes nothing.
use Prim.Native.Nat.{ℕ, zero, suc, ◌+◌, ◌-◌, ◌*◌, ◌%◌, ◌^◌, ◌≤◌, ◌<◌}
use native.Mathlib.Numerals.{add-one}
use native.Mathlib.Omega.{arith}
use mathlib.Core.Path.{◌≡◌, sym, ap, ◌∙◌, subst}
use mathlib.Core.List.{List}
use mathlib.Core.Bool.{true, false}
use mathlib.Core.Logic.{◌⊎◌, inl, ⊎_elim}
use lib.ListN.{length, get_or, take}
use borrow.Author.Count.{below_more}
use Rattle.column.specs.Column.{with_fact}
use Rattle.column.specs.Sets.{in_column, disjoint}
use Rattle.column.proofs.Operations.{in_own, in_more, disjoint_in}
use Rattle.image.specs.Word.{kind, payload}
use Rattle.image.specs.declared.answer.Head.{Head}
use Rattle.general.proofs.Bools.{passes_or_not}
use Rattle.rules.specs.Rules.{sets_of}
use Rattle.rules.specs.Quick.{Counts, FactFollows, with_last}
use Rattle.rules.specs.declared.rules.Earlier.{Earlier}
use Rattle.reader.specs.declared.check.Facts.{Facts}
use Rattle.rules.proofs.Right.{fact_passing}
use Rattle.rules.proofs.Sets.{set_by, sets_next}
use Rattle.reader.specs.Readers.{Read, Run, KindRead, NamesNone, FactsRead}
use Rattle.reader.proofs.Walk.{read_start, read_pass, read_on}

-- ---- the loop over fact words of kind k: a word of that kind above `low` may follow

pub record KindLoop (h : Head) (part : List ℕ) (k at fingerprint low i : ℕ) : Type 0 where
  pub read : KindRead h part k at (record { fingerprint = fingerprint; next = i })
  pub room : k * 2 ^ 28 ≤ low + 1
  pub above : at < i → low ≡ get_or part (i - 1) 0

module _ (h : Head) (part : List ℕ) (k at : ℕ) where
  pub kind_turn : (fingerprint low i : ℕ) → Counts h → i < length part → low < get_or part i 0 → get_or part i 0 < k * 2 ^ 28 + h.facts
      → KindLoop h part k at fingerprint low i
      → KindLoop h part k at (with_fact fingerprint (get_or part i 0 % 64)) (get_or part i 0) (i + 1)
  kind_turn fingerprint low i counts lt more less here =
      let w = get_or part i 0 in
      let bit : payload w % 64 ≡ w % 64 = omega arith in
      record {
        read =
            record {
              run = grind (arith, counts.facts);
              counted = grind (arith, counts.facts);
              printed =
                  below_more (λ (j : ℕ). at ≤ j → in_column (with_fact fingerprint (w % 64)) (payload (get_or part j 0) % 64) ≡ true) i
                  (λ j below from. in_more fingerprint (w % 64) _ (here.read.printed j below from)) (λ from. rw (bit, in_own));
            };
        room = grind (arith, counts.facts);
        above = grind arith;
      }

-- ---- a run is read

module _ (h : Head) (part : List ℕ) (k at next : ℕ) (low : 2 ≤ k) (high : k ≤ 4) (run : Run part k at next)
    (counted : (j : ℕ) → j < next → at ≤ j → payload (get_or part j 0) < h.facts) (opened : 1 ≤ at) (follows : FactFollows (get_or part (at - 1) 0) k) where
  -- what stands before a word of the run
  before_word : (i : ℕ) → i < next → at ≤ i → FactFollows (get_or part (i - 1) 0) k ⊎ ((kind (get_or part (i - 1) 0) ≡ k) × (get_or part (i - 1) 0 < get_or part i 0))
  before_word i less from = grind (arith, run.kinds (i - 1), run.rising i)

  -- a fact word of the next kind may follow it
  pub run_follows : FactFollows (get_or part (next - 1) 0) (suc k)
  run_follows = grind (arith, run.kinds (next - 1))

  -- it is read up to any index, where no clear word before that names what the step sets
  module _ (e : Earlier) where
    pub run_read : (m : ℕ) → at ≤ m → m ≤ next
        → (k ≡ 4 → (j : ℕ) → j < m → at ≤ j → in_column (sets_of 0 (take j part)) (payload (get_or part j 0)) ≡ false)
        → Read h part (with_last e (get_or part (at - 1) 0)) at (with_last e (get_or part (m - 1) 0)) m
    run_read m from to unset = go (m - at) m (omega arith) to unset
      where
        go : (d m : ℕ) → m ≡ at + d → m ≤ next
            → (k ≡ 4 → (j : ℕ) → j < m → at ≤ j → in_column (sets_of 0 (take j part)) (payload (get_or part j 0)) ≡ false)
            → Read h part (with_last e (get_or part (at - 1) 0)) at (with_last e (get_or part (m - 1) 0)) m
        go zero m q to unset = let same : m ≡ at = omega arith in rw same (read_start _ _ _ _ (omega (arith, run.within)))
        go (suc d) m q to unset =
            let i = m - 1 in
            let same : i + 1 ≡ m = omega arith in
            subst (Read h part _ at _) same
            (read_pass _ _ _ _ _ i (go d i (omega arith) (omega arith) (λ four j less. unset four j (omega arith))) _ (omega (arith, run.within))
            (fact_passing h k _ _ low high (run.kinds i (omega arith) (omega arith)) (counted i (omega arith) (omega arith))
            (before_word i (omega arith) (omega arith)) e _ (λ four. unset four i (omega arith) (omega arith))))

-- ---- what a step sets

-- a fact that is set before an index of a step is named by a set word between the step's opener and that index
set_among : (part : List ℕ) (opener f j : ℕ) → kind (get_or part opener 0) ≡ 5 → opener < j → j ≤ length part
    → in_column (sets_of 0 (take j part)) f ≡ true
    → (i : ℕ) × (opener < i) × (i < j) × (kind (get_or part i 0) ≡ 3) × (payload (get_or part i 0) ≡ f)
set_among part opener f zero five low high e = absurd (omega arith)
set_among part opener f (suc j) five low high e =
    ⊎_elim (λ own. let less : opener < j = grind arith in (j, less, omega arith, own.0, own.1))
    (λ old.
    let less : opener < j = grind arith in
    let more = set_among part opener f j five less (omega arith) old.0 in
    (more.0, more.1, omega (arith, more.2), more.3, more.4))
    (set_by (sets_of 0 (take j part)) f (get_or part j 0) (rw (sym (rw (add-one j) at (sets_next part j (omega arith)))) e))

module _ (part : List ℕ) (opener sets clears end : ℕ) (five : kind (get_or part opener 0) ≡ 5) (needs_run : Run part 2 (opener + 1) sets)
    (sets_run : Run part 3 sets clears) (clears_run : Run part 4 clears end) where
  -- a clear word that names the fact of no set word names nothing that the step sets
  unset : (j : ℕ) → j < end → clears ≤ j → NamesNone part sets clears j → in_column (sets_of 0 (take j part)) (payload (get_or part j 0)) ≡ false
  unset j less from none =
      ⊎_elim
      (λ held.
      let found = set_among part opener (payload (get_or part j 0)) j five (grind arith) (grind arith) held in
      let no : (i : ℕ) → opener < i → i < j → kind (get_or part i 0) ≡ 3 → payload (get_or part i 0) ≡ payload (get_or part j 0) → ⊥ =
      λ i low high three same. grind (arith, needs_run.kinds i, clears_run.kinds i, none i) in
      absurd (no found.0 found.1 found.2 found.3 found.4))
      (λ e. e) (passes_or_not (in_column (sets_of 0 (take j part)) (payload (get_or part j 0))))

module _ (h : Head) (part : List ℕ) (opener : ℕ) (needs sets clears : Facts) (five : kind (get_or part opener 0) ≡ 5)
    (needs_read : KindRead h part 2 (opener + 1) needs) (sets_read : KindRead h part 3 needs.next sets)
    (clears_read : KindRead h part 4 sets.next clears) where
  -- the step's fact words are read up to any clear word before which none names the fact of a set word
  pub facts_read : (m : ℕ) → sets.next ≤ m → m ≤ clears.next → ((j : ℕ) → j < m → sets.next ≤ j → NamesNone part needs.next sets.next j)
      → FactsRead h part opener m
  facts_read m from to none e =
      let n = needs.next in
      let s = sets.next in
      let back : opener + 1 - 1 ≡ opener = omega arith in
      let after_opener : FactFollows (get_or part (opener + 1 - 1) 0) 2 = inl (ap (λ (i : ℕ). kind (get_or part i 0)) back ∙ five) in
      let after_needs = run_follows h part 2 (opener + 1) n (omega arith) (omega arith) needs_read.run needs_read.counted (omega arith) after_opener in
      let after_sets =
      run_follows h part 3 n s (omega arith) (omega arith) sets_read.run sets_read.counted (omega (arith, needs_read.run.low)) after_needs in
      subst (λ (i : ℕ). Read h part (with_last e (get_or part i 0)) (opener + 1) (with_last e (get_or part (m - 1) 0)) m) back
      (read_on _ _ _ _ _ _
      (run_read h part 2 _ n (omega arith) (omega arith) needs_read.run needs_read.counted (omega arith) after_opener e n needs_read.run.low (omega arith)
      (λ q. absurd (omega arith))) _ _
      (read_on _ _ _ _ _ _
      (run_read h part 3 n s (omega arith) (omega arith) sets_read.run sets_read.counted (omega (arith, needs_read.run.low)) after_needs e s sets_read.run.low
      (omega arith) (λ q. absurd (omega arith))) _ _
      (run_read h part 4 s clears.next (omega arith) (omega arith) clears_read.run clears_read.counted (omega (arith, needs_read.run.low, sets_read.run.low))
      after_sets e m from to
      (λ q j less low. unset part opener n s clears.next five needs_read.run sets_read.run clears_read.run j (omega arith) low (none j less low)))))

  -- that is all of them, where the fingerprints have no bit in common
  pub apart_read : disjoint clears.fingerprint sets.fingerprint ≡ true → FactsRead h part opener clears.next
  apart_read apart = facts_read clears.next clears_read.run.low (omega arith) (grind (arith, disjoint_in clears.fingerprint sets.fingerprint))

-- ---- the first clear word whose fact is set, found by going over both runs at once

-- within a run the facts do not fall
pub run_rises : (part : List ℕ) (k at next : ℕ) → Run part k at next → (i j : ℕ) → at ≤ i → i ≤ j → j < next → payload (get_or part i 0) ≤ payload (get_or part j 0)
run_rises part k at next run i j from order to = go (j - i) j (omega arith) to
  where
    go : (d j : ℕ) → j ≡ i + d → j < next → payload (get_or part i 0) ≤ payload (get_or part j 0)
    go zero j q to = let same : i ≡ j = omega arith in grind arith
    go (suc d) j q to = grind (arith, go d (j - 1), run.rising j, run.kinds j, run.kinds (j - 1))

-- the set words before index i name less than the clear words from index j on, and the clear words before that name none that is set
pub record Merging (part : List ℕ) (sets clears end i j : ℕ) : Type 0 where
  pub low : sets ≤ i
  pub high : i ≤ clears
  pub from : clears ≤ j
  pub to : j ≤ end
  pub below : (s : ℕ) → s < i → sets ≤ s → (c : ℕ) → j ≤ c → c < end → payload (get_or part s 0) < payload (get_or part c 0)
  pub none_before : (c : ℕ) → c < j → clears ≤ c → NamesNone part sets clears c
