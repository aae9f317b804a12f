-- The loops that choose: what holds at the head of each, a turn, and the ways out.
-- It has: the newest alternative that passes a test, from the last one back (`seeking_` start, turn, found, out); the index from which on all
-- entries pass (`tail_cons`); the first position of an alternative (`placing_` turn, found, out); and the link that both make
-- (`choosing_turn`, `chosen_found`, `chosen_out`).
-- Assumes nothing.
use Prim.Native.Nat.{ℕ, suc, ◌+◌, ◌-◌, ◌≤◌, ◌<◌}
use native.Mathlib.Omega.{arith}
use native.Mathlib.Numerals.{add-one}
use mathlib.Core.Path.{◌≡◌, refl, sym, ap, ap₂, ◌∙◌, subst}
use mathlib.Core.Bool.{Bool, true, false, cond, ◌&&◌}
use mathlib.Core.List.{List, [], ◌∷◌}
use lib.ListN.{length, get_or, take, drop, length-drop, get_or-eq_default}
use lib.Seq.{take_all}
use lib.Dec.{leb, ltb}
use borrow.Author.Tests.{lt-ltb, le-ltb}
use Rattle.image.specs.Word.{payload, is_entry}
use Rattle.library.specs.Library.{step, Entry, item, entry_of, Alternative, entries_from, alternatives_from, entry_at}
use Rattle.walk.specs.Walk.{Before, opener_before, LastBefore, AllBefore}
use Rattle.general.specs.Scan.{every, last_index}
use Rattle.chains.specs.Link.{touch_link}
use Rattle.chains.specs.Answer.{newest}
use Rattle.rank.specs.Walk.{tail_from, position_from, newest_link}
use Rattle.slot.specs.Slots.{entry_number, rank_in, pass_in, traits_in}
use Rattle.link.specs.Choice.{link_in, Chosen}
use Rattle.walk.specs.declared.sequence.Alternatives.{Alternatives}
use Rattle.slot.specs.declared.entry.Traits.{Traits}
use Rattle.walk.proofs.Walking.{Folding, folding_inside, folding_turn, folding_read, folding_entry, folding_out}
use Rattle.walk.proofs.Before.{before_few, Back, before_back}
use Rattle.slot.proofs.Slots.{entry_number_lem}
use Rattle.rank.proofs.Walk.{tail_from_lem}

-- ---- the newest alternative that passes a test

module _ (test : Alternative → Bool) (part : List ℕ) (at : ℕ) where
  abbrev alternatives : List Alternative
  alternatives = alternatives_from (drop at part)

  -- the newest among those below n
  abbrev below : ℕ → ℕ
  below n = last_index (λ i. test (get_or alternatives i [])) (length alternatives) n

  -- what stands at the last opener o of those of n alternatives
  back_at : (n o i : ℕ) → LastBefore part at n o i → 0 < n → Back part at (n - 1) o
  back_at n o i last some =
      let one : n ≡ suc (n - 1) = omega arith in
      rw (last.opener some) (before_back part at (n - 1) i (subst (λ (m : ℕ). Before part at m i) one last.before))

  -- at the head: the newest of all is the newest of the first n, of which the last opens at o
  pub record Seeking (n o : ℕ) : Type 0 where
    pub index : ℕ
    pub last : LastBefore part at n o index
    pub same : below n ≡ newest test alternatives
    pub few : n ≤ length part
    pub inside : 0 < n → o + 1 ≤ length part

  seeking : (n o i : ℕ) → LastBefore part at n o i → below n ≡ newest test alternatives → Seeking n o
  seeking n o i last same =
      record {
        index = i;
        last = last;
        same = same;
        few = before_few part at n i last.before;
        inside = λ some. omega (arith, (back_at n o i last some).inside);
      }

  pub seeking_start : (r : Alternatives) → AllBefore part at r → Seeking r.count r.last
  unfolding newest
  seeking_start r counted = seeking r.count r.last counted.end counted.last (ap below counted.all)

  -- none passes
  pub seeking_out : (n o : ℕ) → Seeking n o → n ≤ 0 → length alternatives ≡ newest test alternatives
  unfolding last_index
  seeking_out n o here over = let none : 0 ≡ n = omega arith in ap below none ∙ here.same

  -- the last of them, whose entries stand after o
  module _ (n o : ℕ) (here : Seeking n o) (some : 0 < n) where
    last_back : Back part at (n - 1) o
    last_back = back_at n o here.index here.last some

    by_last : (b : Bool) → test (entries_from (drop (o + 1) part)) ≡ b → cond b (n - 1) (below (n - 1)) ≡ newest test alternatives
    unfolding last_index
    by_last b e =
        let one : suc (n - 1) ≡ n = omega arith in
        ap (λ (x : Bool). cond x (n - 1) (below (n - 1))) (sym e ∙ ap test (sym last_back.entries)) ∙ ap below one ∙ here.same

    pub seeking_turn : test (entries_from (drop (o + 1) part)) ≡ false → (p : ℕ) → p ≡ opener_before part o → Seeking (n - 1) p
    seeking_turn e p opener = seeking (n - 1) p o (record { before = last_back.before; opener = λ more. opener }) (by_last false e)

    pub seeking_found : test (entries_from (drop (o + 1) part)) ≡ true → n - 1 ≡ newest test alternatives
    seeking_found e = by_last true e

-- ---- the index from which on all entries pass

-- one entry more, of which b is whether it passes
pub tail_cons : (test : Entry → Bool) (i start : ℕ) (e : Entry) (es : List Entry) (b : Bool) → test e ≡ b
    → tail_from test i start (e ∷ es) ≡ tail_from test (i + 1) (cond b start (i + 1)) es
unfolding tail_from
tail_cons test i start e es b traits = rw (add-one i) (ap (λ (x : Bool). tail_from test (suc i) (cond x start (suc i)) es) traits)

-- ---- the words of an alternative, which begin with its entries

-- the words after an opener, as a slice
abbrev pub words_after : List ℕ → ℕ → List ℕ
words_after part o = take (length part - (o + 1)) (drop (o + 1) part)

words_after_lem : (part : List ℕ) (o : ℕ) → words_after part o ≡ drop (o + 1) part
words_after_lem part o = take_all (length part - (o + 1)) (drop (o + 1) part) (omega (arith, length-drop (o + 1) part))

-- past the words stands no entry
pub none_past : (words : List ℕ) → is_entry (get_or words (length words) 0) ≡ false
none_past words = ap is_entry (get_or-eq_default words 0 {n = length words} (omega arith))

-- ---- the first position of an alternative

module _ (none : ℕ) (ahead behind ranks : List ℕ) (k : ℕ) where
  abbrev rank : Entry → ℕ
  rank = rank_in none none ranks

  abbrev position : Bool → ℕ → List Entry → ℕ
  position = position_from none rank (pass_in none ahead) (pass_in none behind) k

  -- an alternative has a position that is chosen
  abbrev pub placed : Alternative → Bool
  placed es = ltb (position true 0 es) (length es)

  module _ (words : List ℕ) where
    abbrev entries : List Entry
    entries = entries_from words

    -- the position that is chosen, and the number of entries, by those that are left
    abbrev whole : ℕ × ℕ
    whole = (position true 0 entries, length entries)

    abbrev rest : Bool → ℕ → List Entry → ℕ × ℕ
    rest ok i es = (position ok i es, i + length es)

    abbrev pub Placing : Bool → ℕ → Type 0
    Placing ok i = Folding words whole 0 (rest ok i) i

    -- an entry, with its traits, where `tail` is the index from which on all entries pass as those behind
    module _ (tail : ℕ) (tailed : tail ≡ tail_from (pass_in none behind) 0 0 entries) (ok : Bool) (i : ℕ) (here : Placing ok i)
        (e : is_entry (get_or words i 0) ≡ true) (t : Traits)
        (traits : t ≡ traits_in none ahead behind ranks (entry_of (get_or words i 0))) where
      abbrev entry : Entry
      entry = entry_of (get_or words i 0)

      abbrev later : List Entry
      later = entries_from (drop (i + 1) words)

      -- the fold with this entry at its head
      opened : Folding words whole 0 (λ es. rest ok i (entry ∷ es)) (i + 1)
      opened = folding_read here e

      -- the entries behind the position pass
      behind_passes : leb tail (i + 1) ≡ every (pass_in none behind) later
      behind_passes =
          let n : 0 + (i + 1) ≡ i + 1 = omega arith in
          let m : i + 1 - 0 ≡ i + 1 = omega arith in
          let h = tail_from_lem (pass_in none behind) 0 0 (i + 1) entries (omega arith) in
          ap (λ (x : ℕ). leb x (i + 1)) tailed ∙ ap (leb (tail_from (pass_in none behind) 0 0 entries)) (sym n) ∙ h
          ∙ ap (λ (x : ℕ). every (pass_in none behind) (drop x entries)) (sym m) ∙ ap (every (pass_in none behind)) opened.passed

      -- whether this position is chosen
      abbrev pub Taken : Bool
      Taken = (ok && leb tail (i + 1)) && leb t.rank k

      position_here : (b : Bool) → Taken ≡ b → position ok i (entry ∷ later) ≡ cond b i (position (ok && t.ahead) (suc i) later)
      unfolding position_from
      position_here b taken =
          let test : ((ok && every (pass_in none behind) later) && leb (rank entry) k) ≡ b =
          ap (λ (x : Bool). (ok && x) && leb (rank entry) k) (sym behind_passes)
          ∙ ap (λ (x : Traits). (ok && leb tail (i + 1)) && leb x.rank k) (sym traits)
          ∙ taken in
          ap (λ (x : Bool). cond x i (position (ok && pass_in none ahead entry) (suc i) later)) test
          ∙ ap (λ (x : Traits). cond b i (position (ok && x.ahead) (suc i) later)) (sym traits)

      pub placing_turn : Taken ≡ false → Placing (ok && t.ahead) (i + 1)
      placing_turn taken =
          let index : suc i ≡ i + 1 = omega arith in
          let count : i + length (entry ∷ later) ≡ i + 1 + length later = omega arith in
          folding_turn here e
          (ap₂ (λ (x y : ℕ). (x, y)) (position_here false taken ∙ ap (λ (n : ℕ). position (ok && t.ahead) n later) index) count)

      placing_found : Taken ≡ true → (position true 0 entries ≡ i) × (i < length entries)
      placing_found taken =
          let count : i + length (entry ∷ later) ≡ length entries = ap (λ (p : ℕ × ℕ). p.1) opened.same in
          (sym (ap (λ (p : ℕ × ℕ). p.0) opened.same) ∙ position_here true taken, omega arith)

    -- no position is chosen
    pub placing_out : (ok : Bool) (i : ℕ) → Placing ok i → is_entry (get_or words i 0) ≡ false → placed entries ≡ false
    unfolding position_from
    placing_out ok i here e =
        let h = folding_out here e in
        let count : i + 0 ≡ length entries = ap (λ (p : ℕ × ℕ). p.1) h in
        let last : position true 0 entries ≡ length entries = sym (ap (λ (p : ℕ × ℕ). p.0) h) ∙ omega arith in
        le-ltb (position true 0 entries) (length entries) (omega arith)

  -- ---- the link

  module _ (part : List ℕ) (at : ℕ) where
    abbrev pub Choosing : ℕ → ℕ → Type 0
    Choosing = Seeking placed part at

    abbrev all : List Alternative
    all = alternatives_from (drop at part)

    -- the link of an alternative, by its number, its entries, the position there and the number that the entry names
    chosen : (i p e : ℕ) (es : Alternative) → i ≡ newest placed all → get_or all i [] ≡ es → p ≡ position true 0 es → e ≡ entry_number (entry_at es p)
        → i ≤ length part → p ≤ length part → Chosen none ahead behind ranks part at k (record { alternative = i; position = p; entry = e })
    unfolding link_in newest_link
    chosen i p e es last there place number low short =
        record {
          link = λ c. ap₂ (touch_link c) last (place ∙ ap (position true 0) (sym there ∙ ap (λ (m : ℕ). get_or all m []) last));
          entry = number ∙ ap (λ (xs : Alternative). entry_number (entry_at xs p)) (sym there);
          alternative_low = low;
          position_low = short;
        }

    -- no alternative has one
    pub chosen_out : (r : Alternatives) → AllBefore part at r → (n o : ℕ) → Choosing n o → n ≤ 0
        → Chosen none ahead behind ranks part at k (record { alternative = r.count; position = 0; entry = 0 })
    unfolding position_from
    chosen_out r counted n o here over =
        chosen r.count 0 0 [] (counted.all ∙ seeking_out placed part at n o here over)
        (get_or-eq_default all [] {n = r.count} (omega (arith, counted.all))) refl refl (before_few part at _ _ counted.last.before) (omega arith)

    -- the last alternative that is left has none, or has one
    module _ (n o : ℕ) (here : Choosing n o) (some : 0 < n) where
      abbrev words : List ℕ
      words = words_after part o

      pub choosing_turn : (ok : Bool) (j : ℕ) → Placing words ok j → is_entry (get_or words j 0) ≡ false → (p : ℕ) → p ≡ opener_before part o
          → Choosing (n - 1) p
      choosing_turn ok j placing out =
          seeking_turn placed part at n o here some (ap (λ (ws : List ℕ). placed (entries_from ws)) (sym (words_after_lem part o)) ∙ placing_out words ok j placing out)

      pub chosen_found : (tail : ℕ) → tail ≡ tail_from (pass_in none behind) 0 0 (entries_from words) → (ok : Bool) (j : ℕ) → Placing words ok j
          → is_entry (get_or words j 0) ≡ true → (t : Traits) → t ≡ traits_in none ahead behind ranks (entry_of (get_or words j 0))
          → (ok && leb tail (j + 1)) && leb t.rank k ≡ true
          → Chosen none ahead behind ranks part at k (record { alternative = n - 1; position = j; entry = payload (get_or words j 0) })
      chosen_found tail tailed ok j placing e t traits taken =
          let found = placing_found words tail tailed ok j placing e t traits taken in
          let index : j - 0 ≡ j = omega arith in
          let same = words_after_lem part o in
          chosen (n - 1) j (payload (get_or words j 0)) (entries_from words)
          (seeking_found placed part at n o here some
          (ap (λ (ws : List ℕ). placed (entries_from ws)) (sym same) ∙ lt-ltb (position true 0 (entries_from words)) (length (entries_from words)) (omega (arith, found.0, found.1))))
          ((last_back placed part at n o here some).entries ∙ ap entries_from (sym same)) (sym found.0)
          (sym (entry_number_lem (get_or words j 0))
          ∙ ap entry_number (sym (folding_entry placing e (item (step 0))) ∙ ap (λ (m : ℕ). get_or (entries_from words) m (item (step 0))) index))
          (omega (arith, here.few)) (omega (arith, folding_inside placing e, ap length same, length-drop (o + 1) part))
