-- No engine that is wrong in one of the ways of specs/Wrong meets the demand that names it.
-- It has: the samples that decide, by computation; the wrong ways by the demand that they fail; and for each an engine that goes that way (the
-- names that end in `-goes`).
-- Assumes nothing.
use Prim.Native.Nat.{ℕ, zero, suc, ◌+◌, ◌*◌, ◌/◌, ◌^◌, ◌<◌}
use native.Mathlib.Omega.{arith}
use mathlib.Core.Path.{◌≡◌, refl, sym, ap, subst, ◌∙◌}
use mathlib.Core.Logic.{inl, inr}
use mathlib.Core.Bool.{false, ◌||◌}
use mathlib.Core.List.{List, [], ◌∷◌, ◌++◌}
use lib.ListN.{length, get_or, drop, take, replicate}
use lib.ListN as list
use Rattle.general.specs.Tests.{some}
use Rattle.general.proofs.Scan.{get_d_list_below}
use Rattle.swap.specs.Swapped.{swapped, DifferentEntries}
use Rattle.column.specs.Column.{bit}
use Rattle.column.specs.Sets.{in_column, count_below}
use Rattle.column.proofs.Bits.{bit_zero, bit_none}
use Rattle.image.specs.Answer.{checked_answer}
use Rattle.rules.specs.Checked.{all_but_last, last_word, scan, checked}
use Rattle.seal.proofs.Right.{last_snoc}
use Rattle.library.specs.Library.{Library, has, library_of}
use Rattle.rules.specs.Rules.{opened, last_of, sets_of}
use Rattle.general.specs.Numbers.{total}
use Rattle.image.specs.Word.{payload, running_sums}
use Rattle.library.proofs.Accepted.{counted}
use Rattle.runs.specs.Possible.{possible, has_run}
use Rattle.runs.proofs.Columns.{no_run_iff}
use Rattle.runs.proofs.Outcome.{present≢untouched}
use Rattle.cards.specs.Area.{part_word, part_number}
use Rattle.cards.specs.Layout.{CardColumn, always_stands, place, column_words, card_words, laid}
use Rattle.column.specs.Words.{words, number}
use Rattle.cards.specs.Card.{card, cards}
use Rattle.cards.specs.Composed.{list_card}
use Rattle.cards.specs.Meaning.{Always, needed, set, cleared, column_of}
use Rattle.runs.specs.Touch.{question_of}
use Rattle.chains.specs.Link.{Link, touch_link, untouched_link, Chain, chain_words, Fits}
use Rattle.chains.proofs.Fits.{accepted_fits}
use Rattle.endings.specs.Endless.{Endless}
use Rattle.endings.specs.Reached.{endless_list}
use Rattle.endings.proofs.Listed.{listed_is}
use Rattle.chains.specs.Answer.{shown}
use Rattle.chains.specs.Call.{answered, chained}
use Rattle.agreement.specs.Samples.{L, bare, self_call, clear_then_need, ten_sequences, card1, few, joined, cards_l}
use Rattle.dulimoven.specs.Returned.{Returned, returned}
use Rattle.dulimoven.specs.ChainCall.{Asked, Answers, Links, ChainReturn}
use Rattle.dulimoven.specs.ChainCall as chain
use Rattle.dulimoven.specs.Demands.{Engine, Refuses, count, Ready, Demand1, Demand2, Proves, Demand3}
use Rattle.dulimoven.specs.Added.{Listed, list_over, Lists}
use Rattle.dulimoven.specs.Explained.{found, Explains}
use Rattle.dulimoven.specs.Sealed.{Sealer, SealDemand, Seals}
use Rattle.dulimoven.proofs.SealCall.{seal_only}
use Rattle.dulimoven.specs.Engine.{engine, sealer}
use Rattle.agreement.specs.Wrong.{Gets, Unwritten, LongerChain, BlankColumn, OneCard, Untouched, NoneAtOnce, AlwaysTwelve, SameLink, InventedLinks, InventedCount, RefusesAll, RefusesAllCards, RefusesAllChains}
use Rattle.agreement.specs.Wrong.{RefusesAllLists, UnwrittenLists, LastMember, OrderUnnoticed, no_list, lazy_lists, second_card}
use Rattle.agreement.specs.Wrong.{RefusesAllEndless, UnwrittenReasons, AskedAlone, AlwaysSixteen, no_reason, all_run, lazy_reasons, asked_only}
use Rattle.agreement.specs.Wrong.{RefusesAllSeals, Unsealed, LastCounted, no_seal, lazy_seal, whole_sum}
use Rattle.agreement.specs.Wrong.{blank_cards, flagless_cards, lazy_cards, fixed_chain, unwritten, fixed_links, no_image}
use Rattle.dulimoven.proofs.ChainCall.{chain_only}
use Rattle.dulimoven.proofs.Demands.{only_engine, columns, runs}
use Rattle.dulimoven.proofs.Added.{lists_met, list_numbers_lem}
use Rattle.dulimoven.proofs.Swapped.{engines_notice}
use Rattle.agreement.proofs.Fixed.{cards_fixed, area_fixed, links_told, gets_chain, chain_shown}
use Rattle.std.specs.Prelude.{Ok}

-- ---- the samples, by computation

abbrev zeros : ℕ → List ℕ
zeros n = replicate n 0

-- one step, which sets the fact; sequence 0 has the alternatives <step 0> and <sequence 1>, sequence 1 the alternative <step 0>
abbrev detour : List ℕ
detour =
    0x10100201 ∷ 0x50000000 ∷ 0x30000000 ∷ 0x60000000 ∷ 0x70000000 ∷ 0x80000000 ∷ 0x70000000 ∷ 0x90000001 ∷ 0x60000001 ∷ 0x70000000
    ∷ 0x80000000 ∷ 0xf0b57612 ∷ []

-- one alternative with one step that sets the fact
abbrev one_set : List ℕ
one_set = 0x10080201 ∷ 0x50000000 ∷ 0x30000000 ∷ 0x60000000 ∷ 0x70000000 ∷ 0x80000000 ∷ 0xf0315806 ∷ []

accepted_l : checked L ≡ Ok (record { facts = 3; steps = 3; sequences = 3 })
unfolding checked scan total running_sums opened last_of sets_of in_column bit
accepted_l = refl

accepted_ten : checked ten_sequences ≡ Ok (record { facts = 1; steps = 1; sequences = 10 })
unfolding checked scan total running_sums opened last_of sets_of in_column bit
accepted_ten = refl

accepted_self_call : checked self_call ≡ Ok (record { facts = 1; steps = 0; sequences = 1 })
unfolding checked scan total running_sums opened last_of sets_of in_column bit
accepted_self_call = refl

accepted_clear_then_need : checked clear_then_need ≡ Ok (record { facts = 1; steps = 2; sequences = 1 })
unfolding checked scan total running_sums opened last_of sets_of in_column bit
accepted_clear_then_need = refl

accepted_one_set : checked one_set ≡ Ok (record { facts = 1; steps = 1; sequences = 1 })
unfolding checked scan total running_sums opened last_of sets_of in_column bit
accepted_one_set = refl

cards_l_lem : engine.cards L (zeros 147)
    ≡ returned 3 (joined cards_l)
unfolding checked scan total running_sums opened last_of sets_of in_column bit library_of has possible cards card laid words
cards_l_lem = refl

cards_clear_then_need : engine.cards clear_then_need (zeros 49) ≡ returned 1 (few (0x101 ∷ 1 ∷ 1 ∷ 0 ∷ 1 ∷ 0 ∷ 1 ∷ 1 ∷ 0 ∷ 0 ∷ 0 ∷ 0 ∷ 0 ∷ []))
unfolding checked scan total running_sums opened last_of sets_of in_column bit library_of has possible cards card laid words
cards_clear_then_need = refl

cards_one_set : engine.cards one_set (zeros 49) ≡ returned 1 (few (0x101 ∷ 0 ∷ 0 ∷ 1 ∷ 0 ∷ 1 ∷ 0 ∷ 1 ∷ 1 ∷ 0 ∷ 0 ∷ 0 ∷ 0 ∷ []))
unfolding checked scan total running_sums opened last_of sets_of in_column bit library_of has possible cards card laid words
cards_one_set = refl

-- the empty list without a sequence
no_list_lem : engine.list 3 0 [] [] [] ≡ returned 0 (few (3 ∷ 0 ∷ 0 ∷ 0 ∷ 0 ∷ 0 ∷ 0 ∷ 0 ∷ 0 ∷ 7 ∷ 7 ∷ 0 ∷ 7 ∷ []))
unfolding list_card some laid words
no_list_lem = refl

-- sequences 1 and 0 of L
list_l : list_over engine L (zeros 147) (1 ∷ 0 ∷ []) [] ≡ returned 0 card1
unfolding checked scan total running_sums opened last_of sets_of in_column bit library_of has possible cards card laid words list_card some
list_l = refl

-- sequence 2 of L calls itself, and nothing else
endless_l : engine.endless L 2 (zeros 1) ≡ returned 1 (2 ∷ [])
unfolding checked scan total running_sums opened last_of sets_of in_column bit library_of has possible some endless_list
endless_l = refl

endless_ten : engine.endless ten_sequences 0 (zeros 3) ≡ returned 3 (0 ∷ 1 ∷ 3 ∷ [])
unfolding checked scan total running_sums opened last_of sets_of in_column bit library_of has possible some endless_list
endless_ten = refl

-- a head and a word that is no sum word
abbrev unsealed : List ℕ
unsealed = 0x10000001 ∷ 0 ∷ []

seal_bare : sealer unsealed ≡ returned 0 bare
unfolding total running_sums
seal_bare = refl

-- the check of it, as it is and with the sum of both words
check_unsealed : engine.check unsealed ≡ 2 * 2 ^ 32 + 1
unfolding checked scan total running_sums opened last_of sets_of in_column bit
check_unsealed = refl

check_whole : engine.check (whole_sum unsealed).area ≡ 2 * 2 ^ 32 + 1
unfolding checked scan total running_sums opened last_of sets_of in_column bit
check_whole = refl

-- the sum of both words, and that of both with it in the last place
whole_once : last_word (whole_sum unsealed).area ≡ 0xf0000802
unfolding total running_sums
whole_once = refl

whole_twice : last_word (whole_sum (whole_sum unsealed).area).area ≡ 0xf0004c04
unfolding total running_sums
whole_twice = refl

chain_self_call : chained self_call 0 2 0 (length (zeros 2)) ≡ answered (shown (untouched_link 0 1 ∷ []))
unfolding chained checked scan total running_sums opened last_of sets_of in_column bit library_of has possible
chain_self_call = refl

chain_l : chained L 1 0 0 (length (zeros 6)) ≡ answered (shown (touch_link 1 0 0 ∷ touch_link 0 0 0 ∷ []))
unfolding chained checked scan total running_sums opened last_of sets_of in_column bit library_of has possible
chain_l = refl

-- sequence 1 of L, question 3, fact 0: entry 1 of its alternative, step 1, needs the fact
chain_needed : chained L 1 3 0 (length (zeros 2)) ≡ answered (shown (touch_link 1 0 1 ∷ []))
unfolding chained checked scan total running_sums opened last_of sets_of in_column bit library_of has possible
chain_needed = refl

chain_detour : chained detour 0 0 0 (length (zeros 4)) ≡ answered (shown (touch_link 0 0 0 ∷ []))
unfolding chained checked scan total running_sums opened last_of sets_of in_column bit library_of has possible
chain_detour = refl

ready_l : Ready L (zeros 147)
ready_l =
    let size : length (zeros 147) ≡ 147 = refl in
    record { head = _; accepted = accepted_l; room = omega (arith, (counted L _ accepted_l).sequences) }

ready_clear_then_need : Ready clear_then_need (zeros 49)
ready_clear_then_need =
    let size : length (zeros 49) ≡ 49 = refl in
    record { head = _; accepted = accepted_clear_then_need; room = omega (arith, (counted clear_then_need _ accepted_clear_then_need).sequences) }

ready_one_set : Ready one_set (zeros 49)
ready_one_set =
    let size : length (zeros 49) ≡ 49 = refl in
    record { head = _; accepted = accepted_one_set; room = omega (arith, (counted one_set _ accepted_one_set).sequences) }

-- the questions of the samples that get a chain
gets_self_call : Gets self_call 0 2 0 (zeros 2) (untouched_link 0 1 ∷ [])
unfolding chain_words
gets_self_call = gets_chain self_call 0 2 0 (zeros 2) (untouched_link 0 1 ∷ []) chain_self_call (omega arith)

gets_l : Gets L 1 0 0 (zeros 6) (touch_link 1 0 0 ∷ touch_link 0 0 0 ∷ [])
unfolding chain_words
gets_l = gets_chain L 1 0 0 (zeros 6) (touch_link 1 0 0 ∷ touch_link 0 0 0 ∷ []) chain_l (omega arith)

gets_detour : Gets detour 0 0 0 (zeros 4) (touch_link 0 0 0 ∷ [])
unfolding chain_words
gets_detour = gets_chain detour 0 0 0 (zeros 4) (touch_link 0 0 0 ∷ []) chain_detour (omega arith)

-- ---- demand 1

-- "refusing all images"
pub refuses_all : (e : Engine) → RefusesAll e → ¬ Demand1 e
refuses_all e wrong d =
    let right : e.check L ≡ 1574403 = d.check L ∙ ap checked_answer accepted_l in
    let high = wrong L in
    omega arith

-- L's words 14 and 15, <sequence 0> and <step 1>
entries_l : DifferentEntries L 14 15
entries_l = record { one_before = omega arith; other_before = omega arith; one_entry = refl; other_entry = refl; differ = omega arith }

pub order_unnoticed : (e : Engine) → OrderUnnoticed e → ¬ Demand1 e
order_unnoticed e wrong d =
    let right : e.check L ≡ 1574403 = d.check L ∙ ap checked_answer accepted_l in
    let noticed : e.check (swapped L 14 15) ≡ 2 * 2 ^ 32 + 19 = (engines_notice e d).swap L _ 14 15 accepted_l entries_l in
    let same = wrong L 14 15 entries_l in
    omega arith

pub refuses_all_cards : (e : Engine) → RefusesAllCards e → ¬ Demand1 e
refuses_all_cards e wrong d =
    let right : (e.cards L (zeros 147)).number ≡ 3 = ap (λ (r : Returned). r.number) ((only_engine e d).cards L (zeros 147) ∙ cards_l_lem) in
    let high = wrong L (zeros 147) in
    omega arith

pub refuses_all_lists : (e : Engine) → RefusesAllLists e → ¬ Demand1 e
refuses_all_lists e wrong d =
    let none : List ℕ = [] in
    let right = ap (λ (r : Returned). r.number) ((only_engine e d).list 3 0 none none none ∙ no_list_lem) in
    let high = wrong 3 0 none none none in
    omega arith

-- the list of L's sequence 2, and that of sequence 0 of the ten
pub refuses_all_endless : (e : Engine) → RefusesAllEndless e → ¬ Demand1 e
refuses_all_endless e wrong d =
    let right = ap (λ (r : Returned). r.number) ((only_engine e d).endless L 2 (zeros 1) ∙ endless_l) in
    let high = wrong L 2 (zeros 1) in
    omega arith

pub unwritten_reasons : (e : Engine) → UnwrittenReasons e → ¬ Demand1 e
unwritten_reasons e wrong d =
    let right : zeros 1 ≡ 2 ∷ [] = sym (wrong L 2 (zeros 1)) ∙ ap (λ (r : Returned). r.area) ((only_engine e d).endless L 2 (zeros 1) ∙ endless_l) in
    omega (arith, ap (λ (xs : List ℕ). get_or xs 0 0) right)

pub asked_alone : (e : Engine) → AskedAlone e → ¬ Demand1 e
asked_alone e wrong d =
    let right = (only_engine e d).endless ten_sequences 0 (zeros 3) ∙ endless_ten in
    let number = ap (λ (r : Returned). r.number) right in
    let one = wrong ten_sequences 0 (zeros 3) (λ high. omega arith) in
    omega (arith, ap (λ (xs : List ℕ). length xs) (sym (ap found right) ∙ one))

-- two words, of which the second is no sum word
pub refuses_all_seals : (s : Sealer) → RefusesAllSeals s → ¬ SealDemand s
refuses_all_seals s wrong d =
    let right = ap (λ (r : Returned). r.number) (seal_only unsealed (s unsealed) (d.sealed unsealed) ∙ seal_bare) in
    let high = wrong unsealed in
    omega arith

pub images_unsealed : (s : Sealer) → Unsealed s → ¬ SealDemand s
images_unsealed s wrong d =
    let right : unsealed ≡ bare = sym (wrong unsealed) ∙ ap (λ (r : Returned). r.area) (seal_only unsealed (s unsealed) (d.sealed unsealed) ∙ seal_bare) in
    omega (arith, ap (λ (ws : List ℕ). get_or ws 1 0) right)

-- the payload is 0x401, and with the last word it is 0x802
pub last_counted : (s : Sealer) → LastCounted s → ¬ SealDemand s
unfolding total running_sums
last_counted s wrong d =
    let right = ap (λ (r : Returned). payload (last_word r.area)) (seal_only unsealed (s unsealed) (d.sealed unsealed) ∙ seal_bare) in
    let word : payload (last_word (s unsealed).area) ≡ 0x802 = wrong unsealed (omega arith) (omega arith) in
    omega arith

-- none of the three seals: L, which is accepted, does not stay; the check of what the others leave answers 2; and the sum of all words is another
-- the second time
pub refuses_unsealed : ¬ Seals engine.check no_seal
refuses_unsealed seals = let zero : ◌≡◌ {A = ℕ} (2 ^ 32) 0 = ap (λ (r : Returned). r.number) (seals.kept L _ accepted_l) in omega arith

pub lazy_unsealed : ¬ Seals engine.check lazy_seal
lazy_unsealed seals = seals.right unsealed (ap (λ (n : ℕ). n / 2 ^ 32) check_unsealed)

pub whole_unsealed : ¬ Seals engine.check whole_sum
whole_unsealed seals = seals.right unsealed (ap (λ (n : ℕ). n / 2 ^ 32) check_whole)

pub whole_unsettled : ¬ Seals engine.check whole_sum
whole_unsettled seals = let same = ap (λ (r : Returned). last_word r.area) (seals.twice unsealed) in omega (arith, whole_once, whole_twice)

pub unwritten_lists : (e : Engine) → UnwrittenLists e → ¬ Demand1 e
unwritten_lists e wrong d =
    let none : List ℕ = [] in
    let word : ◌≡◌ {A = ℕ} 0 3 =
    ap (λ (a : List ℕ). get_or a 0 0)
    (sym (wrong 3 0 none none none) ∙ ap (λ (r : Returned). r.area) ((only_engine e d).list 3 0 none none none ∙ no_list_lem)) in
    omega arith

-- by demand 1 a question that gets a chain gets its links
module _ (e : Engine) (d : Demand1 e) (image : List ℕ) (c q f : ℕ) (area : List ℕ) (ls : Chain) (gets : Gets image c q f area ls) where
  links_fixed : Links area (e.chain image c q f area) ls
  links_fixed =
      let asked = gets.asked in
      let shows = gets.answers in
      subst (λ (r : Returned). Links area r ls)
      (chain_only image c q f area (returned (length ls) (chain_words ls ++ drop (length (chain_words ls)) area)) (case asked shows)
      ∙ sym ((only_engine e d).chain image c q f area))
      (links asked shows)
    where
      links : Asked image c q f → Answers image c q f ls → Links area (returned (length ls) (chain_words ls ++ drop (length (chain_words ls)) area)) ls
      links asked shows =
          record {
            number = refl;
            area = refl;
            fits = accepted_fits image asked.head (question_of q) f ls shows.run asked.accepted shows.stands;
          }

      case : Asked image c q f → Answers image c q f ls
          → ChainReturn image c q f area (returned (length ls) (chain_words ls ++ drop (length (chain_words ls)) area))
      case asked shows = chain.shown asked ls shows gets.room (links asked shows)

-- one link, and one number: what a question of the samples gets
one_link : (e : Engine) → Demand1 e → (e.chain self_call 0 2 0 (zeros 2)).number ≡ 1
one_link e d = (links_fixed e d self_call 0 2 0 (zeros 2) (untouched_link 0 1 ∷ []) gets_self_call).number

pub refuses_all_chains : (e : Engine) → RefusesAllChains e → ¬ Demand1 e
refuses_all_chains e wrong d =
    let right = one_link e d in
    let high = wrong self_call 0 2 0 (zeros 2) in
    omega arith

-- "12 whatever the area"
pub always_twelve : (e : Engine) → AlwaysTwelve e → ¬ Demand1 e
always_twelve e wrong d =
    let right = one_link e d in
    let twelve = wrong self_call 0 2 0 (zeros 2) (untouched_link 0 1 ∷ []) gets_self_call in
    omega arith

-- no words for question 3
pub unwritten_chain : (e : Engine) → Unwritten 3 e → ¬ Demand1 e
unfolding chain_words
unwritten_chain e wrong d =
    let gets = gets_chain L 1 3 0 (zeros 2) (touch_link 1 0 1 ∷ []) chain_needed (omega arith) in
    let words = (links_fixed e d L 1 3 0 (zeros 2) (touch_link 1 0 1 ∷ []) gets).area in
    let word : ◌≡◌ {A = ℕ} 0 0xa0000001 = ap (λ (a : List ℕ). get_or a 0 0) (sym (wrong L 1 0 (zeros 2)) ∙ words) in
    omega arith

-- a link more than the fewest
pub longer_chain : (e : Engine) → LongerChain e → ¬ Demand1 e
longer_chain e wrong d =
    let fixed =
    (links_fixed e d wrong.image wrong.sequence wrong.question wrong.fact wrong.area wrong.right wrong.gets).number in
    omega (arith, wrong.returns.number, wrong.longer)

-- ---- demand 2

-- "one card for every sequence": the cards of sequences 0 and 2 of L
pub one_card : (e : Engine) → OneCard e → ¬ Demand2 e
one_card e wrong d =
    let size = (counted L _ accepted_l).sequences in
    let first = cards_fixed e d L (zeros 147) ready_l 0 0 (omega arith) (omega arith) in
    let third = cards_fixed e d L (zeros 147) ready_l 2 0 (omega arith) (omega arith) in
    let same = wrong L (zeros 147) ready_l 0 2 0 (omega arith) (omega arith) (omega arith) in
    let one : part_number (engine.cards L (zeros 147)).area 0 0 ≡ 0x103 = ap (λ (r : Returned). part_number r.area 0 0) cards_l_lem in
    let none : part_number (engine.cards L (zeros 147)).area 2 0 ≡ 0 = ap (λ (r : Returned). part_number r.area 2 0) cards_l_lem in
    omega arith

-- "an untouched area"
pub untouched : (e : Engine) → Untouched e → ¬ Demand2 e
untouched e wrong d =
    let fixed = area_fixed e d L (zeros 147) ready_l in
    let same = wrong L (zeros 147) ready_l in
    let word : ◌≡◌ {A = ℕ} 0 0x103 = ap (λ (a : List ℕ). get_or a 0 0) (sym same ∙ fixed ∙ ap (λ (r : Returned). r.area) cards_l_lem) in
    omega arith

-- a blank "always stands" column: sequence 1 of L always leaves facts 0 and 1 standing
pub blank_stands : (e : Engine) → BlankColumn always_stands e → ¬ Demand2 e
unfolding number
blank_stands e wrong d =
    let size = (counted L _ accepted_l).sequences in
    let fixed = cards_fixed e d L (zeros 147) ready_l 1 7 (omega arith) (omega arith) in
    let blank = wrong L (zeros 147) ready_l 1 (omega arith) in
    let three : part_number (engine.cards L (zeros 147)).area 1 7 ≡ 3 = ap (λ (r : Returned). part_number r.area 1 7) cards_l_lem in
    omega arith

-- "an invented .. fact count"
pub invented_count : (e : Engine) → InventedCount e → ¬ Demand2 e
invented_count e wrong d = wrong.invented (d.card wrong.image wrong.area wrong.ready wrong.sequence wrong.low).flags.count

-- sequence 1 of L, and then sequence 0
asked_l : Listed L (zeros 147) (1 ∷ 0 ∷ [])
asked_l =
    let size = (counted L _ accepted_l).sequences in
    record { ready = ready_l; short = omega arith; below = (omega arith, (omega arith, tt)) }

-- L's sequence 2, and sequence 0 of the ten, have no run
none_l : has_run (library_of L) 2 ≡ false
unfolding library_of has possible some
none_l = refl

none_ten : has_run (library_of ten_sequences) 0 ≡ false
unfolding library_of has possible some
none_ten = refl

unended_l : Endless (library_of L) 2
unended_l = record { sequence = omega (arith, (counted L _ accepted_l).sequences); none = (no_run_iff (library_of L) 2).0 none_l }

unended_ten : Endless (library_of ten_sequences) 0
unended_ten = record { sequence = omega (arith, (counted ten_sequences _ accepted_ten).sequences); none = (no_run_iff (library_of ten_sequences) 0).0 none_ten }

-- their lists
reason_l : endless_list (library_of L) 2 ≡ 2 ∷ []
unfolding library_of has possible some endless_list
reason_l = refl

reason_ten : endless_list (library_of ten_sequences) 0 ≡ 0 ∷ 1 ∷ 3 ∷ []
unfolding library_of has possible some endless_list
reason_ten = refl

-- an area with room is not refused
answered_l : (e : Engine) → Explains e → ¬ Refuses (e.endless L 2 (zeros 3)).number
answered_l e x =
    let size : length (zeros 3) ≡ 3 = refl in
    x.enough L (zeros 3) _ accepted_l 2 unended_l (omega (arith, (counted L _ accepted_l).sequences))

pub refuses_explained : (e : Engine) → RefusesAllEndless e → ¬ Explains e
refuses_explained e wrong x = answered_l e x (wrong L 2 (zeros 3))

pub unwritten_explained : (e : Engine) → UnwrittenReasons e → ¬ Explains e
unwritten_explained e wrong x =
    let is = (listed_is (library_of L) 2 _).0 (x.reason L 2 (zeros 3) (answered_l e x)).listed ∙ reason_l in
    go (e.endless L 2 (zeros 3)).number (sym (ap (take (e.endless L 2 (zeros 3)).number) (wrong L 2 (zeros 3))) ∙ is)
  where
    go : (n : ℕ) → take n (zeros 3) ≡ 2 ∷ [] → ⊥
    go zero same = omega (arith, ap (λ (xs : List ℕ). length xs) same)
    go (suc n) same = omega (arith, ap (λ (xs : List ℕ). get_or xs 0 0) same)

pub alone_explained : (e : Engine) → AskedAlone e → ¬ Explains e
alone_explained e wrong x =
    let size : length (zeros 10) ≡ 10 = refl in
    let low = x.enough ten_sequences (zeros 10) _ accepted_ten 0 unended_ten (omega (arith, (counted ten_sequences _ accepted_ten).sequences)) in
    let is = (listed_is (library_of ten_sequences) 0 _).0 (x.reason ten_sequences 0 (zeros 10) low).listed ∙ reason_ten in
    omega (arith, ap (λ (xs : List ℕ). length xs) (sym (wrong ten_sequences 0 (zeros 10) low) ∙ is))

-- by demand 2 the card of L's sequence 2 has no bit 0
pub sixteen_explained : (e : Engine) → AlwaysSixteen e → Demand2 e → ¬ Explains e
sixteen_explained e wrong d x =
    let low : 2 < count (library_of L) = omega (arith, (counted L _ accepted_l).sequences) in
    let (w, run) = (d.card L (zeros 147) ready_l 2 low).flags.run.0 ((x.told L [] (zeros 147) ready_l 2 low).0 (wrong L 2 [])) in
    unended_l.none w run

-- "refusing all .." lists
pub refuses_listed : (e : Engine) → RefusesAllLists e → ¬ Lists e
refuses_listed e wrong lists =
    let right = lists.number L (zeros 147) (1 ∷ 0 ∷ []) [] asked_l in
    let high = wrong (library_of L).facts (count (library_of L)) (e.cards L (zeros 147)).area (1 ∷ 0 ∷ []) [] in
    omega arith

-- the last member's card for the list's
pub last_member : (e : Engine) → LastMember e → Demand2 e → ¬ Lists e
last_member e wrong d lists =
    let size = (counted L _ accepted_l).sequences in
    let fixed =
    list_numbers_lem e d lists L (zeros 147) (1 ∷ 0 ∷ []) [] asked_l 0 (omega arith)
    ∙ sym (list_numbers_lem engine columns lists_met L (zeros 147) (1 ∷ 0 ∷ []) [] asked_l 0 (omega arith)) in
    let right : part_number (list_over engine L (zeros 147) (1 ∷ 0 ∷ []) []).area 0 0 ≡ 0x201 = ap (λ (r : Returned). part_number r.area 0 0) list_l in
    let same = wrong L (zeros 147) [] 1 0 asked_l 0 (omega arith) in
    let first = cards_fixed e d L (zeros 147) ready_l 0 0 (omega arith) (omega arith) in
    let one : part_number (engine.cards L (zeros 147)).area 0 0 ≡ 0x103 = ap (λ (r : Returned). part_number r.area 0 0) cards_l_lem in
    omega arith

-- ---- demand 3

-- an "always" column that is blank on a card has no fact of the right one
module _ (a : Always) (e : Engine) (wrong : BlankColumn (column_of a) e) (d : Demand3 e) where
  blank_right : (image area : List ℕ) → Ready image area → (c : ℕ) → c < count (library_of image) → (f : ℕ) → f < (library_of image).facts
      → bit (part_number (engine.cards image area).area c (place (column_of a))) f ≡ 0
  blank_right image area ready c l f low =
      let lacks : bit (part_number (e.cards image area).area c (place (column_of a))) f ≡ 0 =
      ap (λ (n : ℕ). bit n f) (wrong image area ready c l) ∙ bit_none f in
      ((runs.shown image area ready c l).missing a (f, low)).1 (((d.shown image area ready c l).missing a (f, low)).0 lacks)

-- "blank "always" columns"
pub blank_column : (a : Always) (e : Engine) → BlankColumn (column_of a) e → ¬ Demand3 e
unfolding number
blank_column needed e wrong d =
    let size = counted clear_then_need _ accepted_clear_then_need in
    let zero_bit = blank_right needed e wrong d clear_then_need (zeros 49) ready_clear_then_need 0 (omega (arith, size.sequences)) 0 (omega (arith, size.facts)) in
    let one_bit = ap (λ (r : Returned). bit (part_number r.area 0 1) 0) cards_clear_then_need ∙ bit_zero 1 in
    omega arith
blank_column set e wrong d =
    let size = counted one_set _ accepted_one_set in
    let zero_bit = blank_right set e wrong d one_set (zeros 49) ready_one_set 0 (omega (arith, size.sequences)) 0 (omega (arith, size.facts)) in
    let one_bit = ap (λ (r : Returned). bit (part_number r.area 0 5) 0) cards_one_set ∙ bit_zero 1 in
    omega arith
blank_column cleared e wrong d =
    let size = counted clear_then_need _ accepted_clear_then_need in
    let zero_bit = blank_right cleared e wrong d clear_then_need (zeros 49) ready_clear_then_need 0 (omega (arith, size.sequences)) 0 (omega (arith, size.facts)) in
    let one_bit = ap (λ (r : Returned). bit (part_number r.area 0 6) 0) cards_clear_then_need ∙ bit_zero 1 in
    omega arith

-- the question of the sample with the endless sequence
shown_self_call : (e : Engine) → Demand3 e
    → (links : Chain) × Links (zeros 2) (e.chain self_call 0 2 0 (zeros 2)) links × Proves (library_of self_call) 0 set 0 2 links
shown_self_call e d =
    let room : length (zeros 2) ≡ 2 = refl in
    chain_shown e d self_call 0 2 0 set (inr refl) (zeros 2) (omega (arith, (counted self_call _ accepted_self_call).sequences)) (untouched_link 0 1 ∷ [])
    gets_self_call

-- a chain without a link stands for no run
no_links : (K : Library) (c : ℕ) (a : Always) (f q : ℕ) (links : Chain) → length links ≡ 0 → ¬ Proves K c a f q links
no_links K c a f q [] e p = p.some.1
no_links K c a f q (l ∷ ls) e p = omega arith

-- ""none" before looking"
pub none_at_once : (e : Engine) → NoneAtOnce e → ¬ Demand3 e
none_at_once e wrong d =
    let (links, sees, proves) = shown_self_call e d in
    let none = wrong self_call 0 2 0 (zeros 2) (untouched_link 0 1 ∷ []) gets_self_call in
    no_links (library_of self_call) 0 set 0 2 links (sym sees.number ∙ none) proves

-- "12 whatever the area"
pub twelve_unshown : (e : Engine) → AlwaysTwelve e → ¬ Demand3 e
twelve_unshown e wrong d =
    let (links, sees, proves) = shown_self_call e d in
    let twelve = wrong self_call 0 2 0 (zeros 2) (untouched_link 0 1 ∷ []) gets_self_call in
    let number = sees.number in
    let few = proves.few in
    omega (arith, (counted self_call _ accepted_self_call).sequences)

-- "an invented link": links that do not show what was asked, in any area
pub invented_links : (e : Engine) → InventedLinks e → ¬ Demand3 e
invented_links e wrong d =
    let (links, sees, proves) =
    chain_shown e d wrong.image wrong.sequence wrong.question wrong.fact wrong.column wrong.asks wrong.area wrong.room
    wrong.right wrong.gets in
    let same = links_told wrong.area (e.chain wrong.image wrong.sequence wrong.question wrong.fact wrong.area) links wrong.links sees wrong.returns in
    wrong.invented (subst (Proves (library_of wrong.image) wrong.sequence wrong.column wrong.fact wrong.question) same proves)

-- one link of kind 11 does not answer question 2, one of kind 12 does not answer question 0
touch_unasked : (K : Library) (c f d i p : ℕ) (a : Always) → ¬ Proves K c a f 2 (touch_link d i p ∷ [])
touch_unasked K c f d i p a proves = let (w, (lt, k), run, outcome) = proves.some in k.touch refl

untouched_unasked : (K : Library) (c f d i : ℕ) (a : Always) → ¬ Proves K c a f 0 (untouched_link d i ∷ [])
untouched_unasked K c f d i a proves =
    let (w, (lt, ends, given, leaves), run, outcome) = proves.some in
    present≢untouched (sym outcome ∙ leaves)

-- and one and the same link to every question
pub same_link : (l : Link) (e : Engine) → SameLink l e → ¬ Demand3 e
same_link (touch_link c i p) e wrong d =
    let (links, sees, proves) = shown_self_call e d in
    let told = wrong self_call 0 2 0 (zeros 2) (untouched_link 0 1 ∷ []) gets_self_call in
    let same = links_told (zeros 2) (e.chain self_call 0 2 0 (zeros 2)) links (touch_link c i p ∷ []) sees told in
    touch_unasked (library_of self_call) 0 0 c i p set (subst (Proves (library_of self_call) 0 set 0 2) same proves)
same_link (untouched_link c i) e wrong d =
    let room : length (zeros 6) ≡ 6 = refl in
    let (links, sees, proves) =
    chain_shown e d L 1 0 0 cleared (inl refl) (zeros 6) (omega (arith, (counted L _ accepted_l).sequences)) (touch_link 1 0 0 ∷ touch_link 0 0 0 ∷ []) gets_l in
    let told = wrong L 1 0 0 (zeros 6) (touch_link 1 0 0 ∷ touch_link 0 0 0 ∷ []) gets_l in
    let same = links_told (zeros 6) (e.chain L 1 0 0 (zeros 6)) links (untouched_link c i ∷ []) sees told in
    untouched_unasked (library_of L) 1 0 c i cleared (subst (Proves (library_of L) 1 cleared 0 0) same proves)

-- ---- each way is one that some engine goes

blank_word : (n i : ℕ) → get_or (zeros n) i 0 ≡ 0
blank_word zero i = refl
blank_word (suc n) zero = refl
blank_word (suc n) (suc i) = blank_word n i

blank_column_of : (m i n : ℕ) → number (list.take m (drop i (zeros n))) ≡ 0
unfolding number
blank_column_of zero i n = refl
blank_column_of (suc m) zero zero = refl
blank_column_of (suc m) zero (suc n) = omega (arith, blank_column_of m zero n)
blank_column_of (suc m) (suc i) zero = refl
blank_column_of (suc m) (suc i) (suc n) = blank_column_of (suc m) i n

blank_number : (n c k : ℕ) → part_number (zeros n) c k ≡ 0
blank_number n c zero = blank_word n (card_words * c + 0)
blank_number n c (suc k) = blank_column_of column_words (card_words * c + 1 + column_words * k) n

pub blank_goes : (k : CardColumn) → BlankColumn k blank_cards
blank_goes k image area ready c l = blank_number (length area) c (place k)

pub one_card_goes : OneCard blank_cards
one_card_goes image area ready c d k l m u = blank_number (length area) c k ∙ sym (blank_number (length area) d k)

pub untouched_goes : Untouched lazy_cards
untouched_goes image area ready = refl

-- a card's number where the flags of sequence 0 are 0
abbrev flagless : Returned → ℕ → ℕ
flagless r k = part_number (list.set r.area 0 0) 0 k

abbrev counts : Returned → ℕ
counts r = count_below (library_of L).facts (λ (f : ℕ). in_column (flagless r 3) f || in_column (flagless r 4) f)

-- sequence 0 of L may set one fact
one_changes : counts (engine.cards L (zeros 147)) ≡ 1
unfolding count_below in_column library_of has number bit
one_changes = ap counts cards_l_lem

no_flags : flagless (engine.cards L (zeros 147)) 0 ≡ 0
no_flags = ap (λ (r : Returned). flagless r 0) cards_l_lem

pub invented_count_goes : InventedCount flagless_cards
invented_count_goes =
    record {
      image = L;
      area = zeros 147;
      ready = ready_l;
      sequence = 0;
      low = omega (arith, (counted L _ accepted_l).sequences);
      invented = λ same. omega (arith, one_changes, no_flags, same);
    }

pub none_goes : NoneAtOnce (fixed_chain 0)
none_goes image c q f area ls gets = refl

pub twelve_goes : AlwaysTwelve (fixed_chain (12 * 2 ^ 32))
twelve_goes image c q f area ls gets = refl

pub unwritten_goes : Unwritten 3 (unwritten 3)
unwritten_goes image c f area = refl

pub longer_goes : LongerChain (fixed_links (touch_link 0 1 0 ∷ touch_link 1 0 0 ∷ []))
longer_goes =
    record {
      image = detour;
      sequence = 0;
      question = 0;
      fact = 0;
      area = zeros 4;
      right = touch_link 0 0 0 ∷ [];
      gets = gets_detour;
      links = touch_link 0 1 0 ∷ touch_link 1 0 0 ∷ [];
      returns = record { number = refl; area = refl; fits = ((omega arith, omega arith, omega arith), ((omega arith, omega arith, omega arith), tt)) };
      longer = omega arith;
    }

pub same_link_goes : (l : Link) → Fits l → SameLink l (fixed_links (l ∷ []))
same_link_goes l fits image c q f area ls gets = record { number = refl; area = refl; fits = (fits, tt) }

pub invented_links_goes : InventedLinks (fixed_links (touch_link 0 0 0 ∷ []))
invented_links_goes =
    let size : length (zeros 2) ≡ 2 = refl in
    record {
      image = self_call;
      sequence = 0;
      fact = 0;
      question = 2;
      column = set;
      asks = inr refl;
      area = zeros 2;
      room = omega (arith, (counted self_call _ accepted_self_call).sequences);
      right = untouched_link 0 1 ∷ [];
      gets = gets_self_call;
      links = touch_link 0 0 0 ∷ [];
      returns = same_link_goes (touch_link 0 0 0) (omega arith, omega arith, omega arith) self_call 0 2 0 (zeros 2) (untouched_link 0 1 ∷ []) gets_self_call;
      invented = touch_unasked (library_of self_call) 0 0 0 0 0 set;
    }

pub no_list_goes : RefusesAllLists no_list
no_list_goes facts sequences cards list card = omega arith

pub lazy_lists_goes : UnwrittenLists lazy_lists
lazy_lists_goes facts sequences cards list card = refl

pub last_member_goes : LastMember second_card
last_member_goes image area before m n asked k u = get_d_list_below (part_word (engine.cards image area).area n) card_words k 0 u

pub order_unnoticed_goes : OrderUnnoticed no_image
order_unnoticed_goes image i j entries = refl

pub refuses_goes : RefusesAll no_image
refuses_goes image = omega arith

pub no_reason_goes : RefusesAllEndless no_reason
no_reason_goes image c area = omega arith

pub all_run_goes : AlwaysSixteen all_run
all_run_goes image c area = refl

pub lazy_reasons_goes : UnwrittenReasons lazy_reasons
lazy_reasons_goes image c area = refl

pub asked_alone_goes : AskedAlone asked_only
asked_alone_goes image c area low = refl

pub no_seal_goes : RefusesAllSeals no_seal
no_seal_goes image = omega arith

pub lazy_seal_goes : Unsealed lazy_seal
lazy_seal_goes image = refl

pub whole_sum_goes : LastCounted whole_sum
whole_sum_goes image low high = ap payload (last_snoc (all_but_last image) _) ∙ omega arith
