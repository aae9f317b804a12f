-- The wrong engines that "Agreement" of document 01 lists, each by what is wrong with it: "These must be unprovable". Each is wrong in that
-- one way, and nothing is said of what else it does. "Always stands" of document 02, request 4, counts among the columns. Two more are wrong about
-- chains: one that never writes them for a question, and one with a link more than the fewest. Three are wrong about lists (request 5): one
-- refuses all, one writes no card, and one takes the last member's card for the list's. One does not notice entries that change places
-- (request 6). Four are wrong about sequences without a run (request 7): one refuses all, one answers
-- 16 to all, one writes no list, and one lists the asked sequence alone. Three are wrong about sealing: one refuses all, one writes no sum word, and
-- one writes the sum of all words, the last among them.
use Rattle.std.specs.Prelude.{ℕ, ◌+◌, ◌*◌, ◌/◌, ◌^◌, ◌≤◌, ◌<◌, ◌≡◌, ◌≢◌, cond, ◌||◌, List, [], ◌∷◌, ◌++◌, eqb, length, get_or, drop, replicate, set}
use Rattle.general.specs.Scan.{list_below}
use Rattle.image.specs.Word.{most_words, payload, ordered_sum}
use Rattle.rules.specs.Checked.{all_but_last, last_word}
use Rattle.library.specs.Library.{library_of}
use Rattle.swap.specs.Swapped.{swapped, DifferentEntries}
use Rattle.column.specs.Sets.{in_column, count_below}
use Rattle.cards.specs.Layout.{CardColumn, may_set, may_clear, place, card_numbers, card_words}
use Rattle.cards.specs.Area.{part_word, part_number}
use Rattle.cards.specs.Meaning.{Always}
use Rattle.chains.specs.Link.{Link, Chain, chain_words}
use Rattle.dulimoven.specs.Returned.{Returned, returned}
use Rattle.dulimoven.specs.ChainCall.{Asked, Answers, Links}
use Rattle.dulimoven.specs.Demands.{Engine, Refuses, Ready, count, Asks, Proves}
use Rattle.dulimoven.specs.Added.{Listed, list_over}
use Rattle.dulimoven.specs.Explained.{found}
use Rattle.dulimoven.specs.Engine.{engine, sealer}
use Rattle.dulimoven.specs.Sealed.{Sealer}

-- a question whose answer is the chain ls, in an area that has room for it
pub record Gets (image : List ℕ) (c q f : ℕ) (area : List ℕ) (ls : Chain) : Type 0 where
  pub asked : Asked image c q f
  pub answers : Answers image c q f ls
  pub room : length (chain_words ls) ≤ length area

-- "blank "always" columns": one of them is blank on every card
abbrev pub BlankColumn : CardColumn → Engine → Type 0
BlankColumn k e =
    (image area : List ℕ) → Ready image area → (c : ℕ) → c < count (library_of image) → part_number (e.cards image area).area c (place k) ≡ 0

-- "one card for every sequence"
abbrev pub OneCard : Engine → Type 0
OneCard e =
    (image area : List ℕ) → Ready image area → (c d k : ℕ) → c < count (library_of image) → d < count (library_of image) → k < card_numbers
    → part_number (e.cards image area).area c k ≡ part_number (e.cards image area).area d k

-- "or an untouched area"
abbrev pub Untouched : Engine → Type 0
Untouched e = (image area : List ℕ) → Ready image area → (e.cards image area).area ≡ area

-- ""none" before looking": none to each question that gets a chain
abbrev pub NoneAtOnce : Engine → Type 0
NoneAtOnce e =
    (image : List ℕ) (c q f : ℕ) (area : List ℕ) (ls : Chain) → Gets image c q f area ls → (e.chain image c q f area).number ≡ 0

-- "or 12 whatever the area": 12 to each question that gets a chain
abbrev pub AlwaysTwelve : Engine → Type 0
AlwaysTwelve e =
    (image : List ℕ) (c q f : ℕ) (area : List ℕ) (ls : Chain) → Gets image c q f area ls → (e.chain image c q f area).number ≡ 12 * 2 ^ 32

-- no words: the area of every chain of one question as it was
abbrev pub Unwritten : ℕ → Engine → Type 0
Unwritten q e = (image : List ℕ) (c f : ℕ) (area : List ℕ) → (e.chain image c q f area).area ≡ area

-- "The chain has the fewest links": once, a link more
pub record LongerChain (e : Engine) : Type 0 where
  pub image : List ℕ
  pub sequence : ℕ
  pub question : ℕ
  pub fact : ℕ
  pub area : List ℕ
  pub right : Chain
  pub gets : Gets image sequence question fact area right
  pub links : Chain
  pub returns : Links area (e.chain image sequence question fact area) links
  pub longer : length right < length links

-- "an invented link": one and the same link to each question that gets a chain
abbrev pub SameLink : Link → Engine → Type 0
SameLink l e =
    (image : List ℕ) (c q f : ℕ) (area : List ℕ) (ls : Chain) → Gets image c q f area ls → Links area (e.chain image c q f area) (l ∷ [])

-- or, once, links that do not show what was asked
pub record InventedLinks (e : Engine) : Type 0 where
  pub image : List ℕ
  pub sequence : ℕ
  pub fact : ℕ
  pub question : ℕ
  pub column : Always
  pub asks : Asks column question
  pub area : List ℕ
  pub room : 2 * count (library_of image) ≤ length area
  pub right : Chain
  pub gets : Gets image sequence question fact area right
  pub links : Chain
  pub returns : Links area (e.chain image sequence question fact area) links
  pub invented : ¬ Proves (library_of image) sequence column fact question links

-- "or fact count": once, another number than that of the facts "in "may set" or in "may clear""
pub record InventedCount (e : Engine) : Type 0 where
  pub image : List ℕ
  pub area : List ℕ
  pub ready : Ready image area
  pub sequence : ℕ
  pub low : sequence < count (library_of image)
  pub invented : part_number (e.cards image area).area sequence 0 / 2 ^ 8
      ≢ count_below (library_of image).facts
      (λ (f : ℕ). in_column (part_number (e.cards image area).area sequence (place may_set)) f || in_column (part_number (e.cards image area).area sequence (place may_clear)) f)

-- "refusing all images"
abbrev pub RefusesAll : Engine → Type 0
RefusesAll e = (image : List ℕ) → Refuses (e.check image)

-- entries that change places go unnoticed: the image gets the answer that it got before
abbrev pub OrderUnnoticed : Engine → Type 0
OrderUnnoticed e = (image : List ℕ) (i j : ℕ) → DifferentEntries image i j → e.check (swapped image i j) ≡ e.check image

abbrev pub RefusesAllCards : Engine → Type 0
RefusesAllCards e = (image area : List ℕ) → Refuses (e.cards image area).number

abbrev pub RefusesAllChains : Engine → Type 0
RefusesAllChains e = (image : List ℕ) (c q f : ℕ) (area : List ℕ) → Refuses (e.chain image c q f area).number

abbrev pub RefusesAllLists : Engine → Type 0
RefusesAllLists e = (facts sequences : ℕ) (cards list card : List ℕ) → Refuses (e.list facts sequences cards list card).number

-- no card: the words of every list's card as they were
abbrev pub UnwrittenLists : Engine → Type 0
UnwrittenLists e = (facts sequences : ℕ) (cards list card : List ℕ) → (e.list facts sequences cards list card).area ≡ card

-- the last member's card for the list's, of two members
abbrev pub LastMember : Engine → Type 0
LastMember e =
    (image area before : List ℕ) (m n : ℕ) → Listed image area (m ∷ n ∷ []) → (k : ℕ) → k < card_words
    → get_or (list_over e image area (m ∷ n ∷ []) before).area k 0 ≡ part_word (e.cards image area).area n k

abbrev pub RefusesAllEndless : Engine → Type 0
RefusesAllEndless e = (image : List ℕ) (c : ℕ) (area : List ℕ) → Refuses (e.endless image c area).number

-- no list: the words of every area as they were
abbrev pub UnwrittenReasons : Engine → Type 0
UnwrittenReasons e = (image : List ℕ) (c : ℕ) (area : List ℕ) → (e.endless image c area).area ≡ area

-- of each list the asked one alone
abbrev pub AskedAlone : Engine → Type 0
AskedAlone e = (image : List ℕ) (c : ℕ) (area : List ℕ) → ¬ Refuses (e.endless image c area).number → found (e.endless image c area) ≡ c ∷ []

-- 16 whatever is asked
abbrev pub AlwaysSixteen : Engine → Type 0
AlwaysSixteen e = (image : List ℕ) (c : ℕ) (area : List ℕ) → (e.endless image c area).number ≡ 16 * 2 ^ 32

abbrev pub RefusesAllSeals : Sealer → Type 0
RefusesAllSeals seal = (image : List ℕ) → Refuses (seal image).number

-- no sum word: every image as it was
abbrev pub Unsealed : Sealer → Type 0
Unsealed seal = (image : List ℕ) → (seal image).area ≡ image

-- the sum of all words: the old last word counts
abbrev pub LastCounted : Sealer → Type 0
LastCounted seal = (image : List ℕ) → 2 ≤ length image → length image ≤ most_words → payload (last_word (seal image).area) ≡ ordered_sum image

-- ---- engines that are wrong in these ways: the right engine with another call in the place of one of its own

abbrev pub with_check : (List ℕ → ℕ) → Engine
with_check check = record { check = check; cards = engine.cards; chain = engine.chain; list = engine.list; endless = engine.endless }

abbrev pub with_cards : (List ℕ → List ℕ → Returned) → Engine
with_cards cards = record { check = engine.check; cards = cards; chain = engine.chain; list = engine.list; endless = engine.endless }

abbrev pub with_chain : (List ℕ → ℕ → ℕ → ℕ → List ℕ → Returned) → Engine
with_chain chain = record { check = engine.check; cards = engine.cards; chain = chain; list = engine.list; endless = engine.endless }

abbrev pub with_lists : (ℕ → ℕ → List ℕ → List ℕ → List ℕ → Returned) → Engine
with_lists lists = record { check = engine.check; cards = engine.cards; chain = engine.chain; list = lists; endless = engine.endless }

abbrev pub with_endless : (List ℕ → ℕ → List ℕ → Returned) → Engine
with_endless endless = record { check = engine.check; cards = engine.cards; chain = engine.chain; list = engine.list; endless = endless }

-- the right number, and an area of which every word is 0
abbrev pub blank_cards : Engine
blank_cards = with_cards (λ image area. returned (engine.cards image area).number (replicate (length area) 0))

-- the right cards, but for the flags of sequence 0, which are 0
abbrev pub flagless_cards : Engine
flagless_cards = with_cards (λ image area. returned (engine.cards image area).number (set (engine.cards image area).area 0 0))

-- the right number, and the area as it was
abbrev pub lazy_cards : Engine
lazy_cards = with_cards (λ image area. returned (engine.cards image area).number area)

-- a number, whatever is asked, and the area as it was
abbrev pub fixed_chain : ℕ → Engine
fixed_chain n = with_chain (λ image c q f area. returned n area)

-- the right number, and for question q the area as it was
abbrev pub unwritten : ℕ → Engine
unwritten q =
    with_chain
    (λ image c p f area. returned (engine.chain image c p f area).number (cond (eqb p q) area (engine.chain image c p f area).area))

-- a chain, whatever is asked
abbrev pub fixed_links : Chain → Engine
fixed_links ls = with_chain (λ image c q f area. returned (length ls) (chain_words ls ++ drop (length (chain_words ls)) area))

-- refusal 14, whatever the list
abbrev pub no_list : Engine
no_list = with_lists (λ facts sequences cards list card. returned (14 * 2 ^ 32) card)

-- 0 for every list, and the card as it was
abbrev pub lazy_lists : Engine
lazy_lists = with_lists (λ facts sequences cards list card. returned 0 card)

-- the card of the second member
abbrev pub second_card : Engine
second_card = with_lists (λ facts sequences cards list card. returned 0 (list_below (part_word cards (get_or list 1 0)) card_words))

-- refusal 17, whatever the area
abbrev pub no_reason : Engine
no_reason = with_endless (λ image c area. returned (17 * 2 ^ 32) area)

-- refusal 16, whatever the sequence
abbrev pub all_run : Engine
all_run = with_endless (λ image c area. returned (16 * 2 ^ 32) area)

-- the right number, and the area as it was
abbrev pub lazy_reasons : Engine
lazy_reasons = with_endless (λ image c area. returned (engine.endless image c area).number area)

-- the asked one, whatever the image and however short the area
abbrev pub asked_only : Engine
asked_only = with_endless (λ image c area. returned 1 (c ∷ drop 1 area))

-- refusal 1, whatever the image
abbrev pub no_seal : Sealer
no_seal image = returned (2 ^ 32) image

-- the right number, and the image as it was
abbrev pub lazy_seal : Sealer
lazy_seal image = returned (sealer image).number image

-- the right number, and the sum word of all words in the place of the last
abbrev pub whole_sum : Sealer
whole_sum image = returned (sealer image).number (all_but_last image ++ ((15 * 2 ^ 28 + ordered_sum image) ∷ []))

-- refusal 1, whatever the image
abbrev pub no_image : Engine
no_image = with_check (λ image. 2 ^ 32)
