-- The starred samples of document 01, as the requests of document 02 have them, and a row for what a request adds: one table of calls, with
-- the answers that the papers give, and one fact, that each answer follows from the definitions (`starred_hold`). Where the paper says of a
-- sample that a run executes, or that none does, the states are those of `standing`.
use Rattle.std.specs.Prelude.{ℕ, zero, suc, ◌+◌, ◌*◌, ◌/◌, ◌%◌, ◌^◌, ◌≡◌, List, [], ◌∷◌, ◌++◌, length, replicate, set}
use Prim.Native.Char.{code}
use Prim.Native.String.{String}
use Prim.Native.String as string
use Rattle.library.specs.Library.{Library, has, library_of, Item, step, check}
use Rattle.swap.specs.Swapped.{swapped}
use Rattle.runs.specs.Run.{Run}
use Rattle.runs.specs.Execution.{Fact, State, Executes, end}
use Rattle.cards.specs.Layout.{card_words}
use Rattle.card_text.specs.Print.{printed}
use Rattle.dulimoven.specs.Returned.{returned}
use Rattle.dulimoven.specs.Engine.{engine, sealer}

-- "Library L, 20 words in hexadecimal, F = A = C = 3", with the head of document 02, request 8
abbrev pub L : List ℕ
L =
    0x10180603 ∷ 0x50000000 ∷ 0x30000000 ∷ 0x50000001 ∷ 0x20000000 ∷ 0x30000001 ∷ 0x50000002 ∷ 0x40000001 ∷ 0x60000000 ∷ 0x70000000
    ∷ 0x80000000 ∷ 0x70000000 ∷ 0x60000001 ∷ 0x70000000 ∷ 0x90000000 ∷ 0x80000001 ∷ 0x60000002 ∷ 0x70000000 ∷ 0x90000002 ∷ 0xf1d65e90
    ∷ []

-- one fact and nothing else
abbrev pub bare : List ℕ
bare = 0x10000001 ∷ 0xf0000401 ∷ []

-- one sequence with the alternatives <itself> and <>
abbrev pub self_call : List ℕ
self_call = 0x10080001 ∷ 0x60000000 ∷ 0x70000000 ∷ 0x90000000 ∷ 0x70000000 ∷ 0xf0292c05 ∷ []

-- sequence 0 with the alternatives <set f, sequence 1> and <clear f>; sequence 1 is endless, its one alternative is <itself>
abbrev pub endless_first : List ℕ
endless_first =
    0x10100401 ∷ 0x50000000 ∷ 0x30000000 ∷ 0x50000001 ∷ 0x40000000 ∷ 0x60000000 ∷ 0x70000000 ∷ 0x80000000 ∷ 0x90000001 ∷ 0x70000000
    ∷ 0x80000001 ∷ 0x60000001 ∷ 0x70000000 ∷ 0x90000001 ∷ 0xf0e8a027 ∷ []

-- one alternative <clear f, need f>
abbrev pub clear_then_need : List ℕ
clear_then_need =
    0x10080401 ∷ 0x50000000 ∷ 0x40000000 ∷ 0x50000001 ∷ 0x20000000 ∷ 0x60000000 ∷ 0x70000000 ∷ 0x80000000 ∷ 0x80000001 ∷ 0xf04b0c10 ∷ []

-- one alternative with one step that sets and clears f
abbrev pub pulse : List ℕ
pulse = 0x10080201 ∷ 0x50000000 ∷ 0x30000000 ∷ 0x40000000 ∷ 0x60000000 ∷ 0x70000000 ∷ 0x80000000 ∷ 0xf039be07 ∷ []

-- steps 0 to 3 set fact 0, clear it, need it and do neither. Sequence 0 is <set, set>, <other, set>, <sequence 1>, <need>; sequence 1 is <set>
abbrev pub fewest_first : List ℕ
fewest_first =
    0x10100801 ∷ 0x50000000 ∷ 0x30000000 ∷ 0x50000001 ∷ 0x40000000 ∷ 0x50000002 ∷ 0x20000000 ∷ 0x50000003 ∷ 0x60000000 ∷ 0x70000000
    ∷ 0x80000000 ∷ 0x80000000 ∷ 0x70000000 ∷ 0x80000003 ∷ 0x80000000 ∷ 0x70000000 ∷ 0x90000001 ∷ 0x70000000 ∷ 0x80000002 ∷ 0x60000001
    ∷ 0x70000000 ∷ 0x80000000 ∷ 0xf17554a4 ∷ []

-- the same steps. Sequence 0 is <1, 1>, <1, other, 1, 1>; sequence 1 is <set>, <>, <set>
abbrev pub lowest_of_calls : List ℕ
lowest_of_calls =
    0x10100801 ∷ 0x50000000 ∷ 0x30000000 ∷ 0x50000001 ∷ 0x40000000 ∷ 0x50000002 ∷ 0x20000000 ∷ 0x50000003 ∷ 0x60000000 ∷ 0x70000000
    ∷ 0x90000001 ∷ 0x90000001 ∷ 0x70000000 ∷ 0x90000001 ∷ 0x80000003 ∷ 0x90000001 ∷ 0x90000001 ∷ 0x60000001 ∷ 0x70000000 ∷ 0x80000000
    ∷ 0x70000000 ∷ 0x70000000 ∷ 0x80000000 ∷ 0xf1884cd2 ∷ []

-- one fact, one step, which needs and clears it. Sequence 0 is <check 0>, sequence 1 is <sequence 0, step 0>
abbrev pub skips : List ℕ
skips =
    0x10100201 ∷ 0x50000000 ∷ 0x20000000 ∷ 0x40000000 ∷ 0x60000000 ∷ 0x70000000 ∷ 0xd0000000 ∷ 0x60000001 ∷ 0x70000000 ∷ 0x90000000
    ∷ 0x80000000 ∷ 0xf0b5420f ∷ []

-- two facts, two steps, one sequence, whose one alternative has an entry of each kind: <step 1, itself, check 1>
abbrev pub every_kind : List ℕ
every_kind =
    0x10080402 ∷ 0x50000000 ∷ 0x50000001 ∷ 0x60000000 ∷ 0x70000000 ∷ 0x80000001 ∷ 0x90000000 ∷ 0xd0000001 ∷ 0xf043081a ∷ []

-- one fact, one step, which sets it. Sequences 0 to 9: <3, set>, <set, 1>; <0>; <itself>, <>; none; <2, itself>; <6, itself>; <7>, <check 0>;
-- <itself>; <9, 1>; <3>, <7, set>
abbrev pub ten_sequences : List ℕ
ten_sequences =
    0x10500201 ∷ 0x50000000 ∷ 0x30000000 ∷ 0x60000000 ∷ 0x70000000 ∷ 0x90000003 ∷ 0x80000000 ∷ 0x70000000 ∷ 0x80000000 ∷ 0x90000001
    ∷ 0x60000001 ∷ 0x70000000 ∷ 0x90000000 ∷ 0x60000002 ∷ 0x70000000 ∷ 0x90000002 ∷ 0x70000000 ∷ 0x60000003 ∷ 0x60000004 ∷ 0x70000000
    ∷ 0x90000002 ∷ 0x90000004 ∷ 0x60000005 ∷ 0x70000000 ∷ 0x90000006 ∷ 0x90000005 ∷ 0x60000006 ∷ 0x70000000 ∷ 0x90000007 ∷ 0x70000000
    ∷ 0xd0000000 ∷ 0x60000007 ∷ 0x70000000 ∷ 0x90000007 ∷ 0x60000008 ∷ 0x70000000 ∷ 0x90000009 ∷ 0x90000001 ∷ 0x60000009 ∷ 0x70000000
    ∷ 0x90000003 ∷ 0x70000000 ∷ 0x90000007 ∷ 0x80000000 ∷ 0xfe2be25b ∷ []

-- 65 facts, one step, which sets the last of them, fact 64, and one sequence, <step 0>
abbrev pub wide : List ℕ
wide = 0x10080241 ∷ 0x50000000 ∷ 0x30000040 ∷ 0x60000000 ∷ 0x70000000 ∷ 0x80000000 ∷ 0xf0315a86 ∷ []

-- the openers of n sequences from sequence c on
abbrev pub openers : ℕ → ℕ → List ℕ
openers c zero = []
openers c (suc n) = (0x60000000 + c) ∷ openers (suc c) n

-- ---- the table

-- the bytes of an image: "little-endian words"
abbrev pub bytes_of : List ℕ → List ℕ
bytes_of [] = []
bytes_of (w ∷ ws) = w % 256 ∷ w / 256 % 256 ∷ w / 65536 % 256 ∷ w / 16777216 ∷ bytes_of ws

-- the codes of a text's characters
abbrev pub codes : String → List ℕ
codes string.[] = []
codes (string.◌∷◌ c text) = code c ∷ codes text

-- the state in which just these facts stand
abbrev pub standing : (L : Library) → List ℕ → State L
standing L facts f = has f.0 facts

-- what is asked of an image, with what the paper answers
pub data Sample : Type 0 where
  -- the check accepts: F, A and C
  accepts : List ℕ → ℕ → ℕ → ℕ → Sample
  -- the check refuses: number and position
  refuses : List ℕ → ℕ → ℕ → Sample
  -- the cards, a list of words for each sequence, in an area of just enough words
  fills : List ℕ → List (List ℕ) → Sample
  -- what the program prints, whole
  prints : List ℕ → String → Sample
  -- the chain call on a sequence, a question, a fact and an area: the number that it answers, and the area after it
  chains : List ℕ → ℕ → ℕ → ℕ → List ℕ → ℕ → List ℕ → Sample
  -- the list call on F, C, cards and a list of sequences: the words of the list's card, or the number of the refusal
  composes : ℕ → ℕ → List (List ℕ) → List ℕ → List ℕ → Sample
  declines : ℕ → ℕ → List (List ℕ) → List ℕ → ℕ → Sample
  -- the endless call on a sequence and an area: the number that it answers, and the area after it
  explains : List ℕ → ℕ → List ℕ → ℕ → List ℕ → Sample
  -- a run of a sequence executes where just some facts stand at the start, and just some stand at its end
  executes : List ℕ → ℕ → List Item → List ℕ → List ℕ → Sample
  -- a run of a sequence does not execute where just some facts stand at the start
  fails : List ℕ → ℕ → List Item → List ℕ → Sample

abbrev pub joined : List (List ℕ) → List ℕ
joined [] = []
joined (l ∷ ls) = l ++ joined ls

-- an area for chains, of words that no chain has
abbrev pub spare : List ℕ
spare = 7 ∷ 7 ∷ 7 ∷ 7 ∷ 7 ∷ []

-- a card that no list has
abbrev pub spare_card : List ℕ
spare_card = replicate card_words 5

-- "Each column takes four words, facts 0 to 63 first" (document 02, request 8): where there are no more than 64 facts, each column has its first word
-- and three zeros
abbrev pub spread : List ℕ → List ℕ
spread [] = []
spread (column ∷ columns) = column ∷ 0 ∷ 0 ∷ 0 ∷ spread columns

-- the words of a card of no more than 64 facts: the flags, and its columns
abbrev pub few : List ℕ → List ℕ
few [] = []
few (flags ∷ columns) = flags ∷ spread columns

-- the cards of L's sequences with a run
abbrev pub card0 : List ℕ
card0 = few (0x103 ∷ 0 ∷ 0 ∷ 1 ∷ 0 ∷ 0 ∷ 0 ∷ 0 ∷ 1 ∷ 7 ∷ 7 ∷ 0 ∷ 7 ∷ [])

abbrev pub card1 : List ℕ
card1 = few (0x201 ∷ 0 ∷ 1 ∷ 3 ∷ 0 ∷ 2 ∷ 0 ∷ 3 ∷ 3 ∷ 4 ∷ 5 ∷ 0 ∷ 4 ∷ [])

-- the card of a sequence without a run
abbrev pub blank : List ℕ
blank = few (0 ∷ 0 ∷ 0 ∷ 0 ∷ 0 ∷ 0 ∷ 0 ∷ 0 ∷ 0 ∷ 0 ∷ 0 ∷ 0 ∷ 0 ∷ [])

abbrev pub cards_l : List (List ℕ)
cards_l = card0 ∷ card1 ∷ blank ∷ []

-- those of `skips`
abbrev pub cards_skips : List (List ℕ)
cards_skips = (few (3 ∷ 1 ∷ 1 ∷ 0 ∷ 0 ∷ 0 ∷ 0 ∷ 1 ∷ 0 ∷ 0 ∷ 1 ∷ 0 ∷ 0 ∷ [])) ∷ (few (0x101 ∷ 1 ∷ 1 ∷ 0 ∷ 1 ∷ 0 ∷ 1 ∷ 0 ∷ 0 ∷ 0 ∷ 0 ∷ 1 ∷ 0 ∷ [])) ∷ []

-- the card of `wide`: fact 64 is bit 0 of the second word of a column, and facts 0 to 63 are the first word
abbrev pub card_wide : List ℕ
card_wide =
    let low : ℕ = 0xffffffffffffffff in
    0x101 ∷ 0 ∷ 0 ∷ 0 ∷ 0 ∷ 0 ∷ 0 ∷ 0 ∷ 0 ∷ 0 ∷ 1 ∷ 0 ∷ 0 ∷ 0 ∷ 0 ∷ 0 ∷ 0 ∷ 0 ∷ 1 ∷ 0 ∷ 0 ∷ 0 ∷ 0 ∷ 0 ∷ 0 ∷ 0 ∷ 1 ∷ 0 ∷ 0 ∷ 0 ∷ 1 ∷ 0 ∷ 0 ∷ low ∷ 0 ∷ 0 ∷ 0 ∷ low ∷ 0 ∷ 0 ∷ 0
    ∷ 0 ∷ 0 ∷ 0 ∷ 0 ∷ low ∷ 0 ∷ 0 ∷ 0 ∷ []

-- "N × 2^32 + P for refusal N at position P, otherwise the head's payload from the check, C from the cards, the number of links from the
-- chain, 0 there for "none""; F in bits 0 to 8, A in bits 9 to 18, C in bits 19 to 27
abbrev pub Holds : Sample → Type 0
Holds (accepts image f a c) = engine.check image ≡ f + a * 2 ^ 9 + c * 2 ^ 19
Holds (refuses image n p) = engine.check image ≡ n * 2 ^ 32 + p
Holds (fills image lines) = engine.cards image (replicate (card_words * length lines) 0) ≡ returned (length lines) (joined lines)
Holds (prints image text) = printed (bytes_of image) ≡ codes text
Holds (chains image c q f before n after) = engine.chain image c q f before ≡ returned n after
Holds (composes f c cards list card) = engine.list f c (joined cards) list spare_card ≡ returned 0 card
Holds (declines f c cards list n) = engine.list f c (joined cards) list spare_card ≡ returned (n * 2 ^ 32) spare_card
Holds (explains image c before n after) = engine.endless image c before ≡ returned n after
Holds (executes image c w start after) =
    Run (library_of image) c w
    × Executes (library_of image) w (standing (library_of image) start)
    × ((f : Fact (library_of image)) → end (library_of image) w (standing (library_of image) start) f ≡ has f.0 after)
Holds (fails image c w start) = Run (library_of image) c w × ¬ Executes (library_of image) w (standing (library_of image) start)

abbrev pub starred : List Sample
starred =
    -- L is read: F = A = C = 3
    accepts L 3 3 3
    -- "L prints, whole"; document 02, request 4: "L's lines now end in 0, 3 and 0."; request 5: "L's lines go on with 1 7 7 0 7, 3 4 5 0 4 and
    -- five zeros."
    ∷ fills L cards_l
    ∷ prints L "0 103 0 0 1 0 0 0 0 1 7 7 0 7\n1 201 0 1 3 0 2 0 3 3 4 5 0 4\n2 0 0 0 0 0 0 0 0 0 0 0 0 0\n"
    -- "L, sequence 1, question 2, fact 0: 1 link, a0000001 c0000000."
    ∷ chains L 1 2 0 spare 1 (0xa0000001 ∷ 0xc0000000 ∷ 7 ∷ 7 ∷ 7 ∷ [])
    -- "The same, question 0: 2 links, a0000001 b0000000 a0000000 b0000000; an area of 3 words gets 12."
    ∷ chains L 1 0 0 spare 2 (0xa0000001 ∷ 0xb0000000 ∷ 0xa0000000 ∷ 0xb0000000 ∷ 7 ∷ [])
    ∷ chains L 1 0 0 (7 ∷ 7 ∷ 7 ∷ []) (12 * 2 ^ 32) (7 ∷ 7 ∷ 7 ∷ [])
    -- "L, sequence 1, question 1, fact 1: none. Sequence 2, question 2, fact 0: none."
    ∷ chains L 1 1 1 spare 0 spare
    ∷ chains L 2 2 0 spare 0 spare
    -- the runs of L's sequence 1: <step 0, step 1> executes where nothing stands, since step 0 sets what step 1 needs, and leaves facts 0 and 1
    -- standing; <step 1>, with the empty alternative, does not, and does where fact 0 stands
    ∷ executes L 1 (step 0 ∷ step 1 ∷ []) [] (0 ∷ 1 ∷ [])
    ∷ fails L 1 (step 1 ∷ []) []
    ∷ executes L 1 (step 1 ∷ []) (0 ∷ []) (0 ∷ 1 ∷ [])
    -- "10000001 .. is accepted and prints nothing"
    ∷ accepts bare 1 0 0
    ∷ fills bare []
    ∷ prints bare ""
    -- "10000000 .. gets 3"
    ∷ refuses (0x10000000 ∷ 0xf0000400 ∷ []) 3 0
    -- "Alternatives <itself> and <>: flags 3; question 2 names alternative 1." The empty run leaves the fact untouched on both sides, and has
    -- no item
    ∷ fills self_call ((few (3 ∷ 0 ∷ 0 ∷ 0 ∷ 0 ∷ 0 ∷ 0 ∷ 0 ∷ 0 ∷ 1 ∷ 1 ∷ 0 ∷ 1 ∷ [])) ∷ [])
    ∷ chains self_call 0 2 0 spare 1 (0xa0000100 ∷ 0xc0000000 ∷ 7 ∷ 7 ∷ 7 ∷ [])
    -- "Alternatives <set f, L's kind of endless sequence> and <clear f>: always cleared." It may clear f, so one fact is changeable.
    -- On the first side a clear is no touch; the last item that mentions f clears it
    ∷ fills endless_first ((few (0x101 ∷ 0 ∷ 0 ∷ 0 ∷ 1 ∷ 0 ∷ 1 ∷ 0 ∷ 0 ∷ 1 ∷ 0 ∷ 1 ∷ 0 ∷ [])) ∷ blank ∷ [])
    -- the step that clears f takes it away
    ∷ executes endless_first 0 (step 1 ∷ []) (0 ∷ []) []
    -- "Alternative <clear f, need f>: always needed, though no run executes." It may need f, and always clears it. The last item that mentions f
    -- needs it, so it always stands. That no run executes from any state is `never_executes` (proofs/Samples)
    ∷ fills clear_then_need ((few (0x101 ∷ 1 ∷ 1 ∷ 0 ∷ 1 ∷ 0 ∷ 1 ∷ 1 ∷ 0 ∷ 0 ∷ 0 ∷ 0 ∷ 0 ∷ [])) ∷ [])
    ∷ fails clear_then_need 0 (step 0 ∷ step 1 ∷ []) (0 ∷ [])
    -- "One step sets and clears f": document 02, request 1, "The sample with that step becomes a refused one", "at the clear word"
    ∷ refuses pulse 13 3
    -- document 02, request 2: "Among equally good choices a link takes the highest alternative": alternatives 0 and 1 have one link, 2 has two
    -- ("Fewest links .. still come first."); of 0 and 1 the higher, though its set stands at position 1 and that of 0 at 0
    ∷ chains fewest_first 0 0 0 spare 1 (0xa0000100 ∷ 0xb0000001 ∷ 7 ∷ 7 ∷ 7 ∷ [])
    -- "then the lowest position": both have two links; the calls of alternative 1 stand at 0, 2 and 3, and each will do. Then <set> at the end
    ∷ chains lowest_of_calls 0 0 0 spare 2 (0xa0000100 ∷ 0xb0000000 ∷ 0xa0000201 ∷ 0xb0000000 ∷ 7 ∷ [])
    -- "This holds for kind 12 links too.": both alternatives of L's sequence 0 leave fact 1 untouched, <step 0> and <>, each at depth 1
    ∷ chains L 0 2 1 spare 1 (0xa0000100 ∷ 0xc0000000 ∷ 7 ∷ 7 ∷ 7 ∷ [])
    -- document 02, request 4. Sequence 0 of `skips` has one run, a check: "a run without steps is still called empty" (flags 3), "On the first side
    -- a check counts as a need" (always and may need), it "changes nothing", and leaves the fact standing. Sequence 1 needs it first by that check
    -- and clears it last: "A step that needs and clears counts as clearing." Of the five columns of request 5
    -- the check leaves the fact untouched on the last side, and sequence 1's last item that mentions it clears it
    ∷ fills skips cards_skips
    -- "a chain may end on one": the step at position 1 comes after the check
    ∷ chains skips 1 3 0 spare 2 (0xa0000001 ∷ 0xb0000000 ∷ 0xa0000000 ∷ 0xb0000000 ∷ 7 ∷ [])
    -- on the last side a check touches nothing
    ∷ chains skips 0 2 0 spare 1 (0xa0000000 ∷ 0xc0000000 ∷ 7 ∷ 7 ∷ 7 ∷ [])
    -- "A run executes only if its checks are met.", "changes nothing"
    ∷ executes skips 0 (check 0 ∷ []) (0 ∷ []) (0 ∷ [])
    ∷ fails skips 0 (check 0 ∷ []) []
    -- "its payload is below F under 5": F = 2, the check names fact 2; and a check right after a sequence's opener, where no entry stands
    ∷ refuses (0x10080002 ∷ 0x60000000 ∷ 0x70000000 ∷ 0xd0000002 ∷ 0xf020c40a ∷ []) 5 3
    ∷ refuses (0x10080002 ∷ 0x60000000 ∷ 0xd0000000 ∷ 0xf0187006 ∷ []) 4 2
    -- document 02, request 5, over L's cards: "The empty list has just the empty run."
    ∷ composes 3 3 cards_l [] (few (3 ∷ 0 ∷ 0 ∷ 0 ∷ 0 ∷ 0 ∷ 0 ∷ 0 ∷ 0 ∷ 7 ∷ 7 ∷ 0 ∷ 7 ∷ []))
    -- sequence 0 can be empty, and what it may set sequence 1 may set: with it before or after sequence 1 the card is that of sequence 1
    ∷ composes 3 3 cards_l (0 ∷ 1 ∷ []) card1
    ∷ composes 3 3 cards_l (1 ∷ 0 ∷ []) card1
    -- "blank unless every member has a run"
    ∷ composes 3 3 cards_l (0 ∷ 2 ∷ []) blank
    -- "drops bits from F upward": of two facts, and of none, where the flags are still those of the rule
    ∷ composes 2 3 cards_l (0 ∷ 1 ∷ []) (few (0x201 ∷ 0 ∷ 1 ∷ 3 ∷ 0 ∷ 2 ∷ 0 ∷ 3 ∷ 3 ∷ 0 ∷ 1 ∷ 0 ∷ 0 ∷ []))
    ∷ composes 0 3 cards_l (0 ∷ 1 ∷ []) (few (1 ∷ 0 ∷ 0 ∷ 0 ∷ 0 ∷ 0 ∷ 0 ∷ 0 ∷ 0 ∷ 0 ∷ 0 ∷ 0 ∷ 0 ∷ []))
    -- the order counts: <check 0> and then the step that needs and clears fact 0 is the card of sequence 1 of `skips`; with the check last the
    -- last item that mentions the fact does not clear it, though it was cleared
    ∷ composes 1 2 cards_skips (0 ∷ 1 ∷ []) (few (0x101 ∷ 1 ∷ 1 ∷ 0 ∷ 1 ∷ 0 ∷ 1 ∷ 0 ∷ 0 ∷ 0 ∷ 0 ∷ 1 ∷ 0 ∷ []))
    ∷ composes 1 2 cards_skips (1 ∷ 0 ∷ []) (few (0x101 ∷ 1 ∷ 1 ∷ 0 ∷ 1 ∷ 0 ∷ 1 ∷ 1 ∷ 0 ∷ 0 ∷ 0 ∷ 0 ∷ 0 ∷ []))
    -- an area that no library fills: a run, and nothing that it may do; "an "always" bit, below F only, where no rival outcome holds"
    ∷ composes 3 1 ((few (1 ∷ 0 ∷ 0 ∷ 0 ∷ 0 ∷ 0 ∷ 0 ∷ 0 ∷ 0 ∷ 0 ∷ 0 ∷ 0 ∷ 0 ∷ [])) ∷ []) (0 ∷ [])
    (few (1 ∷ 7 ∷ 0 ∷ 0 ∷ 0 ∷ 7 ∷ 7 ∷ 7 ∷ 0 ∷ 0 ∷ 0 ∷ 0 ∷ 0 ∷ []))
    -- "of the earlier ones only 8; 14 for a list of more than 256, after 8; then 15 for a member not below C": two cards are too few for C = 3,
    -- also where the list is too long; a list of 257; one of 256 is answered; sequence 3
    ∷ declines 3 3 (card0 ∷ card1 ∷ []) (0 ∷ []) 8
    ∷ declines 3 3 (card0 ∷ card1 ∷ []) (replicate 257 0) 8
    ∷ declines 3 3 cards_l (replicate 257 3) 14
    ∷ composes 3 3 cards_l (replicate 256 0) card0
    ∷ declines 3 3 cards_l (0 ∷ 3 ∷ []) 15
    -- document 02, request 6: "An accepted image in which two different entries change places then gets 2": entries of each two kinds, whichever of
    -- them is named first, and two of L that stand in different alternatives
    ∷ accepts every_kind 2 2 1
    ∷ refuses (swapped every_kind 5 6) 2 8
    ∷ refuses (swapped every_kind 7 5) 2 8
    ∷ refuses (swapped every_kind 6 7) 2 8
    ∷ refuses (swapped L 10 14) 2 19
    -- "one under the old rule is judged by 2 like any other": L with the sum word that document 01 prints
    ∷ refuses (set L 19 0xf00c019a) 2 19
    -- "b mod 2^28": the head counts 401 and the others 10003bff each, so the running sums are 401, 10004000, 20007bff and 3000b7fe, and b is
    -- 600177fe; "A word now counts as ..", whatever may stand there: the sum is right, and 4 at 1
    ∷ refuses (0x10000001 ∷ 0xffffffff ∷ 0xffffffff ∷ 0xffffffff ∷ 0xf00177fe ∷ []) 4 1
    -- document 02, request 7: "all sequences without a run that the asked one reaches .., itself included": L's sequence 2 calls itself alone;
    -- "words past it stay", and an area of no word is too short
    ∷ explains L 2 (7 ∷ 7 ∷ 7 ∷ []) 1 (2 ∷ 7 ∷ 7 ∷ [])
    ∷ explains L 2 [] (17 * 2 ^ 32) []
    -- "16 where the sequence has a run, after 9", and before 17; all bits of the number count
    ∷ explains L 0 [] (16 * 2 ^ 32) []
    ∷ explains L 1 spare (16 * 2 ^ 32) spare
    ∷ explains L 3 [] (9 * 2 ^ 32) []
    ∷ explains L (2 ^ 32 + 2) spare (9 * 2 ^ 32) spare
    -- "Like every later call over an image, this one meets 1 to 7 first.": 13 with 4 to 6
    ∷ explains pulse 300 [] (13 * 2 ^ 32 + 3) []
    -- 0 names 3, and 1, which names 0; 2 has a run; 3 has no alternative; 4 names 2, which has a run, and itself; of 5 the entry 6 has a run, and
    -- 7 is named by 6 alone
    ∷ explains ten_sequences 0 spare 3 (0 ∷ 1 ∷ 3 ∷ 7 ∷ 7 ∷ [])
    ∷ explains ten_sequences 1 (7 ∷ 7 ∷ 7 ∷ []) 3 (0 ∷ 1 ∷ 3 ∷ [])
    ∷ explains ten_sequences 1 (7 ∷ 7 ∷ []) (17 * 2 ^ 32) (7 ∷ 7 ∷ [])
    ∷ explains ten_sequences 2 spare (16 * 2 ^ 32) spare
    ∷ explains ten_sequences 3 spare 1 (3 ∷ 7 ∷ 7 ∷ 7 ∷ 7 ∷ [])
    ∷ explains ten_sequences 4 spare 1 (4 ∷ 7 ∷ 7 ∷ 7 ∷ 7 ∷ [])
    ∷ explains ten_sequences 5 spare 1 (5 ∷ 7 ∷ 7 ∷ 7 ∷ 7 ∷ [])
    -- 8 is <9, 1>: 1 counts too, though 9 stands before it
    ∷ explains ten_sequences 8 (replicate 7 9) 6 (0 ∷ 1 ∷ 3 ∷ 7 ∷ 8 ∷ 9 ∷ 9 ∷ [])
    -- document 02, request 8: "F in bits 0 to 8 (1 to 256)". L as request 6 had it: its head says F = 387
    ∷ refuses (set (set L 0 0x100c0183) 19 0xf0f20910) 3 0
    -- "C in bits 19 to 27 (0 to 256)"
    ∷ refuses (0x18080001 ∷ 0xf8080401 ∷ []) 3 0
    -- a fact is below F: 256 of 256, and 65 of 65, at its word; 64 of 65 is one
    ∷ refuses (0x10000300 ∷ 0x50000000 ∷ 0x30000100 ∷ 0xf0004a00 ∷ []) 5 2
    ∷ refuses (0x10000241 ∷ 0x50000000 ∷ 0x30000041 ∷ 0xf0004704 ∷ []) 5 2
    ∷ accepts (0x10000241 ∷ 0x50000000 ∷ 0x30000040 ∷ 0xf0004703 ∷ []) 65 1 0
    -- 13 is about one fact, 191, and not about two that agree in their last six bits, 127 and 191
    ∷ refuses (0x10000300 ∷ 0x50000000 ∷ 0x300000bf ∷ 0x400000bf ∷ 0xf000823d ∷ []) 13 3
    ∷ accepts (0x10000300 ∷ 0x50000000 ∷ 0x3000007f ∷ 0x400000bf ∷ 0xf00081bd ∷ []) 256 1 0
    -- "Each column takes four words, facts 0 to 63 first": fact 64 is set on every run, the others are left alone
    ∷ fills wide (card_wide ∷ [])
    -- "A column prints as one hexadecimal number."
    ∷ prints wide "0 101 0 0 10000000000000000 0 10000000000000000 0 10000000000000000 10000000000000000 ffffffffffffffff ffffffffffffffff 0 ffffffffffffffff\n"
    -- fact 64 is not fact 0; "The fact asked about is not below F"
    ∷ chains wide 0 0 64 spare 1 (0xa0000000 ∷ 0xb0000000 ∷ 7 ∷ 7 ∷ 7 ∷ [])
    ∷ chains wide 0 0 0 spare 0 spare
    ∷ chains wide 0 2 64 spare 0 spare
    ∷ chains wide 0 2 0 spare 1 (0xa0000000 ∷ 0xc0000000 ∷ 7 ∷ 7 ∷ 7 ∷ [])
    ∷ chains wide 0 0 65 spare (11 * 2 ^ 32) spare
    -- "8 asks 49 × C", and the list's card has as many words: with fact 64, and without it, where no fact is changeable
    ∷ composes 65 1 (card_wide ∷ []) (0 ∷ 0 ∷ []) card_wide
    ∷ composes 64 1 (card_wide ∷ []) (0 ∷ []) (few (1 ∷ 0 ∷ 0 ∷ 0 ∷ 0 ∷ 0 ∷ 0 ∷ 0 ∷ 0 ∷ 0xffffffffffffffff ∷ 0xffffffffffffffff ∷ 0 ∷ 0xffffffffffffffff ∷ []))
    -- "The printing program's area has 7,840 words, so more than 160 sequences print `refused 8 at 0`": 161 of them, without an alternative
    ∷ prints (0x15080001 ∷ (openers 0 161 ++ (0xf3e3bd82 ∷ []))) "refused 8 at 0\n"
    ∷ []

-- ---- the seal call, which is beside the others

-- on an image: the number that it answers, and the image after it
pub data Sealing : Type 0 where
  seals : List ℕ → ℕ → List ℕ → Sealing

abbrev pub SealHolds : Sealing → Type 0
SealHolds (seals image n after) = sealer image ≡ returned n after

abbrev pub sealings : List Sealing
sealings =
    -- the seal call gives L its sum word back, whatever stood in its place, and leaves it there
    seals (set L 19 0) 0 L
    ∷ seals (set L 19 0xffffffff) 0 L
    ∷ seals L 0 L
    -- two words are an image: the head counts 1 + 1,024, and the last word does not count
    ∷ seals (0x10000001 ∷ 0x10000001 ∷ []) 0 bare
    -- what the words say is not looked at: "b mod 2^28", as above
    ∷ seals (0x10000001 ∷ 0xffffffff ∷ 0xffffffff ∷ 0xffffffff ∷ 0xffffffff ∷ []) 0 (0x10000001 ∷ 0xffffffff ∷ 0xffffffff ∷ 0xffffffff ∷ 0xf00177fe ∷ [])
    -- 1: "fewer than 2 or more than 8,192 words"
    ∷ seals [] (2 ^ 32) []
    ∷ seals (0x10000001 ∷ []) (2 ^ 32) (0x10000001 ∷ [])
    ∷ seals (replicate 8193 0) (2 ^ 32) (replicate 8193 0)
    ∷ []
