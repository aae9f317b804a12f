-- The chain call's answer as the enum that the code has, by the rank of the sequence asked about, and the number that the C side gets.
use Rattle.std.specs.Prelude.{ℕ, ◌*◌, cond, ◌&&◌, leb, ltb}
use Rattle.image.specs.Answer.{refusal_answer}
use Rattle.image.specs.declared.answer.Refusal.TheVariants.{ChainArea}
use Rattle.question.specs.Asked.{by_mark}
use Rattle.question.specs.declared.answer.Chained.{Chained}
use Rattle.question.specs.declared.asked.Asked.{Asked}

-- "It gets one 64-bit number: N × 2^32 + P for refusal N at position P, otherwise .. the number of links from the chain, 0 there for
-- "none"."
abbrev pub chain_answer : Chained → ℕ
chain_answer (Chained.Shown links) = links.count
chain_answer Chained.None = 0
chain_answer (Chained.Refused r) = refusal_answer r

-- "Questions 2 and 5: one link", and otherwise as many as the rank
abbrev pub link_count : Asked → ℕ → ℕ
link_count q rank = by_mark q.mark 1 rank rank

-- how many words a link has in the area
abbrev pub link_length : ℕ
link_length = 2

-- 12: "A chain exists but has more words than the chain area."
abbrev pub in_room : ℕ → ℕ → Chained
in_room room count = cond (leb (link_length * count) room) (Chained.Shown (record { count = count })) (Chained.Refused ChainArea)

-- ""none", exactly when no run has that outcome": the sequence has no rank
abbrev pub by_rank : Asked → ℕ → ℕ → Chained
by_rank q rank room = cond (ltb rank q.none) (in_room room (link_count q rank)) Chained.None

-- "the number of links with the words written"
abbrev pub shown_links : Asked → ℕ → ℕ → ℕ
shown_links q rank room = cond (ltb rank q.none && leb (link_length * link_count q rank) room) (link_count q rank) 0
