-- `text::bytes::write_words` meets its contract: so many words stand in front, and those after them stay.
-- Assumes nothing.
use Rattle.std.proofs.Common.{arith, ◌∙◌}
use Rattle.text.proofs.Words.{word_at, words_turn, words_done}
use Rattle.text.proofs.bytes.write_words.Goals as goal

pub loop-i-preserved : goal.loop-i-preserved
loop-i-preserved c =
    words_turn _ _ _ _ c.loop-i.invariant _ (omega arith) c.requires
    (c.from_le_bytes.ensures ∙ word_at _ _ _ c.as_chunks.ensures.front c.loop-i-test.true)

pub returns : goal.returns
returns c = words_done c.args.bytes.now _ _ c.loop-i.i c.loop-i.invariant (omega arith) (omega arith)
