-- `sum::payload::sum_of` meets its contract: the words in fours, and then those that are left.
-- Assumes nothing.
use Rattle.std.proofs.Common.{◌%◌, ◌^◌, ap, ◌∙◌}
use Rattle.sum.specs.declared.sums.Sums.{Sums}
use Rattle.sum.specs.Sums.{sums_after}
use Rattle.sum.proofs.Loop.{sums_payload}
use Rattle.sum.proofs.payload.sum_of.Goals as goal

pub returns : goal.returns
returns c = ap (λ (s : Sums). s.values % 2 ^ 28) (c.with_words.ensures ∙ ap (sums_after c.sums_in_fours.result) c.as_chunks.ensures.back ∙ c.sums_in_fours.ensures) ∙ sums_payload c.args.words.now
