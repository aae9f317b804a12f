-- `rules::rules::Earlier::payload_right` meets its contract: no rule asks anything of a word of no kind.
-- Assumes nothing.
use Rattle.image.specs.declared.word.Kind.TheVariants.{Needs, Sets, Clears, Step, Sequence, Alternative, StepEntry, SequenceEntry, Check}
use Rattle.image.proofs.Words.{no_kind}
use Rattle.rules.proofs.rules.Earlier.payload_right.Goals as goal

pub returns-in_default-2 : goal.returns-in_default-2
returns-in_default-2 c =
    let none = no_kind c.args.w (rw c.in_default.is at c.of.ensures) in
    simp (none Needs, none Sets, none Clears, none Step, none Sequence, none Alternative, none StepEntry, none SequenceEntry, none Check)
