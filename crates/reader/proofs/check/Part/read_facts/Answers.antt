-- `reader::check::Part::read_facts` meets its contract.
-- Assumes nothing.
use Rattle.std.proofs.Common.{sym, ◌∙◌, eqb-true}
use Rattle.reader.proofs.Facts.{facts_read, apart_read}
use Rattle.reader.proofs.check.Part.read_facts.Goals as goal

pub returns-then-apart : goal.returns-then-apart
returns-then-apart c =
    apart_read _ _ c.args.opener _ _ _ (eqb-true _ 5 c.requires.1) c.read_kind-needs.ensures c.read_kind-sets.ensures c.read_kind-clears.ensures
    (sym c.apart.ensures ∙ c.if-apart.true)

pub returns : goal.returns
returns c =
    let found = c.first_shared.ensures in
    facts_read _ _ c.args.opener _ _ _ (eqb-true _ 5 c.requires.1) c.read_kind-needs.ensures c.read_kind-sets.ensures c.read_kind-clears.ensures _
    found.low found.high found.none_before
