-- `chain::call::ask` meets its contract: 9, 10 and 11 in this order, and otherwise the answer that is found.
-- Assumes nothing.
use Rattle.chain.proofs.Calls.{in_range_lem, call_out, call_told}
use Rattle.tables.proofs.Tables.{few_sequences}
use Rattle.chain.proofs.call.ask.Goals as goal

pub returns-in-Err : goal.returns-in-Err
returns-in-Err c =
    let a = c.args in
    let image = a.accepted.now in
    call_out image.image.now image.head a.sequence a.question a.fact a.area.now image.accepted _ c.in-Err.ensures

pub new-q-requires : goal.new-q-requires
new-q-requires c =
    let a = c.args in
    let image = a.accepted.now in
    ((in_range_lem image.head a.sequence a.question a.fact _ c.in_default.ensures).2, few_sequences image.image.now image.head image.accepted)

pub returns : goal.returns
returns c =
    let a = c.args in
    let image = a.accepted.now in
    call_told image.image.now image.head a.sequence a.question a.fact a.area.now image.accepted _ c.in_default.ensures _ c.new-q.ensures _ _ _
    c.answer_by_rank.ensures c.find.ensures
