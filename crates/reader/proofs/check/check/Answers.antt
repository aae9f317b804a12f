-- `reader::check::check` meets its contract: at each way out the tests that led there say which case of `checked` holds.
-- Assumes nothing.
use Rattle.std.proofs.Common.{◌≡◌, ◌-◌, ◌≤◌, sym, ◌∙◌, arith, rules, length}
use Rattle.std.proofs.lemmas.Grind.{common_steps}
use Rattle.rules.specs.Checked.{checked}
use Rattle.rules.proofs.Checked.{refused_sum, refused_head, checked_walk}
use Rattle.reader.proofs.check.check.Goals as goal

pub returns-then-not-contains : goal.returns-then-not-contains
unfolding checked
returns-then-not-contains c = search rules

pub returns-then-not-sum_right : goal.returns-then-not-sum_right
returns-then-not-sum_right c =
    refused_sum c.args.image.now (grind (arith, common_steps)) (grind (arith, common_steps)) (sym c.sum_right.ensures ∙ c.if-not-sum_right.true)

pub returns-then-not-head_right : goal.returns-then-not-head_right
returns-then-not-head_right c =
    refused_head c.args.image.now (grind (arith, common_steps)) (grind (arith, common_steps)) (sym c.sum_right.ensures ∙ c.if-not-sum_right.false)
    (sym c.head_right.ensures ∙ c.if-not-head_right.true)

pub returns : goal.returns
returns c =
    let image = c.args.image.now in
    let low : 2 ≤ length image = grind (arith, common_steps) in
    let two : length image - 1 - 1 ≡ length image - 2 = omega arith in
    (rw two at c.read.ensures)
    ∙ checked_walk image low (grind (arith, common_steps)) (sym c.sum_right.ensures ∙ c.if-not-sum_right.false)
    (sym c.head_right.ensures ∙ c.if-not-head_right.false)
