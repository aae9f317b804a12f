-- `list::call::list` meets its contract: 15, or the card.
-- Assumes nothing.
use borrow.Author.Rules.{rules}
use Rattle.std.proofs.Common.{◌≡◌, ℕ, true, false, leb, sym, ◌∙◌}
use Rattle.general.specs.Tests.{some}
use Rattle.list.proofs.Loops.{any_some}
use Rattle.list.proofs.call.list.Goals as goal

pub returns-then-member_past : goal.returns-then-member_past
returns-then-member_past c =
    let past : some (λ (m : ℕ). leb c.args.sequences m) c.args.list.now ≡ true =
    sym (any_some _ c.args.list.now) ∙ sym c.member_past.ensures ∙ c.if-member_past.true in
    search rules

pub returns : goal.returns
returns c =
    let past : some (λ (m : ℕ). leb c.args.sequences m) c.args.list.now ≡ false =
    sym (any_some _ c.args.list.now) ∙ sym c.member_past.ensures ∙ c.if-member_past.false in
    search rules
