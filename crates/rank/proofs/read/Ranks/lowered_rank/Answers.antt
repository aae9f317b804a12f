-- `rank::read::Ranks::lowered_rank` meets its contract: the rank so far, lowered by the alternatives to come, is the rank lowered by all.
-- Assumes nothing.
use borrow.Author.Tests.{not-false}
use native.Mathlib.Omega.{arith}
use mathlib.Core.Path.{◌≡◌, sym, ap, ◌∙◌}
use mathlib.Core.Bool.{Bool, true, not, ◌||◌}
use lib.ListN.{get_or, get_or-eq_default}
use lib.Dec.{leb}
use Rattle.general.proofs.Bools.{nor_right}
use Rattle.image.specs.Word.{is_kind, is_entry}
use Rattle.walk.proofs.Walking.{walking_turn, walking_skip, walking_out}
use Rattle.rank.specs.Tables.{look_in, dead_in}
use Rattle.rank.proofs.Looks.{lowered_cons, lowered_done, lowered_nil}
use Rattle.rank.proofs.read.Ranks.lowered_rank.Goals as goal

pub returns-then-r-is_of : goal.returns-then-r-is_of
returns-then-r-is_of c =
    let T = c.args.self.now in
    lowered_done (look_in T.q T.ahead.now T.behind.now T.ranks.now) c.loop-i.r c.loop-i.invariant (sym c.part_entry.ensures ∙ c.if-not-part_entry.true)
    (ap (λ (k : Bool). leb c.loop-i.r 1 || not k) (sym c.is_of.ensures) ∙ c.if-r-is_of.true)

pub loop-i-preserved-then-not-part_entry : goal.loop-i-preserved-then-not-part_entry
loop-i-preserved-then-not-part_entry c =
    let T = c.args.self.now in
    let opener : is_kind 7 (get_or T.part.now c.loop-i.i 0) ≡ true = sym c.is_of.ensures ∙ not-false _ (nor_right (leb c.loop-i.r 1) _ c.if-r-is_of.false) in
    let read = c.read_after-found.ensures in
    rw c.lower-r.ensures (walking_turn c.loop-i.invariant (dead_in T.q T.ahead.now T.behind.now T.ranks.now) opener read.ended (lowered_cons _ _ _ _ _ read.value))

pub loop-i-preserved : goal.loop-i-preserved
loop-i-preserved c = walking_skip c.loop-i.invariant (sym c.part_entry.ensures ∙ c.if-not-part_entry.false)

-- past the words stands 0, which opens nothing
pub returns : goal.returns
returns c =
    let T = c.args.self.now in
    let past = get_or-eq_default T.part.now 0 {n = c.loop-i.i} (omega arith) in
    sym (lowered_nil (look_in T.q T.ahead.now T.behind.now T.ranks.now) c.loop-i.r) ∙ walking_out c.loop-i.invariant (ap (is_kind 7) past) (ap is_entry past)
