-- `rank::read::Ranks::nothing` meets its contract: without entries the depth is 0, all have a rank, and no position counts.
-- Assumes nothing.
use Rattle.std.proofs.Common.{◌≡◌, ℕ, refl}
use Rattle.general.specs.Scan.{every}
use Rattle.question.specs.Asked.{by_mark}
use Rattle.question.specs.declared.asked.Mark.{Mark}
use Rattle.question.specs.declared.asked.Mark.TheVariants.{Present, Absent, Untouched, Run, Other}
use Rattle.rank.specs.Walk.{depth_from, fewest_from}
use Rattle.rank.proofs.read.Ranks.nothing.Goals as goal

touch_none : (m : Mark) (none : ℕ) → (m ≡ Untouched → ⊥) → (m ≡ Run → ⊥) → none ≡ by_mark m 0 0 none
touch_none Present none u r = refl
touch_none Absent none u r = refl
touch_none Untouched none u r = absurd (u refl)
touch_none Run none u r = absurd (r refl)
touch_none Other none u r = refl

pub returns-in-Untouched : goal.returns-in-Untouched
unfolding depth_from
returns-in-Untouched c = rw c.in-Untouched.is refl

pub returns-in-Run : goal.returns-in-Run
unfolding every
returns-in-Run c = rw c.in-Run.is refl

pub returns-in_default : goal.returns-in_default
unfolding depth_from every fewest_from
returns-in_default c = touch_none c.args.self.now.q.mark c.args.self.now.q.none c.in_default.not-Untouched c.in_default.not-Run
