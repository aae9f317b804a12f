-- `text::area::Text::put_numeral` meets its contract: the numeral of what is left, put in front, makes the whole numeral.
-- Assumes nothing.
use Rattle.std.proofs.Common.{◌≤◌, length}
use Rattle.text.specs.Number.{numeral}
use Rattle.text.specs.Text.{Put}
use Rattle.text.specs.declared.area.Text.{Text}
use Rattle.text.proofs.area.Text.put_numeral.Given as goal

abbrev pub invariant-loop-rest : goal.invariant-loop-rest
invariant-loop-rest l =
    (length (numeral l.base l.rest) ≤ l.self.begin)
    × ((after : Text) → Put l.self (numeral l.base l.rest) after → Put l.initial.self (numeral l.base l.n) after)

abbrev pub decreases-loop-rest : goal.decreases-loop-rest
decreases-loop-rest l = l.rest
