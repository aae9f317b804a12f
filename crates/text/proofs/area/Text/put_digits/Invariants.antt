-- `text::area::Text::put_digits` meets its contract: the digits that are left, put in front, make all of them.
-- Assumes nothing.
use Rattle.std.proofs.Common.{◌-◌, ◌+◌, ◌≤◌}
use Rattle.text.specs.Number.{digits_in}
use Rattle.text.specs.Text.{Put}
use Rattle.text.specs.declared.area.Text.{Text}
use Rattle.text.proofs.area.Text.put_digits.Given as goal

abbrev pub invariant-loop : goal.invariant-loop
invariant-loop l =
    (l.count ≤ l.self.begin + l.counter)
    × ((after : Text) → Put l.self (digits_in l.base (l.count - l.counter) l.rest) after → Put l.initial.self (digits_in l.base l.count l.n) after)
