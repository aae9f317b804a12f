-- Rows are the same by `==`, field by field in their order, exactly where `same_rows` says so.
-- Assumes nothing.
use mathlib.Core.Path.{◌≡◌}
use mathlib.Core.Bool.{Bool, ◌&&◌}
use lib.Dec.{eqb}
use Rattle.std.proofs.Math.Bool.{and_assoc}
use Rattle.row.specs.Words.{same_rows}
use Rattle.row.specs.declared.words.Marks.{Marks}
use Rattle.row.specs.declared.words.Row.{Row}

abbrev equal_marks : Marks → Marks → Bool
equal_marks x y = eqb x.present y.present && (eqb x.absent y.absent && eqb x.untouched y.untouched)

-- what `==` answers
abbrev pub equal_rows : Row → Row → Bool
equal_rows x y =
    eqb x.run y.run
    && (eqb x.empty y.empty && (equal_marks x.last y.last && (equal_marks x.first y.first && (eqb x.cleared y.cleared && eqb x.unmentioned y.unmentioned))))

pub equal_same : (x y : Row) → equal_rows x y ≡ same_rows x y
equal_same x y = simp and_assoc
