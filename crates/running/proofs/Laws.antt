-- The laws that settling asks of the visits of the set of sequences with a run.
-- Assumes nothing.
use Rattle.std.proofs.Common.{◌≡◌, ℕ, ◌<◌, List, [], ◌∷◌, get_or, length, refl, ◌≤◌, ◌∙◌, arith}
use Rattle.callers.specs.Callers.{calls}
use Rattle.settling.specs.Settling.{VisitLaws}
use Rattle.running.specs.Visited.{lacking, visited}
use Rattle.running.proofs.Visited.{visits_lower, visits_local}

pub run_laws : (part places : List ℕ) (n : ℕ) (t : List ℕ) → n ≤ 256 → length t ≡ 4
    → VisitLaws (visited part places) lacking (calls part places) n (λ u. (n ≤ n) × (length u ≡ 4)) t
run_laws part places n t few four =
    record {
      room = 4;
      long = omega (arith, four);
      lowers = visits_lower part places n few;
      local = visits_local part places n few;
      kept = λ u same. (omega arith, same ∙ four);
    }

-- ---- a set as a table of one word

pub table_some : (t : List (List ℕ)) → length (get_or t 0 []) ≡ 4 → 0 < length t
table_some [] four = absurd (omega arith)
table_some (s ∷ t) four = omega arith

pub table_set : (t : List (List ℕ)) (s : List ℕ) → 0 < length t → get_or t 0 s ≡ get_or t 0 []
table_set [] s some = absurd (omega arith)
table_set (x ∷ t) s some = refl
