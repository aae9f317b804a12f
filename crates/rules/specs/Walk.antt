-- The scan of `Checked` in the form that a loop follows: in place of the words before a word it carries what the rules ask of
-- them, and the position. Readers of document 01 need not look at it: `scan_walk` (proofs/Checked) proves that it is the scan.
use Rattle.std.specs.Prelude.{ℕ, suc, cond, ◌||◌, List, [], ◌∷◌, nat_lt, Ok, Err}
use Rattle.rules.specs.Rules.{Before, fault_at}
use Rattle.rules.specs.Quick.{after}
use Rattle.rules.specs.Checked.{at_word}
use Rattle.image.specs.declared.answer.Head.{Head}
use Rattle.image.specs.declared.answer.Refusal.TheVariants.{Missing}
use Rattle.image.specs.Answer.{Checked}

abbrev pub ended : Head → Before → ℕ → Checked
ended h e p = cond (nat_lt e.steps h.steps || nat_lt e.sequences h.sequences) (Err (Missing p)) (Ok h)

-- the answer from position p on, where the words ws are left
unfoldable pub walk : Head → Before → ℕ → List ℕ → Checked
walk h e p [] = ended h e p
walk h e p (w ∷ ws) = at_word (fault_at h e p w) (walk h (after e w) (suc p) ws)

-- what the rules ask of the head alone, the word before the first step
abbrev pub opening : ℕ → Before
opening first = record { steps = 0; sequences = 0; last = first; sets = 0 }
