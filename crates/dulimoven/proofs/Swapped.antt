-- The check notices two different entries that change places: every engine's that meets demand 1 (`engines_notice`), and so this one's
-- (`notices_met`).
-- Assumes nothing.
use mathlib.Core.Path.{ap, ◌∙◌}
use Rattle.image.specs.Answer.{checked_answer}
use Rattle.swap.specs.Swapped.{swapped}
use Rattle.swap.proofs.Swapped.{swap_noticed}
use Rattle.dulimoven.specs.Demands.{Engine, Demand1}
use Rattle.dulimoven.specs.Swapped.{Notices}
use Rattle.dulimoven.specs.Engine.{engine}
use Rattle.dulimoven.proofs.Demands.{total}

pub engines_notice : (e : Engine) → Demand1 e → Notices e
engines_notice e demand =
    record { swap = λ image h i j a two. demand.check (swapped image i j) ∙ ap checked_answer (swap_noticed image h i j a two) }

pub notices_met : Notices engine
notices_met = engines_notice engine total
