-- The engine: the calls, as the contracts of the exports cite them. What its answers mean is `Demands`, which it meets (`demands_met`,
-- proofs/Demands).
use Rattle.std.specs.Prelude.{ℕ, List, length}
use Rattle.image.specs.Answer.{checked_answer}
use Rattle.rules.specs.Checked.{checked}
use Rattle.card.specs.Answer.{cards_of, card_area, cards_answer}
use Rattle.chains.specs.Call.{Reply, chained, area_after}
use Rattle.question.specs.Reply.{reply_number}
use Rattle.list.specs.Answer.{listed, listed_answer, card_after}
use Rattle.library.specs.Library.{library_of}
use Rattle.endless.specs.Answer.{endless_for, endless_answer}
use Rattle.endless.specs.Answer as endless
use Rattle.seal.specs.Answer.{sealing, seal_answer, image_after}
use Rattle.dulimoven.specs.Returned.{Returned, returned}
use Rattle.dulimoven.specs.Demands.{Engine}

-- a reply of the chain call in its area
abbrev pub replied : Reply → List ℕ → Returned
replied r area = returned (reply_number r) (area_after r area)

abbrev pub engine : Engine
engine =
    record {
      check = λ image. checked_answer (checked image);
      cards = λ image area. returned (cards_answer (cards_of image area)) (card_area image area);
      chain = λ image c q f area. replied (chained image c q f (length area)) area;
      list = λ facts sequences cards list card. let found = listed sequences cards list in returned (listed_answer found) (card_after found facts cards list card);
      endless = λ image c area.
          let found = endless_for image c (length area) in returned (endless_answer found) (endless.area_after found (library_of image) c area);
    }

-- the seal call, which meets its own demand (`sealer_met`, proofs/SealCall)
abbrev pub sealer : List ℕ → Returned
sealer image = returned (seal_answer (sealing image)) (image_after (sealing image) image)
