-- `chain::call::find` meets its contract: by small areas where they have the room, and by areas that have it for every image.
-- Assumes nothing.
use native.Mathlib.Omega.{arith}
use Rattle.image.specs.Word.{most_steps, most_sequences}
use Rattle.tables.proofs.Tables.{few_steps, few_sequences}
use Rattle.chain.proofs.Finding.{areas_asked}
use Rattle.chain.proofs.call.find.Goals as goal

pub find_in-requires-2 : goal.find_in-requires-2
find_in-requires-2 c =
    let a = c.args.accepted.now in
    (c.requires, areas_asked a.head c.args.q c.requires.none most_steps most_sequences (few_steps a.image.now a.head a.accepted) (few_sequences a.image.now a.head a.accepted) (omega arith) (omega arith))
