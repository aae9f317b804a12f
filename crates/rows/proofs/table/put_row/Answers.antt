-- `rows::table::put_row` meets its contract: a copy of the row's words is a store for each of them.
-- Assumes nothing.
use Rattle.std.proofs.Common.{◌*◌, refl, sym, ◌∙◌, arith}
use Rattle.std.proofs.lemmas.List.Edits.{sets-eq}
use Rattle.std.proofs.lemmas.Slice.{put_mid-paste}
use Rattle.row.specs.Words.{row_words, words_of}
use Rattle.rows.proofs.Places.{stores}
use Rattle.rows.proofs.table.put_row.Goals as goal

pub returns : goal.returns
returns c =
    let words = c.copy_from_slice.ensures.after ∙ c.into-words.ensures in
    put_mid-paste _ _ c.args.table.now _ (words_of c.args.r) row_words words (omega arith) refl
    ∙ sym (sets-eq (words_of c.args.r) c.args.table.now (row_words * c.args.c) (omega arith))
    ∙ stores c.args.table.now c.args.c c.args.r
