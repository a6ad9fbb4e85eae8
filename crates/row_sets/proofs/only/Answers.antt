-- The word that i lies in has its bit, and the others have none.
use Rattle.bitrow.proofs.Rows.{only-row}
use Rattle.row_sets.proofs.only.Goals as goal

pub returns : goal.returns
returns c = only-row _ _ _ _ _ c.requires c.word_of.ensures c.word_of-2.ensures c.word_of-3.ensures c.word_of-4.ensures
