-- A word joined with 2^i has bit i besides its own.
use Rattle.bitrow.proofs.Rows.{insert-bit}
use Rattle.bitrow.proofs.word_with.Goals as goal

pub returns : goal.returns
returns c = insert-bit _ _
