-- Word by word, a bit of the words' `|` is a bit of either.
use Rattle.bitrow.proofs.Rows.{or-row}
use Rattle.std.proofs.Common.{rules}
use Rattle.row_sets.proofs.either.Goals as goal

pub returns : goal.returns
returns c = or-row _ _ (search rules) (search rules)
