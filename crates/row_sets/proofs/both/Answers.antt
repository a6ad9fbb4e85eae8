-- Word by word, a bit of the words' `&` is a bit of both.
use Rattle.bitrow.proofs.Rows.{and-row}
use Rattle.std.proofs.Common.{rules}
use Rattle.row_sets.proofs.both.Goals as goal

pub returns : goal.returns
returns c = and-row _ _ (search rules)
