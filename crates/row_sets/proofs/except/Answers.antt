-- Word by word, a bit of `a & !b` is a bit of a and not of b.
use Rattle.bitrow.proofs.Rows.{and-not-row}
use Rattle.std.proofs.Common.{rules}
use Rattle.row_sets.proofs.except.Goals as goal

pub returns : goal.returns
returns c = and-not-row _ _ (search rules) (search rules)
