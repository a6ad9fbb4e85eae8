-- Four words of 0 have no bit.
use Rattle.bitrow.proofs.Rows.{zeros-row}
use Rattle.row_sets.proofs.none.Goals as goal

pub returns : goal.returns
returns c = zeros-row
