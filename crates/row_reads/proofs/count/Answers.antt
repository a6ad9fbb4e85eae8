-- The ones of the four words add up to the size of the set.
use Rattle.bitrow.proofs.Rows.{size-row}
use Rattle.std.proofs.Common.{rules}
use Rattle.row_reads.proofs.count.Goals as goal

pub returns : goal.returns
returns c = size-row _ (search rules)
