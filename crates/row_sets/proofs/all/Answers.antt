-- A row of four full words has every number below 256.
use Rattle.bitrow.proofs.Rows.{ones-row}
use Rattle.row_sets.proofs.all.Goals as goal

pub returns : goal.returns
returns c = ones-row
