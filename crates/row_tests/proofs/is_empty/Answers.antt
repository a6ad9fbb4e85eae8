-- The four words joined are 0 exactly if no bit is set.
use Rattle.bitrow.proofs.Rows.{empty-row}
use Rattle.std.proofs.Common.{rules}
use Rattle.row_tests.proofs.is_empty.Goals as goal

pub returns : goal.returns
returns c = empty-row _ (search rules)
