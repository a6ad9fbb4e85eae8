-- The part that was lent is the row, and so the memory's row is.
use Rattle.std.proofs.Common.{arith, rules}
use Rattle.store.proofs.Stores.{row-written}
use Rattle.access.proofs.set_row.Goals as goal

pub returns : goal.returns
returns c = row-written _ _ c.args.row c.args.r (omega arith) (search rules) c.copy_from_slice.ensures.after
