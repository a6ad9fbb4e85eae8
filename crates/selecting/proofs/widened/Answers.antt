-- The two words more are 0.
use Rattle.std.proofs.Common.{rules}
use Rattle.selecting.proofs.RowLaws.{wider}
use Rattle.selecting.proofs.widened.Goals as goal

pub returns : goal.returns
returns c = wider _ (search rules)
