-- Word by word.
use Rattle.std.proofs.Common.{rules}
use Rattle.selecting.proofs.RowLaws.{either-row}
use Rattle.selecting.proofs.either.Goals as goal

pub returns : goal.returns
returns c = either-row _ (search rules) _ (search rules)
