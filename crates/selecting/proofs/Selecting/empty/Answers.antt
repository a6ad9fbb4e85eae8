-- It is not filled, however soon it will be.
use Rattle.selecting.proofs.RowLaws.{empty-shaped}
use Rattle.selecting.proofs.TableLaws.{later-filled, not-filled}
use Rattle.selecting.proofs.Selecting.empty.Goals as goal

pub returns-then-at_once : goal.returns-then-at_once
returns-then-at_once c = λ m. not-filled m (empty-shaped 256) (later-filled _)

pub returns-else-at_once : goal.returns-else-at_once
returns-else-at_once c = λ m. not-filled m (empty-shaped 256) (later-filled _)
