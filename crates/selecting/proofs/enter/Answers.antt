-- It is among the wide ones, or in the rows.
use Rattle.std.proofs.Common.{refl}
use Rattle.selecting.proofs.TableLaws.{noted-rows, noted-wide}
use Rattle.selecting.proofs.enter.Goals as goal

pub returns-then-count-gt-MOST_ENTERED : goal.returns-then-count-gt-MOST_ENTERED
returns-then-count-gt-MOST_ENTERED c = noted-wide _ c.requires.1 refl c.put.ensures

pub returns-else-count-gt-MOST_ENTERED : goal.returns-else-count-gt-MOST_ENTERED
returns-else-count-gt-MOST_ENTERED c = noted-rows c.stored_set-who.ensures refl c.enter_rows.ensures
