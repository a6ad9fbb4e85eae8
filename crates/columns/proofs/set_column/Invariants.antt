-- After i turns the column of the first i rows is stored.
use Rattle.std.proofs.Common.{◌≡◌}
use Rattle.store.specs.Memory.{column_set}
use Rattle.store.proofs.Stores.{first_rows}
use Rattle.columns.proofs.set_column.Given as goal

abbrev pub invariant-loop-i : goal.invariant-loop-i
invariant-loop-i l = l.memory ≡ column_set l.initial.memory (first_rows l.band l.i) l.b l.values
