-- The rows have the containers before c.
use Rattle.std.proofs.Common.{◌≡◌}
use Rattle.label_table.specs.LabelRows.{LabelRows}
use Rattle.label_marks.proofs.mark_all.Given as goal

abbrev pub invariant-loop-c : goal.invariant-loop-c
invariant-loop-c l = record {
  kept : l.table.labels ≡ l.initial.table.labels;
  marked : LabelRows l.memory l.c l.table;
}
