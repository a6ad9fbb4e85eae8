-- The rows have c for the labels so far.
use Rattle.std.proofs.Common.{◌≡◌, ◌+◌}
use Rattle.store.specs.Layout.{container_start, word_at}
use Rattle.label_table.proofs.RowLaws.{Marking}
use Rattle.label_marks.proofs.mark_container.Given as goal

abbrev pub invariant-loop-label : goal.invariant-loop-label
invariant-loop-label l =
    let at = container_start l.c in
    record {
      kept : l.table.labels ≡ l.initial.table.labels;
      marking : Marking l.memory l.initial.table.labels l.c at (at + word_at l.memory at) l.initial.table.rows l.table.rows (at + 1 + l.label-index);
    }
