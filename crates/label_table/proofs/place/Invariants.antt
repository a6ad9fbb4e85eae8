-- The place is what the probes that are left find from h on.
use Rattle.std.proofs.Common.{◌≡◌, ◌-◌, ◌<◌}
use Rattle.label_table.specs.LabelTable.{probe, table_place}
use Rattle.label_table.proofs.place.Given as goal

abbrev pub invariant-loop-probe : goal.invariant-loop-probe
invariant-loop-probe l = (table_place l.labels l.label ≡ probe l.labels l.label (8 - l._probe) l.h) × (l.h < 1024)
