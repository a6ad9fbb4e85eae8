-- The rows before a are reset.
use Rattle.bitrow.specs.Bit.{bit_at}
use Rattle.formed.specs.Registry.{registry_in}
use Rattle.matrix_resets.proofs.RowResets.{Resets}
use Rattle.matrix_resets.proofs.reset.Given as goal

abbrev pub invariant-loop-a : goal.invariant-loop-a
invariant-loop-a l = Resets (registry_in l.initial.memory) (bit_at l.rows) (bit_at l.columns) l.memory l.a
