-- The answer is that of the rows joined so far, and of those from here on.
use Rattle.std.proofs.Common.{◌≡◌, ℕ, Bool}
use Rattle.model.specs.Model.{container_slots}
use Rattle.formed.specs.Tests.{◌and◌, between, matrix_row_ok}
use Rattle.word_tests.specs.Joined.{rows_ok}
use Rattle.memory_tests.proofs.matrix_ok.Given as goal

abbrev pub invariant-loop-a : goal.invariant-loop-a
invariant-loop-a l = (s : ℕ → Bool) → (rows_ok l.rows s and between (matrix_row_ok l.memory s) l.a container_slots) ≡ between (matrix_row_ok l.memory s) 0 container_slots
