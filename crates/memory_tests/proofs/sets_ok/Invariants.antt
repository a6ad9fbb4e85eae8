-- The answer is that of the rows joined so far, and of those from here on.
use Rattle.std.proofs.Common.{◌≡◌, ℕ, Bool}
use Rattle.model.specs.Model.{policy_slots}
use Rattle.formed.specs.Tests.{◌and◌, between, set_rows_ok}
use Rattle.word_tests.specs.Joined.{rows_ok}
use Rattle.memory_tests.proofs.sets_ok.Given as goal

abbrev pub invariant-loop-q : goal.invariant-loop-q
invariant-loop-q l = (s : ℕ → Bool) → (rows_ok l.rows s and between (set_rows_ok l.memory s) l.q policy_slots) ≡ between (set_rows_ok l.memory s) 0 policy_slots
