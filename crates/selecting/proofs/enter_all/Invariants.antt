-- The policies that are not to come are noted.
use Rattle.rules.specs.Policies.{to_come}
use Rattle.selecting.proofs.TableLaws.{NotedSoFar}
use Rattle.selecting.proofs.enter_all.Given as goal

abbrev pub invariant-loop-b : goal.invariant-loop-b
invariant-loop-b l = NotedSoFar l.memory l.table (to_come l.b-iterator)
