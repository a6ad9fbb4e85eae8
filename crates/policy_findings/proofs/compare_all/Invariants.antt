-- Chosen are those of the policies before the next that compare so with the one.
use Rattle.model.specs.Kinds.{kind_number}
use Rattle.policy_pairs.specs.Comparisons.{comparison}
use Rattle.container_findings.proofs.Gathered.{Gathered}
use Rattle.policy_findings.proofs.compare_all.Given as goal

abbrev pub invariant-loop-b : goal.invariant-loop-b
invariant-loop-b l = Gathered l.fn.policies (comparison (kind_number l.kind) l.memory l.own.slot) l.b-iterator l.chosen
