-- Each row is made of the memory; the table is not filled.
use Rattle.policy_findings.proofs.PolicyView.of.Goals as goal

pub returns-clause-seen : goal.returns-clause-seen
returns-clause-seen c = record { standing = c.requires.1; ingress = c.of_direction.ensures; egress = c.of_direction-2.ensures; selecting = c.empty.ensures c.args.memory.now }
