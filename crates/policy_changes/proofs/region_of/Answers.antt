use Rattle.policy_changes.proofs.Touched.{touches-egress, touches-ingress}
use Rattle.policy_changes.proofs.region_of.Goals as goal

pub returns-in-Ingress : goal.returns-in-Ingress
returns-in-Ingress c = rw c.in-Ingress.is (touches-ingress _ _)

pub returns-in-Egress : goal.returns-in-Egress
returns-in-Egress c = rw c.in-Egress.is (touches-egress _ _)
