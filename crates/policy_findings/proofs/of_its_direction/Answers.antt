-- Its direction chooses one of the two rows.
use mathlib.Core.Path.{◌∙◌, ap}
use Rattle.reach.specs.Sides.{direction_set}
use Rattle.policy_findings.proofs.of_its_direction.Goals as goal

pub returns-in-Ingress : goal.returns-in-Ingress
returns-in-Ingress c = let p = c.requires in p.1.ingress ∙ ap (direction_set _) c.in-Ingress.ensures

pub returns-in-Egress : goal.returns-in-Egress
returns-in-Egress c = let p = c.requires in p.1.egress ∙ ap (direction_set _) c.in-Egress.ensures
