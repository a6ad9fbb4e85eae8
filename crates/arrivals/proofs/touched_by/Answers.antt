-- Rows by the egress policies, columns by the ingress policies.
use mathlib.Core.Path.{refl}
use Rattle.block.specs.declared.Direction.TheVariants.{Ingress, Egress}
use Rattle.reach.proofs.SideLaws.{policies-length}
use Rattle.arrivals.proofs.Lines.{line-came}
use Rattle.arrivals.proofs.touched_by.Goals as goal

pub returns : goal.returns
returns c =
    let selected = c.requires.gathers.sets.selected in
    record {
      rows = line-came _ Egress _ (policies-length _) selected _ c.sides_of-sides.ensures.out c.both.ensures c.union_of-leaving.ensures c.either.ensures;
      columns = line-came _ Ingress _ (policies-length _) selected _ c.sides_of-sides.ensures.back c.both-2.ensures c.union_of-taking.ensures c.either-2.ensures;
      policies = refl;
      containers = refl;
    }
