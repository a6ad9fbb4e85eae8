-- Each policy adds its row.
use mathlib.Core.Path.{ap, ◌∙◌}
use Rattle.rules.specs.Policies.{to_come}
use Rattle.rules.proofs.Unions.{joining_none, joining-one, joining-all}
use Rattle.rules.proofs.union_of.Goals as goal

pub loop-q-init : goal.loop-q-init
loop-q-init c = joining_none (ap to_come c.into_iter-q-iterator.ensures.into_iter_gives ∙ c.of-q-items.ensures) c.none-joined.ensures

pub loop-q-preserved : goal.loop-q-preserved
loop-q-preserved c =
    let step = c.in-Some.ensures.steps in
    joining-one c.loop-q.invariant step.0 step.1 step.2 c.either-more.ensures

pub returns : goal.returns
returns c = joining-all c.loop-q.invariant c.in-None.ensures.steps
