-- Each policy is entered.
use mathlib.Core.Path.{ap, ◌∙◌}
use Rattle.rules.specs.Policies.{to_come}
use Rattle.selecting.proofs.TableLaws.{so_far-none, so_far-next, so_far-all}
use Rattle.selecting.proofs.enter_all.Goals as goal

pub loop-b-init : goal.loop-b-init
loop-b-init c =
    let p = c.requires in
    so_far-none _ p.1 p.0 (ap to_come c.into_iter-b-iterator.ensures.into_iter_gives ∙ c.of-b-items.ensures)

pub enter-requires : goal.enter-requires
enter-requires c = (c.in-Some.ensures.steps.0, c.loop-b.invariant.shape)

pub loop-b-preserved : goal.loop-b-preserved
loop-b-preserved c = so_far-next _ c.loop-b.invariant c.in-Some.ensures.steps.2 c.enter.ensures

pub returns : goal.returns
returns c = so_far-all _ c.loop-b.invariant c.in-None.ensures.steps
