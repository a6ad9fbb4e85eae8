-- Each policy joins its row.
use mathlib.Core.Path.{refl, ap, ◌∙◌}
use Rattle.rules.specs.Policies.{to_come}
use Rattle.joins.proofs.JoinLaws.{lines_none, lines-take, lines-all}
use Rattle.joins.proofs.join_all.Goals as goal

pub loop-q-init : goal.loop-q-init
loop-q-init c = lines_none c.requires (ap to_come c.into_iter-q-iterator.ensures.into_iter_gives ∙ c.of-q-items.ensures)

pub loop-q-preserved : goal.loop-q-preserved
loop-q-preserved c = lines-take c.loop-q.invariant c.in-Some.ensures.steps c.both-those.ensures refl c.join_rows.ensures

pub returns : goal.returns
returns c = lines-all c.loop-q.invariant c.in-None.ensures.steps
