-- Each turn compares one policy.
use mathlib.Core.Path.{sym, ◌∙◌}
use borrow.Author.Rules.{rules}
use Rattle.bitrow.proofs.Rows.{row-bounded}
use Rattle.entries.proofs.Trials.{policy-below}
use Rattle.container_findings.proofs.Gathered.{gathered_none, gathered-take, gathered-skip, gathered-of, gathered-all}
use Rattle.policy_findings.proofs.compare_all.Goals as goal

pub loop-b-init : goal.loop-b-init
loop-b-init c = gathered_none (c.into_iter-b-iterator.ensures.into_iter_gives ∙ c.of-b-items.ensures) c.none-chosen.ensures

pub compare-requires : goal.compare-requires
compare-requires c =
    let p = c.requires in
    let h = p.1.stand _ (gathered-of c.loop-b.invariant c.in-Some.ensures.steps) in
    (p.0, record { formed = p.0.at.formed; here = h; below = policy-below _ _ h })

pub loop-b-preserved-then-compare : goal.loop-b-preserved-then-compare
loop-b-preserved-then-compare c =
    gathered-take c.loop-b.invariant c.in-Some.ensures.steps (sym c.compare.ensures ∙ c.if-compare.true) c.with-next.ensures

pub loop-b-preserved : goal.loop-b-preserved
loop-b-preserved c = gathered-skip c.loop-b.invariant c.in-Some.ensures.steps (sym c.compare.ensures ∙ c.if-compare.false)

pub returns : goal.returns
returns c = gathered-all c.loop-b.invariant (row-bounded _ (search rules)) c.in-None.ensures.steps
