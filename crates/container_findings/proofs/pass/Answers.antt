-- Each turn narrows both by the row of the container of the lowest bit.
-- Where there is none, all have passed.
use mathlib.Core.Path.{ap, ◌∙◌}
use Rattle.std.proofs.Common.{arith, rules}
use Rattle.bitrow.specs.Bit.{bit}
use Rattle.bitrow.proofs.Words.{trailing}
use Rattle.row_members.specs.declared.Bits.{Bits}
use Rattle.container_findings.proofs.Columns.{passing_none, passing-next, passing-all}
use Rattle.container_findings.proofs.pass.Goals as goal

pub loop-k-init : goal.loop-k-init
loop-k-init c = passing_none (ap (λ (s : Bits). s.0) c.into_iter-k-iterator.ensures.into_iter_gives) (search rules)

pub loop-k-preserved : goal.loop-k-preserved
loop-k-preserved c =
    let l = c.loop-k in
    let step = c.in-Some.ensures.steps in
    let low = trailing 64 l.k-iterator.0 l.invariant.small step.0 in
    passing-next l.invariant c.in-Some.k c.requires (omega (arith, low.below, step.1)) (ap (bit l.k-iterator.0) step.1 ∙ low.there) step.2 step.3
    (rw c.from.ensures at c.row_at-row.ensures) c.both-all.ensures (rw c.from.ensures at c.without-others.ensures) c.except-none.ensures

pub returns : goal.returns
returns c = passing-all c.loop-k.invariant c.in-None.ensures.steps
