-- Each bit is the lowest of the rest of the word; where there is none, the rest is 0.
use Rattle.std.proofs.Common.{arith}
use mathlib.Core.Path.{ap, ◌∙◌}
use Rattle.bitrow.specs.Bit.{bit}
use Rattle.bitrow.proofs.Words.{trailing}
use Rattle.joins.proofs.JoinLaws.{joining-next, joining-all}
use Rattle.joins.proofs.join_word.Goals as goal

pub loop-k-preserved : goal.loop-k-preserved
loop-k-preserved c =
    let l = c.loop-k in
    let step = c.in-Some.ensures.steps in
    let low = trailing 64 l.k-iterator.0 l.invariant.small step.0 in
    rw c.from.ensures
    (joining-next _ _ _ _ l.invariant c.in-Some.k (ap (bit l.k-iterator.0) step.1 ∙ low.there) step.2 step.3 _
    (omega (arith, low.below, step.1, l.invariant.size, c.told-lines, c.requires)) (rw c.from.ensures at c.either-row.ensures))

pub returns : goal.returns
returns c = joining-all _ _ _ _ c.loop-k.invariant (omega (arith, c.in-None.ensures.steps))
