-- Each bit is the lowest of the rest of the word; where there is none, the rest is 0.
use Rattle.std.proofs.Common.{arith}
use Rattle.bitrow.proofs.Words.{trailing}
use Rattle.selecting.proofs.TableLaws.{joining-none, joining-next, joining-all}
use Rattle.selecting.proofs.join_word.Goals as goal

pub loop-i-init : goal.loop-i-init
loop-i-init c = rw c.into_iter-i-iterator.ensures.into_iter_gives (joining-none _ _ _ _ c.ranges.word.fits)

pub bounds-rows-c : goal.bounds-rows-c
bounds-rows-c c =
    let l = c.loop-i in
    let step = c.in-Some.ensures.steps in
    let low = trailing 64 l.i-iterator.0 l.invariant.small step.0 in
    omega (arith, low.below, step.1, c.from.ensures, c.requires)

pub loop-i-preserved : goal.loop-i-preserved
loop-i-preserved c =
    let step = c.in-Some.ensures.steps in
    joining-next _ _ _ c.loop-i.invariant c.in-Some.i step.2 step.3 (rw c.from.ensures at c.either-next.ensures)

pub returns : goal.returns
returns c = joining-all _ _ _ c.loop-i.invariant (omega (arith, c.in-None.ensures.steps))
