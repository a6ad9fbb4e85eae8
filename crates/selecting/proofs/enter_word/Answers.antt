-- Each bit is the lowest of the rest of the word; where there is none, the rest is 0.
use Rattle.std.proofs.Common.{arith}
use Rattle.bitrow.proofs.Words.{trailing}
use Rattle.selecting.proofs.TableLaws.{entering-none, entering-next, entering-all}
use Rattle.selecting.proofs.enter_word.Goals as goal

pub loop-i-init : goal.loop-i-init
loop-i-init c = rw c.into_iter-i-iterator.ensures.into_iter_gives (entering-none _ _ _ c.requires.2 c.ranges.word.fits)

pub bounds-rows-c : goal.bounds-rows-c
bounds-rows-c c =
    let l = c.loop-i in
    let step = c.in-Some.ensures.steps in
    let low = trailing 64 l.i-iterator.0 l.invariant.small step.0 in
    omega (arith, low.below, step.1, c.from.ensures, c.requires)

pub loop-i-preserved : goal.loop-i-preserved
loop-i-preserved c =
    let l = c.loop-i in
    let step = c.in-Some.ensures.steps in
    let low = trailing 64 l.i-iterator.0 l.invariant.small step.0 in
    rw c.from.ensures
    (entering-next _ _ _ l.invariant c.in-Some.i _ step.2 step.3
    (omega (arith, low.below, step.1, c.requires)) (rw c.from.ensures at c.put.ensures))

pub returns : goal.returns
returns c = entering-all _ _ _ c.loop-i.invariant (omega (arith, c.in-None.ensures.steps))
