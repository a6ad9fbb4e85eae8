-- Each turn puts the line of the lowest bit left.
use mathlib.Core.Path.{refl}
use native.Mathlib.Omega.{arith}
use Rattle.std.proofs.Common.{length-take, length-drop}
use Rattle.finding_lines.proofs.RowLines.{word_lines-start, word_lines-low, word_lines-room, word_lines-next, word_lines-done}
use Rattle.finding_lines.proofs.put_word_lines.Goals as goal

pub loop-i-init : goal.loop-i-init
loop-i-init c = rw c.into_iter-i-iterator.ensures.into_iter_gives (word_lines-start (omega arith))

pub slice_bounds-put_line-count : goal.slice_bounds-put_line-count
slice_bounds-put_line-count c = omega (arith, word_lines-room c.loop-i.invariant c.in-Some.ensures.steps)

pub slice_bounds-put_line-start : goal.slice_bounds-put_line-start
slice_bounds-put_line-start c = omega (arith, word_lines-room c.loop-i.invariant c.in-Some.ensures.steps)

pub put_line-put-requires : goal.put_line-put-requires
put_line-put-requires c =
    let r = word_lines-room c.loop-i.invariant c.in-Some.ensures.steps in
    let l = word_lines-low c.loop-i.invariant c.in-Some.ensures.steps in
    let i = c.from.ensures in
    (c.requires.0, omega arith, simp (length-take, length-drop) (omega arith))

pub loop-i-preserved : goal.loop-i-preserved
loop-i-preserved c =
    word_lines-next c.loop-i.invariant c.in-Some.ensures.steps c.args.front.now.pair c.args.base refl (omega arith) (rw c.from.ensures at c.put_line-put.ensures.puts) (omega arith) c.put_line-put.ensures.upper_bound

pub returns-clause-puts : goal.returns-clause-puts
returns-clause-puts c = word_lines-done c.loop-i.invariant c.in-None.ensures.steps

pub returns-clause-upper_bound : goal.returns-clause-upper_bound
returns-clause-upper_bound c = let h = c.loop-i.invariant in omega (arith, h.room)
