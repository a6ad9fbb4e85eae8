-- Each turn puts the lines of the findings of one word.
use native.Mathlib.Omega.{arith}
use Rattle.std.proofs.Common.{length-take, length-drop}
use Rattle.finding_lines.proofs.RowLines.{row_lines-start, row_lines-room, row_lines-next, row_lines-done}
use Rattle.finding_lines.proofs.put_row_lines.Goals as goal

pub loop-word-init : goal.loop-word-init
loop-word-init c = record { lines = row_lines-start; most = omega arith; base = omega arith }

pub slice_bounds-put_word_lines-count : goal.slice_bounds-put_word_lines-count
slice_bounds-put_word_lines-count c = let h = c.loop-word.invariant in omega (arith, row_lines-room h.lines c.loop-word-test.true)

pub slice_bounds-put_word_lines-start : goal.slice_bounds-put_word_lines-start
slice_bounds-put_word_lines-start c = let h = c.loop-word.invariant in omega (arith, row_lines-room h.lines c.loop-word-test.true)

pub put_word_lines-put-requires : goal.put_word_lines-put-requires
put_word_lines-put-requires c =
    let h = c.loop-word.invariant in
    let r = row_lines-room h.lines c.loop-word-test.true in
    (c.front_of-front.ensures.holds, omega (arith, h.base, c.loop-word-test.true), simp (length-take, length-drop) (omega arith))

pub loop-word-preserved : goal.loop-word-preserved
loop-word-preserved c =
    let h = c.loop-word.invariant in
    record {
      lines = row_lines-next h.lines c.loop-word-test.true (omega (arith, c.front_of-front.ensures.pair_value, h.base)) c.put_word_lines-put.ensures.puts (omega arith) c.put_word_lines-put.ensures.upper_bound;
      most = omega arith;
      base = omega arith;
    }

pub returns-clause-puts : goal.returns-clause-puts
returns-clause-puts c = row_lines-done c.loop-word.invariant.lines (omega arith)

pub returns-clause-upper_bound : goal.returns-clause-upper_bound
returns-clause-upper_bound c = let h = c.loop-word.invariant in omega (arith, h.lines.room)
