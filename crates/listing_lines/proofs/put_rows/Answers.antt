-- Each turn puts the lines of one row.
use native.Mathlib.Omega.{arith}
use Rattle.std.proofs.Common.{length-take, length-drop}
use Rattle.bitrow.specs.Bit.{bit_at}
use Rattle.bitrow.proofs.Sizes.{size-le}
use Rattle.buffer.proofs.BufferLaws.{puts-size}
use Rattle.findings.proofs.ListedSoFar.{listed-come, listed-over}
use Rattle.listing_lines.proofs.LinesSoFar.{lines_of, before-small, lines_so_far-none, lines_so_far-row, lines_so_far-last, lines_so_far-on, lines_so_far-over}
use Rattle.listing_lines.proofs.put_rows.Goals as goal

pub loop-row-init : goal.loop-row-init
loop-row-init c =
    rw c.into_iter-row-iterator.ensures.into_iter_gives
    (record { lines = lines_so_far-none _ c.requires.2; fewer = c.requires.3; room = omega arith; view = c.requires.1; slots = c.requires.2.slots })

pub put_first_lines-last-requires : goal.put_first_lines-last-requires
put_first_lines-last-requires c =
    let g = c.loop-row.invariant in
    let b = size-le (bit_at c.cut-numbers.result) 256 in
    let z = puts-size g.lines.puts in
    (c.in-Some.ensures.steps.1.within, omega (arith, g.fewer), omega (arith, c.count-many.ensures, c.if-left-many.true), omega (arith, c.count-many.ensures, c.if-left-many.true), simp (length-take, length-drop) (omega (arith, g.room, g.fewer)))

pub returns-then-left-many-clause-lines : goal.returns-then-left-many-clause-lines
returns-then-left-many-clause-lines c =
    let g = c.loop-row.invariant in
    let step = c.in-Some.ensures.steps in
    let come = listed-come lines_of _ g.slots g.lines step.1.within step.0 in
    lines_so_far-last _ come step.1.within g.fewer c.finding_row-found.ensures.row c.cut-numbers.ensures (omega (arith, c.count-many.ensures, c.if-left-many.true)) c.put_first_lines-last.ensures.lines

pub returns-then-left-many-clause-goes_on : goal.returns-then-left-many-clause-goes_on
returns-then-left-many-clause-goes_on c =
    let g = c.loop-row.invariant in
    let step = c.in-Some.ensures.steps in
    let come = listed-come lines_of _ g.slots g.lines step.1.within step.0 in
    lines_so_far-on _ come step.1.within g.fewer c.finding_row-found.ensures.row c.cut-numbers.ensures (omega (arith, c.count-many.ensures, c.if-left-many.true)) c.put_first_lines-last.ensures.lines (before-small c.requires.2)
    c.put_first_lines-last.ensures.cursor_value

pub loop-row-preserved : goal.loop-row-preserved
loop-row-preserved c =
    let g = c.loop-row.invariant in
    let step = c.in-Some.ensures.steps in
    let come = listed-come lines_of _ g.slots g.lines step.1.within step.0 in
    record {
      lines =
          rw (step.1.kind, step.1.slot, step.1.from)
          (lines_so_far-row _ come step.1.within g.fewer c.finding_row-found.ensures.row c.cut-numbers.ensures c.count-many.ensures (omega (arith, c.if-left-many.false)) c.put_row_lines-put.ensures.puts);
      fewer = omega (arith, g.fewer, c.if-left-many.false);
      room = omega (arith, g.room, c.count-many.ensures, c.put_row_lines-put.ensures.upper_bound);
      view = c.finding_row-found.ensures.view;
      slots = rw step.1.slots g.slots;
    }

pub returns-clause-lines : goal.returns-clause-lines
returns-clause-lines c =
    let g = c.loop-row.invariant in
    (lines_so_far-over _ g.lines g.fewer (listed-over lines_of _ g.slots g.lines c.in-None.ensures.steps)).0

pub returns-clause-goes_on : goal.returns-clause-goes_on
returns-clause-goes_on c =
    let g = c.loop-row.invariant in
    (lines_so_far-over _ g.lines g.fewer (listed-over lines_of _ g.slots g.lines c.in-None.ensures.steps)).1
