-- Each turn puts the findings of one word.
use native.Mathlib.Omega.{arith}
use Rattle.row_listing.proofs.Putting.{row-start, row_put, row_done}
use Rattle.row_listing.proofs.put_row_numbered.Goals as goal

pub loop-word-init : goal.loop-word-init
loop-word-init c = (row-start, omega arith)

pub loop-word-preserved : goal.loop-word-preserved
loop-word-preserved c =
    let h = c.loop-word.invariant in
    (row_put h.0 c.loop-word-test.true h.1 c.put_bits-count.ensures, omega arith)

pub returns : goal.returns
returns c = row_done c.loop-word.invariant.0 (omega arith)
