-- Each turn puts the number of the lowest bit left.
use native.Mathlib.Omega.{arith}
use Rattle.row_listing.proofs.Putting.{word-put, word-done}
use Rattle.row_listing.proofs.put_bits.Goals as goal

pub loop-i-preserved : goal.loop-i-preserved
loop-i-preserved c = rw c.from.ensures (word-put c.loop-i.invariant c.in-Some.ensures.steps (omega arith))

pub returns : goal.returns
returns c = word-done c.loop-i.invariant c.in-None.ensures.steps
