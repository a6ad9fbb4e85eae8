-- A turn counts the next row.
use Rattle.std.proofs.Common.{arith, ◌∙◌}
use Rattle.counts.proofs.CountLaws.{counting-none, counting-next, pairs-counted, row-counted}
use Rattle.counts.proofs.pairs.Goals as goal

pub loop-a-init : goal.loop-a-init
loop-a-init c = counting-none

pub loop-a-preserved : goal.loop-a-preserved
loop-a-preserved c = counting-next c.loop-a.invariant (omega arith) (c.from-n.ensures ∙ row-counted _ _ c.row_at.ensures c.count.ensures (omega arith))

pub returns : goal.returns
returns c = pairs-counted _ c.loop-a.invariant c.loop-a-test.false
