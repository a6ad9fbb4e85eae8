-- A turn stores the column's next bit.
use Rattle.std.proofs.Common.{ap, ◌∙◌}
use Rattle.bitrow.proofs.Arrays.{bit-of-row}
use Rattle.store.specs.Memory.{bit_set}
use Rattle.store.proofs.Stores.{column-none, column-turn}
use Rattle.columns.proofs.set_column.Goals as goal

pub loop-i-init : goal.loop-i-init
loop-i-init c = column-none _ c.args.band _ _

pub loop-i-preserved : goal.loop-i-preserved
loop-i-preserved c =
    let x = c.args in
    let l = c.loop-i in
    column-turn x.memory.now x.band l.i x.b x.values l.memory _ _ l.invariant (c.bit_of-value.ensures ∙ bit-of-row x.values l.i)
    (c.set_bit.ensures ∙ ap (λ r. bit_set l.memory r x.b c.bit_of-value.result) c.row.ensures)
