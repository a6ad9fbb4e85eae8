-- One case for a place that has nothing, one for a place that is taken.
use Rattle.label_table.proofs.TableLaws.{entered-free, entered-taken}
use Rattle.label_table.proofs.enter.Goals as goal

pub returns-then-labels-h-eq0 : goal.returns-then-labels-h-eq0
returns-then-labels-h-eq0 c = entered-free _ _ c.place-h.ensures.0 c.if-labels-h-eq0.true

pub returns-else-labels-h-eq0 : goal.returns-else-labels-h-eq0
returns-else-labels-h-eq0 c = entered-taken _ _ c.place-h.ensures.0 c.if-labels-h-eq0.false
