-- The row of the number 0, or the empty row.
use mathlib.Core.Path.{ap, ◌∙◌}
use Rattle.bitrow.specs.Set.{insert}
use Rattle.container_findings.proofs.KindRows.{zero-yes, zero-no}
use Rattle.container_findings.proofs.zero_if.Goals as goal

pub returns-then-t : goal.returns-then-t
returns-then-t c = c.with.ensures ∙ ap (insert 0) c.none.ensures ∙ zero-yes _ c.if-t.true

pub returns-else-t : goal.returns-else-t
returns-else-t c = c.none-else-t.ensures ∙ zero-no _ c.if-t.false
