-- The row of a number that is no kind is empty.
use mathlib.Core.Path.{◌∙◌}
use Rattle.container_findings.proofs.KindRows.{no_kind}
use Rattle.policy_findings.proofs.policy_row_numbered.Goals as goal

pub returns-in-None-clause-row : goal.returns-in-None-clause-row
returns-in-None-clause-row c = c.none.ensures ∙ no_kind _ _ _ c.in-None.ensures
