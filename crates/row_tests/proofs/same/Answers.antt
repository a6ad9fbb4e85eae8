-- Rows whose words are equal have equal bits, and the other way round.
use mathlib.Core.Path.{◌∙◌}
use Rattle.bitrow.proofs.Rows.{equal-row}
use Rattle.std.proofs.Common.{rules}
use Rattle.row_tests.proofs.same.Goals as goal

pub returns : goal.returns
returns c = c.eq.ensures ∙ equal-row _ _ (search rules) (search rules)
