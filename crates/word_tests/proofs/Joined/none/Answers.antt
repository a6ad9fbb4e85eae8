-- No row has a bit.
use mathlib.Core.Path.{ap₂, ◌∙◌}
use mathlib.Core.Bool.{not, ◌&&◌}
use Rattle.bitrow.specs.Set.{part, has_some}
use Rattle.word_tests.specs.Joined.{rows_ok}
use Rattle.word_tests.proofs.Rows.{no-row}
use Rattle.word_tests.proofs.Joined.none.Goals as goal

pub returns : goal.returns
unfolding rows_ok
returns c = λ s. ap₂ (λ t u. part t s && not (has_some u)) c.none.ensures c.none-2.ensures ∙ no-row s
