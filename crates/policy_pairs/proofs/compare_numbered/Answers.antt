-- Whatever the number, if it is not 5, the comparison is that of a conflict.
use mathlib.Core.Path.{sym, ◌∙◌}
use native.Mathlib.Omega.{arith}
use Rattle.policy_pairs.proofs.ComparisonLaws.{comparison-6}
use Rattle.policy_pairs.proofs.compare_numbered.Goals as goal

pub returns-else-number-eq5 : goal.returns-else-number-eq5
returns-else-number-eq5 c = c.compare-else-number-eq5.ensures ∙ comparison-6 6 _ _ _ (λ e. omega arith) ∙ sym (comparison-6 _ _ _ _ c.if-number-eq5.false)
