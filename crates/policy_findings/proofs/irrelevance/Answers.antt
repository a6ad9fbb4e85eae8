-- One case for each answer: nothing selected, nothing allowed, neither empty.
use mathlib.Core.Path.{sym, ap, ◌∙◌}
use borrow.Author.Tests.{not-true, not-false}
use Rattle.bitrow.specs.Set.{insert}
use Rattle.policy_findings.proofs.PolicyKinds.{needless-zero, needless-one, needless-none}
use Rattle.policy_findings.proofs.irrelevance.Goals as goal

pub returns-then-is_empty : goal.returns-then-is_empty
returns-then-is_empty c =
    c.with.ensures ∙ ap (insert 0) c.none.ensures
    ∙ needless-zero _ _ (not-true _ (sym c.is_empty.ensures ∙ c.if-is_empty.true))

pub returns-then-is_empty-2 : goal.returns-then-is_empty-2
returns-then-is_empty-2 c =
    c.with-then-is_empty-2.ensures ∙ ap (insert 1) c.none-then-is_empty-2.ensures
    ∙ needless-one _ _ (not-false _ (sym c.is_empty.ensures ∙ c.if-is_empty.false))
    (not-true _ (sym c.is_empty-2.ensures ∙ c.if-is_empty-2.true))

pub returns : goal.returns
returns c =
    c.none-2.ensures
    ∙ needless-none _ _ (not-false _ (sym c.is_empty.ensures ∙ c.if-is_empty.false))
    (not-false _ (sym c.is_empty-2.ensures ∙ c.if-is_empty-2.false))
