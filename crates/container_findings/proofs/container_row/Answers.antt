-- The row is empty where no container stands at a; kinds 1 and 2 are told by the view.
use mathlib.Core.Path.{sym, ap, ◌∙◌}
use Rattle.bitrow.proofs.Sets.{point}
use Rattle.model.specs.Kinds.{kind_number}
use Rattle.container_findings.proofs.KindRows.{no-container, of-kind}
use Rattle.container_findings.proofs.Columns.{row-1, row-2}
use Rattle.container_findings.proofs.container_row.Goals as goal

pub returns-then-not-has-clause-row : goal.returns-then-not-has-clause-row
returns-then-not-has-clause-row c =
    let p = c.requires in
    c.none.ensures ∙ no-container _ _ _ p.3 (sym (point p.1.standing _) ∙ sym c.has.ensures ∙ c.if-not-has.true)

pub returns-in-AllReachable-clause-row : goal.returns-in-AllReachable-clause-row
returns-in-AllReachable-clause-row c =
    of-kind _ 1 _ _ (c.zero_if.ensures ∙ row-1 _ _ (c.has-in-AllReachable.ensures ∙ point ((c.tell.ensures.view.told c.tell.ensures.told).by_all) _)) (ap kind_number c.in-AllReachable.is)

pub returns-in-AllIsolated-clause-row : goal.returns-in-AllIsolated-clause-row
returns-in-AllIsolated-clause-row c =
    of-kind _ 2 _ _ (c.zero_if-in-AllIsolated.ensures ∙ row-2 _ _ (c.has-in-AllIsolated.ensures ∙ point ((c.tell-in-AllIsolated.ensures.view.told c.tell-in-AllIsolated.ensures.told).by_none) _)) (ap kind_number c.in-AllIsolated.is)
