-- One case for each kind; the row is empty where no policy stands at a.
use mathlib.Core.Path.{refl, sym, ap, ap₂, ◌∙◌}
use mathlib.Core.Bool.{◌&&◌}
use Rattle.bitrow.specs.Bit.{bit_at}
use Rattle.bitrow.specs.Set.{has_some}
use Rattle.bitrow.proofs.Sets.{point}
use Rattle.model.specs.Kinds.{kind_number}
use Rattle.model.specs.Findings.{needless}
use Rattle.formed.proofs.Formed.{formed-entries}
use Rattle.policy_pairs.proofs.PolicyReading.{at-policy}
use Rattle.policy_pairs.proofs.CodeTests.{one-empty, none-empty}
use Rattle.container_findings.proofs.KindRows.{of-kind}
use Rattle.policy_findings.proofs.PolicyKinds.{no-policy}
use Rattle.policy_findings.proofs.PolicyRows.{needless-row, compared-none, comparison-row, not-irrelevance}
use Rattle.policy_findings.proofs.policy_row.Goals as goal

pub returns-then-not-has-clause-row : goal.returns-then-not-has-clause-row
returns-then-not-has-clause-row c =
    let p = c.requires in
    c.none.ensures ∙ no-policy _ _ _ p.3 (sym (point p.1.standing _) ∙ sym c.has.ensures ∙ c.if-not-has.true)

pub stored_set-who-requires : goal.stored_set-who-requires
stored_set-who-requires c =
    let p = c.requires in
    let h = at-policy _ _ _ (formed-entries _ p.0) p.1.standing (sym c.has.ensures ∙ c.if-not-has.false) in
    h.below

pub stored_set-whom-requires : goal.stored_set-whom-requires
stored_set-whom-requires c =
    let p = c.requires in
    let h = at-policy _ _ _ (formed-entries _ p.0) p.1.standing (sym c.has.ensures ∙ c.if-not-has.false) in
    h.below

pub candidates-some-requires : goal.candidates-some-requires
candidates-some-requires c =
    let p = c.requires in
    let h = at-policy _ _ _ (formed-entries _ p.0) p.1.standing (sym c.has.ensures ∙ c.if-not-has.false) in
    let n = none-empty _ _ c.is_empty.ensures c.is_empty-2.ensures c.if-idle.false in
    (record { formed = p.0; at = h; selected = c.stored_set-who.ensures; allowed = c.stored_set-whom.ensures; selects_some = n.0; allows_some = n.1 }, p.1)

pub compare_all-requires : goal.compare_all-requires
compare_all-requires c =
    let p = c.requires in
    let h = at-policy _ _ _ (formed-entries _ p.0) p.1.standing (sym c.has.ensures ∙ c.if-not-has.false) in
    let n = none-empty _ _ c.is_empty.ensures c.is_empty-2.ensures c.if-idle.false in
    (record { formed = p.0; at = h; selected = c.stored_set-who.ensures; allowed = c.stored_set-whom.ensures; selects_some = n.0; allows_some = n.1 }, c.candidates-some.ensures.row)

pub returns-in-Irrelevance-clause-row : goal.returns-in-Irrelevance-clause-row
returns-in-Irrelevance-clause-row c =
    let p = c.requires in
    let h = at-policy _ _ _ (formed-entries _ p.0) p.1.standing (sym c.has.ensures ∙ c.if-not-has.false) in
    of-kind _ 7 _ _ (c.irrelevance.ensures ∙ ap₂ needless (ap has_some c.stored_set-who.ensures) (ap has_some c.stored_set-whom.ensures) ∙ needless-row _ p.0 _ h.here) (ap kind_number c.in-Irrelevance.is)

pub returns-in_default-clause-row : goal.returns-in_default-clause-row
returns-in_default-clause-row c =
    let p = c.requires in
    let h = at-policy _ _ _ (formed-entries _ p.0) p.1.standing (sym c.has.ensures ∙ c.if-not-has.false) in
    c.none-in_default.ensures
    ∙ compared-none _ p.0 _ h.here _ p.3 (not-irrelevance _ c.in_default.not-Irrelevance)
    (sym (ap₂ (λ x y. has_some x && has_some y) c.stored_set-who.ensures c.stored_set-whom.ensures) ∙ one-empty (has_some (bit_at c.stored_set-who.result)) (has_some (bit_at c.stored_set-whom.result)) c.is_empty.ensures c.is_empty-2.ensures c.if-idle.true)

pub returns-in_default-2-clause-row : goal.returns-in_default-2-clause-row
returns-in_default-2-clause-row c =
    let p = c.requires in
    let h = at-policy _ _ _ (formed-entries _ p.0) p.1.standing (sym c.has.ensures ∙ c.if-not-has.false) in
    c.compare_all.ensures ∙ c.candidates-some.ensures.row.row ∙ comparison-row _ _ h.here refl _ p.3 (not-irrelevance _ c.in_default-2.not-Irrelevance)
