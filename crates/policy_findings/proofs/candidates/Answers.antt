-- Those of its direction that may make a finding with it; for conflicts the others would have to be above it.
use mathlib.Core.Path.{◌∙◌, ap}
use Rattle.bitrow.specs.Set.{meet}
use Rattle.policy_pairs.proofs.ComparisonLaws.{not-shadow}
use Rattle.policy_findings.proofs.CandidateLaws.{of-both, above}
use Rattle.policy_findings.proofs.candidates.Goals as goal

pub of_its_direction-alike-requires : goal.of_its_direction-alike-requires
of_its_direction-alike-requires c = let p = c.requires in (p.0.at, p.1)

pub returns-in-Shadow-clause-row : goal.returns-in-Shadow-clause-row
returns-in-Shadow-clause-row c = of-both _ _ c.requires.0.at _ c.of_its_direction-alike.ensures c.by_containers.ensures.row c.both-some.ensures

pub returns-in_default-clause-row : goal.returns-in_default-clause-row
returns-in_default-clause-row c =
    above _ _ _ (not-shadow _ c.in_default.not-Shadow)
    (of-both _ _ c.requires.0.at _ c.of_its_direction-alike.ensures c.by_containers.ensures.row c.both-some.ensures)
    (c.both.ensures ∙ ap (meet _) c.at_least.ensures)
