-- In the shadow of one lie those that select all that it selects; in conflict with it are those that select some of that.
use mathlib.Core.Path.{ap}
use Rattle.model.specs.Kinds.{kind_number}
use Rattle.policy_pairs.proofs.ComparisonLaws.{not-shadow}
use Rattle.policy_findings.proofs.CandidateLaws.{shadows-found, conflicts-found}
use Rattle.policy_findings.proofs.by_containers.Goals as goal

pub returns-in-Shadow-clause-row : goal.returns-in-Shadow-clause-row
returns-in-Shadow-clause-row c = shadows-found _ _ _ c.requires.0 (ap kind_number c.in-Shadow.is) c.covering.ensures.row

pub returns-in_default-clause-row : goal.returns-in_default-clause-row
returns-in_default-clause-row c = conflicts-found _ _ _ c.requires.0 (not-shadow _ c.in_default.not-Shadow) c.sharing.ensures.row
