-- Where nothing stands, there is no finding.
use mathlib.Core.Path.{◌∙◌}
use Rattle.bitrow.proofs.Sets.{point}
use Rattle.policy_findings.proofs.PolicyKinds.{shown-stands}
use Rattle.policy_findings.proofs.policy_slots.Goals as goal

pub returns : goal.returns
returns c = λ m seen. record { slot = λ k a b l h. point seen.standing a ∙ shown-stands m k a b l h }
