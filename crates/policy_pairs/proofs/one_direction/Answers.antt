-- Directions are equal exactly if their words are.
use mathlib.Core.Path.{sym}
use Rattle.policy_pairs.proofs.PolicyReading.{one-direction}
use Rattle.policy_pairs.proofs.one_direction.Goals as goal

pub returns : goal.returns
returns c = let p = c.requires in sym (one-direction _ p.0.formed _ _ p.0.here p.1.here)
