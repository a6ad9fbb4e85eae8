-- The policies that a policy is compared with.
use Rattle.std.specs.Prelude.{◌≡◌, Bool, true, List, ℕ}
use Rattle.bitrow.specs.Set.{meet}
use Rattle.container_findings.specs.Rows.{policies_stand}
use Rattle.policy_pairs.specs.Comparisons.{comparison}

-- s has every standing policy that makes a finding of this kind with a
pub record AllFound (m : List ℕ) (kind a : ℕ) (s : ℕ → Bool) : Type 0 where
  pub policy : (b : ℕ) → policies_stand m b ≡ true → comparison kind m a b ≡ true → s b ≡ true

-- s has standing policies alone, and all that make a finding of this kind with a
pub record Candidates (m : List ℕ) (kind a : ℕ) (s : ℕ → Bool) : Type 0 where
  pub stand : (b : ℕ) → s b ≡ true → policies_stand m b ≡ true
  pub row : meet s (comparison kind m a) ≡ meet (policies_stand m) (comparison kind m a)
