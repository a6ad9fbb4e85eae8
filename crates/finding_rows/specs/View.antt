-- What findings are worked out from beside the memory.
use Rattle.std.specs.Prelude.{List, ℕ}
use Rattle.container_findings.specs.Views.{ContainersSeen}
use Rattle.policy_findings.specs.PolicyView.{PoliciesSeen}
use Rattle.finding_rows.specs.declared.View.{View}

-- what a memory says of both tables
pub record ViewOf (m : List ℕ) (v : View) : Type 0 where
  pub containers : ContainersSeen m v.containers
  pub policies : PoliciesSeen m v.policies
