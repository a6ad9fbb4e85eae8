-- Every word is 0.
use mathlib.Core.Path.{refl}
use Rattle.container_findings.proofs.UserLaws.{users_none}
use Rattle.container_findings.proofs.Users.none.Goals as goal

pub returns-then-at_once : goal.returns-then-at_once
returns-then-at_once c = λ m. users_none m refl refl

pub returns-else-at_once : goal.returns-else-at_once
returns-else-at_once c = λ m. users_none m refl refl
