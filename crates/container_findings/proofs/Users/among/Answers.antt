-- Those of the set that stand are asked, and are the user's where their word is.
use Rattle.container_findings.proofs.UserLaws.{asked_ones}
use Rattle.container_findings.proofs.Users.among.Goals as goal

pub returns-then-n-le-FEW-clause-row : goal.returns-then-n-le-FEW-clause-row
returns-then-n-le-FEW-clause-row c = asked_ones _ _ _ c.requires.standing.1 c.both-then-n-le-FEW.ensures c.same_user.ensures
