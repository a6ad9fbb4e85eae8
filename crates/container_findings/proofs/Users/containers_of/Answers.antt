-- The row is the user's by the words of all containers, and stands beside the user's word from now on.
use Rattle.std.proofs.Common.{rules}
use Rattle.container_findings.proofs.UserLaws.{user-places, user-met}
use Rattle.container_findings.proofs.Users.containers_of.Goals as goal

pub returns-clause-row : goal.returns-clause-row
returns-clause-row c = user-places c.tell.ensures.own _ c.requires.standing.1 c.places_of.ensures c.both-row.ensures

pub returns-clause-users : goal.returns-clause-users
returns-clause-users c =
    user-met c.tell.ensures.users _ (search rules) (search rules) _ _ (user-places c.tell.ensures.own _ c.requires.standing.1 c.places_of.ensures c.both-row.ensures)
