-- Four words of 64 places make the row.
use Rattle.container_findings.proofs.UserLaws.{places-row}
use Rattle.container_findings.proofs.places_of.Goals as goal

pub returns : goal.returns
returns c = places-row _ _ _ _ _ _ c.slots_with.ensures c.slots_with-2.ensures c.slots_with-3.ensures c.slots_with-4.ensures
