-- What the view says of each kind.
use Rattle.container_findings.proofs.SlotLaws.{slots-unset, slots-standing}
use Rattle.container_findings.proofs.container_slots.Goals as goal

pub returns-in-AllReachable : goal.returns-in-AllReachable
returns-in-AllReachable c = rw c.in-AllReachable.is c.requires.1.all_slots

pub returns-in-AllIsolated : goal.returns-in-AllIsolated
returns-in-AllIsolated c = rw c.in-AllIsolated.is c.requires.1.none_slots

pub returns-in-SystemIsolation : goal.returns-in-SystemIsolation
returns-in-SystemIsolation c = rw c.in-SystemIsolation.is (slots-unset _ c.requires.0 c.if-memory-eq0.true)

pub returns-in_default : goal.returns-in_default
returns-in_default c = slots-standing _ _ c.requires.2 c.requires.1.standing
