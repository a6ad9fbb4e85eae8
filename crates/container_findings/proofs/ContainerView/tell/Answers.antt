-- Where nothing was told, both rows are now what is left; the users stay.
use Rattle.container_findings.proofs.SlotLaws.{slots-1, slots-2}
use Rattle.container_findings.proofs.ContainerView.tell.Goals as goal

pub returns-clause-view : goal.returns-clause-view
returns-clause-view c =
    let v = c.requires in
    let l = c.left_of-left.ensures in
    record { standing = v.standing; told = λ t. l; users = v.users; all_slots = slots-1 _ l.by_all; none_slots = slots-2 _ l.by_none }
