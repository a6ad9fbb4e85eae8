-- Each row is that of its kind.
use native.Mathlib.Omega.{arith}
use Rattle.finding_rows.proofs.SlotLaws.{slots-written}
use Rattle.finding_rows.proofs.View.slots.Goals as goal

pub returns : goal.returns
returns c =
    let policies = (c.policy_slots-policies.ensures _ c.requires.1.policies).slot in
    slots-written _ _ c.told-slots _ _ _ _ _ _ _ _
    c.container_slots.ensures.slot c.container_slots-2.ensures.slot c.container_slots-3.ensures.slot c.container_slots-4.ensures.slot
    (λ a b. policies 5 a b (omega arith)) (λ a b. policies 6 a b (omega arith)) (λ a b. policies 7 a b (omega arith))
