-- The direction and the block's two parts, stored one after the other, are the slot's words.
use Rattle.std.proofs.Common.{arith, length-set}
use Rattle.formed.proofs.Fits.{fits_by, fits-slot}
use Rattle.formed.proofs.Placed.{policy-image}
use Rattle.placing.proofs.Fields.{policy-fields, policy-fits}
use Rattle.placing.proofs.SlotWords.{long-by, policy-stored}
use Rattle.placing.proofs.place_policy.Goals as goal

pub policy_head-direction-requires : goal.policy_head-direction-requires
policy_head-direction-requires c = omega (arith, policy-fields _ _ c.requires.2)

pub put_part-requires : goal.put_part-requires
put_part-requires c = simp length-set (omega (arith, policy-fields _ _ c.requires.2, c.requires.0.whole))

pub put_part-requires-2 : goal.put_part-requires-2
put_part-requires-2 c =
    let l = long-by _ _ _ _ _ c.put_part.ensures in
    omega (arith, policy-fields _ _ c.requires.2, c.requires.0.whole, simp length-set at l)

pub returns : goal.returns
returns c =
    let x = c.args in
    let q = policy-stored x.block.now x.memory.now _ _ _ _ _ _ (policy-fields _ _ c.requires.2) c.policy_head-direction.ensures.0 c.policy_head-direction.ensures.1 c.policy_head-direction.ensures.2
    c.put_part.ensures c.put_part-2.ensures in
    policy-image _ c.requires.0 x.q _ c.requires.1 q
    (fits_by _ (fits-slot x.memory.now _ _ _ c.fits-memory (λ k l. omega (arith, policy-fits _ x.block.now c.requires.2 k))) q)
