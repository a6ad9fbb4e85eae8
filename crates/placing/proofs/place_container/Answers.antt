-- The block's part, stored, is the slot's words.
use Rattle.std.proofs.Common.{arith}
use Rattle.formed.proofs.Fits.{fits_by, fits-slot}
use Rattle.formed.proofs.Placed.{container-image}
use Rattle.placing.proofs.Fields.{container-fields, container-fits}
use Rattle.placing.proofs.SlotWords.{container-stored}
use Rattle.placing.proofs.place_container.Goals as goal

pub bounds-block-1 : goal.bounds-block-1
bounds-block-1 c = omega (arith, container-fields _ _ c.requires.2)

pub put_part-requires : goal.put_part-requires
put_part-requires c = omega (arith, container-fields _ _ c.requires.2, c.requires.0.whole)

pub returns : goal.returns
returns c =
    let x = c.args in
    let q = container-stored x.block.now x.memory.now _ _ _ c.from-count.ensures c.put_part.ensures in
    container-image _ c.requires.0 x.c _ c.requires.1 q
    (fits_by _ (fits-slot x.memory.now _ _ _ c.fits-memory (λ k l. omega (arith, container-fits _ x.block.now c.requires.2 k))) q)
