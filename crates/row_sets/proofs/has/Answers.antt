-- The word i / 64 has the bit.
use Rattle.bitrow.specs.Bit.{bit_at}
use Rattle.row_sets.proofs.has.Goals as goal

pub returns : goal.returns
unfolding bit_at
returns c = c.bit_of.ensures
