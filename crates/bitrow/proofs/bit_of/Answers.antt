-- The bit that a shift and a mask leave.
use Rattle.bitrow.proofs.Words.{bit_test}
use Rattle.bitrow.proofs.bit_of.Goals as goal

pub returns : goal.returns
returns c = bit_test _ _
