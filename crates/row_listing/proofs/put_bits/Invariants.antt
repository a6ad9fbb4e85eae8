-- Those of the bits that are left are still to be put.
use Rattle.row_listing.proofs.Putting.{PuttingWord}
use Rattle.row_listing.proofs.put_bits.Given as goal

abbrev pub invariant-loop-i : goal.invariant-loop-i
invariant-loop-i l = PuttingWord l.initial.list l.base l.word l.list l.count l.i-iterator.0
