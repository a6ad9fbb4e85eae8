-- The rows before q, and the known one, are there; the others have nothing.
use Rattle.bitrow.specs.Bit.{bit_at}
use Rattle.sets.specs.Sets.{part_set}
use Rattle.sets.proofs.Candidates.{Filled}
use Rattle.sets.proofs.fill.Given as goal

abbrev pub invariant-loop-q : goal.invariant-loop-q
invariant-loop-q l = Filled 128 l.known (part_set l.memory (bit_at l.candidates) l.offset) l.rows l.q
