-- The bits of the rows before a are counted.
use Rattle.formed.specs.Registry.{bits_in}
use Rattle.counts.proofs.CountLaws.{Counting}
use Rattle.counts.proofs.pairs.Given as goal

abbrev pub invariant-loop-a : goal.invariant-loop-a
invariant-loop-a l = Counting (bits_in l.memory).matrix 256 256 l.n l.a
