-- What is joined, and the rows of the policies to come, make the union.
use Rattle.bitrow.specs.Bit.{bit_at}
use Rattle.sets.specs.Sets.{bits}
use Rattle.rules.specs.Policies.{to_come}
use Rattle.rules.proofs.Unions.{Joining}
use Rattle.rules.proofs.union_of.Given as goal

abbrev pub invariant-loop-q : goal.invariant-loop-q
invariant-loop-q l = Joining (bit_at l.fn.policies) (bits l.rows) (to_come l.q-iterator) (bit_at l.joined)
