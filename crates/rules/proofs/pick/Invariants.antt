-- Whether any is found, and what is joined, with the policies to come.
use Rattle.bitrow.specs.Bit.{bit_at}
use Rattle.sets.specs.Sets.{bits}
use Rattle.rules.specs.Policies.{to_come}
use Rattle.rules.proofs.Unions.{Picking}
use Rattle.rules.proofs.pick.Given as goal

abbrev pub invariant-loop-q : goal.invariant-loop-q
invariant-loop-q l = Picking (bit_at l.fn.policies) (bits l.tests) (bits l.rows) l.a (to_come l.q-iterator) l.any (bit_at l.joined)
