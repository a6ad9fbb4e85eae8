-- The lines so far, with the policies to come.
use Rattle.bitrow.specs.Bit.{bit_at}
use Rattle.sets.specs.Sets.{bits}
use Rattle.rules.specs.Policies.{to_come}
use Rattle.joins.proofs.JoinLaws.{LinesSoFar}
use Rattle.joins.proofs.join_all.Given as goal

abbrev pub invariant-loop-q : goal.invariant-loop-q
invariant-loop-q l = LinesSoFar (bit_at l.fn.some) (bit_at l.fn.policies) (bits l.tests) (bits l.rows) (to_come l.q-iterator) l.lines
