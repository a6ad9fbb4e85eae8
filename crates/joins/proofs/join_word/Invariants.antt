-- What is joined for the bits left of the word gives what the whole word asks.
use Rattle.bitrow.specs.Bit.{bit_at}
use Rattle.joins.proofs.JoinLaws.{WordJoining}
use Rattle.joins.proofs.join_word.Given as goal

abbrev pub invariant-loop-k : goal.invariant-loop-k
invariant-loop-k l = WordJoining l.first l.word (bit_at l.whom) l.initial.lines l.lines l.k-iterator.0
