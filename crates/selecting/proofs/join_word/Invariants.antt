-- What is so far has the rows of the containers that are done.
use Rattle.bitrow.specs.Bit.{bit_at}
use Rattle.selecting.proofs.TableLaws.{Joining}
use Rattle.selecting.proofs.join_word.Given as goal

abbrev pub invariant-loop-i : goal.invariant-loop-i
invariant-loop-i l = Joining l.first l.word l.rows (bit_at l.initial.joined) (bit_at l.joined) l.i-iterator.0
