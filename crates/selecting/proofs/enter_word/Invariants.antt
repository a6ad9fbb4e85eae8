-- The policy is in the rows of the containers that are done.
use Rattle.selecting.proofs.TableLaws.{Entering}
use Rattle.selecting.proofs.enter_word.Given as goal

abbrev pub invariant-loop-i : goal.invariant-loop-i
invariant-loop-i l = Entering l.b l.first l.word l.initial.rows l.rows l.i-iterator.0
