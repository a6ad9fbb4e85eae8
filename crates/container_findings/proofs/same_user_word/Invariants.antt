-- What is chosen, and those of the rest who are of the user, make the answer.
use Rattle.container_findings.specs.Rows.{users_from}
use Rattle.entries.proofs.Trials.{Tried}
use Rattle.container_findings.proofs.same_user_word.Given as goal

abbrev pub invariant-loop-k : goal.invariant-loop-k
invariant-loop-k l = Tried l.set (users_from l.memory l.word l.first) l.chosen l.k-iterator.0
