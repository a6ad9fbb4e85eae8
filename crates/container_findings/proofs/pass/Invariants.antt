-- What is left so far, and the containers of the word that are still to pass.
use Rattle.container_findings.specs.Passes.{word_set}
use Rattle.container_findings.proofs.Columns.{Passing}
use Rattle.container_findings.proofs.pass.Given as goal

abbrev pub invariant-loop-k : goal.invariant-loop-k
invariant-loop-k l = Passing l.memory (word_set l.fn.n l.fn.word) l.fn.left l.fn.n l.k-iterator.0 l.by_all l.by_none
