-- Past the test of the memory the counts are those of a memory that is well formed.
use mathlib.Core.Path.{refl}
use Rattle.call_tests.proofs.TestLaws.{memory-refused}
use Rattle.answers.specs.Answers.{counted_answer}
use Rattle.answers.proofs.AnswerLaws.{turned}
use Rattle.queries.proofs.counts.Goals as goal

pub returns-in_err-memory : goal.returns-in_err-memory
returns-in_err-memory c = turned _ _ counted_answer c.from_residual.ensures.1 (memory-refused _ _ c.in_err-memory.ensures.refused _ refl)

pub returns : goal.returns
returns c = rw c.in_ok-memory.ensures.same c.counts_in.ensures
