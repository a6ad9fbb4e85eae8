-- Past the test of the memory the cursor's step is the answer.
use mathlib.Core.Path.{refl, sym}
use Rattle.call_tests.proofs.TestLaws.{memory-refused}
use Rattle.answers.specs.Answers.{next_answer}
use Rattle.answers.proofs.AnswerLaws.{turned}
use Rattle.walks.proofs.WalkLaws.{next-answer}
use Rattle.walks.proofs.next_finding.Goals as goal

pub returns-in_err-memory : goal.returns-in_err-memory
returns-in_err-memory c = turned _ _ next_answer c.from_residual.ensures.1 (memory-refused _ _ c.in_err-memory.ensures.refused _ refl)

pub returns : goal.returns
returns c =
    rw c.in_ok-memory.ensures.same (sym (next-answer _ c.in_ok-memory.ensures.formed _ _ c.next.ensures))
