-- Past the test of the memory the answer is what `audit::is_consistent` promises.
use mathlib.Core.Path.{refl, sym}
use Rattle.call_tests.proofs.TestLaws.{memory-refused}
use Rattle.answers.specs.Answers.{reply_answer}
use Rattle.answers.proofs.AnswerLaws.{turned}
use Rattle.upkeep.proofs.UpkeepLaws.{audit-answer}
use Rattle.upkeep.proofs.audit.Goals as goal

pub returns-in_err-memory : goal.returns-in_err-memory
returns-in_err-memory c = turned _ _ reply_answer c.from_residual.ensures.1 (memory-refused _ _ c.in_err-memory.ensures.refused _ refl)

pub returns : goal.returns
returns c =
    rw c.in_ok-memory.ensures.same (sym (audit-answer _ c.in_ok-memory.ensures.formed _ c.is_consistent.ensures))
