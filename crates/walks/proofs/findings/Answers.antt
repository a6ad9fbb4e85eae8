-- Past the test of the memory the cursor's listing is the answer; refused, the list is as it was.
use mathlib.Core.Path.{refl}
use lib.ListN.{length}
use Rattle.model.specs.Calls.{ask, list_findings}
use Rattle.findings.specs.Steps.{cursor_place}
use Rattle.call_tests.proofs.TestLaws.{memory-refused}
use Rattle.answers.specs.Answers.{put_answer, count_put}
use Rattle.answers.proofs.AnswerLaws.{promised-turned}
use Rattle.walks.proofs.WalkLaws.{findings-answer}
use Rattle.walks.proofs.findings.Goals as goal

pub returns-in_err-memory : goal.returns-in_err-memory
returns-in_err-memory c =
    let d = c.args.list.now in
    let p = promised-turned _ (ask (list_findings (cursor_place c.args.cursor) (length d))) (λ o. put_answer o d) count_put d c.from_residual.ensures.1 refl refl (memory-refused _ _ c.in_err-memory.ensures.refused _ refl) in
    record { list_after = p.0; result_value = p.1.0; list_after_2 = p.1.1 }

pub returns : goal.returns
returns c =
    let p = findings-answer _ c.in_ok-memory.ensures.formed _ c.list.result c.list.ensures.puts c.list.ensures.cursor_value in
    rw c.in_ok-memory.ensures.same (record { list_after = p.0; result_value = p.1.0; list_after_2 = p.1.1 })
