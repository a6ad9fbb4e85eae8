-- Past the test of the memory and of the buffer's length what was put is the answer; refused, the buffer is as it was.
use mathlib.Core.Path.{refl}
use native.Mathlib.Omega.{arith}
use lib.ListN.{length}
use Rattle.model.specs.Calls.{ask, write}
use Rattle.steps.proofs.Outcomes.{write-short}
use Rattle.call_tests.proofs.TestLaws.{memory-refused}
use Rattle.answers.specs.Answers.{file_answer, count_bytes}
use Rattle.answers.proofs.AnswerLaws.{promised-refused, promised-turned}
use Rattle.writing.proofs.WritingLaws.{file-written}
use Rattle.writing.proofs.write.Goals as goal

pub returns-in_err-memory : goal.returns-in_err-memory
returns-in_err-memory c =
    let d = c.args.bytes.now in
    let p = promised-turned _ (ask (write (length d))) (λ o. file_answer o d) count_bytes d c.from_residual.ensures.1 refl refl (memory-refused _ _ c.in_err-memory.ensures.refused _ refl) in
    record { bytes_after = p.0; result_value = p.1.0; bytes_after_2 = p.1.1 }

pub returns-then-bytes-file_length : goal.returns-then-bytes-file_length
returns-then-bytes-file_length c =
    let p = promised-refused _ (ask (write (length c.args.bytes.now))) c.args.bytes.now _ _ (write-short _ c.in_ok-memory.ensures.formed _ (omega (arith, c.file_length.ensures, c.if-bytes-file_length.true))) in
    rw c.in_ok-memory.ensures.same (record { bytes_after = p.0; result_value = p.1.0; bytes_after_2 = p.1.1 })

pub put_file-requires : goal.put_file-requires
put_file-requires c = (c.in_ok-memory.ensures.entries, omega (arith, c.file_length.ensures, c.if-bytes-file_length.false))

pub returns : goal.returns
returns c =
    let p = file-written _ c.in_ok-memory.ensures.formed {d = c.args.bytes.now} (omega (arith, c.file_length.ensures, c.if-bytes-file_length.false)) c.put_file.ensures in
    rw c.in_ok-memory.ensures.same (record { bytes_after = p.0; result_value = p.1.0; bytes_after_2 = p.1.1 })
