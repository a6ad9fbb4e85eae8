-- Each way out by its law of the checks.
use native.Mathlib.Omega.{arith}
use mathlib.Core.Path.{sym, ap}
use Rattle.call_tests.specs.Tests.{reason_of}
use Rattle.model.proofs.Batch.{batch-long, batch-cut, batch-short, batch-passes}
use Rattle.batches.proofs.Blocks.{numbers-needed}
use Rattle.batches.proofs.test_batch.Goals.{then-length-gt65536-via-then-length-gt65536, then-length-gt65536-via-else-length-gt65536+then-length-ne0}
use Rattle.batches.proofs.test_batch.Goals as goal

pub returns-then-length-gt65536-clause-result_value : goal.returns-then-length-gt65536-clause-result_value
returns-then-length-gt65536-clause-result_value c =
    elim c.then-length-gt65536.branch [
      | then-length-gt65536-via-then-length-gt65536 w ↦ sym (ap reason_of (batch-long c.args.blocks.now c.args.numbers (omega arith)))
      | then-length-gt65536-via-else-length-gt65536+then-length-ne0 w ↦ sym (ap reason_of (batch-cut c.args.blocks.now c.args.numbers w.if-length-ne0.true))
    ]

pub returns-then-numbers-length-clause-result_value : goal.returns-then-numbers-length-clause-result_value
returns-then-numbers-length-clause-result_value c =
    let cut = c.if-length-ne0.false in
    sym (ap reason_of (batch-short c.args.blocks.now c.args.numbers (omega arith) cut (omega (arith, c.if-numbers-length.true, numbers-needed c.args.blocks.now cut))))

pub returns-clause-result_value : goal.returns-clause-result_value
returns-clause-result_value c =
    let cut = c.if-length-ne0.false in
    sym (ap reason_of (batch-passes c.args.blocks.now c.args.numbers (omega arith) cut (omega (arith, c.if-numbers-length.false, numbers-needed c.args.blocks.now cut))))
