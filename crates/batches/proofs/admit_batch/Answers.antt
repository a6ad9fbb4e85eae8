-- Refused as its two tests are; else the blocks are placed, and what came with them is settled.
use mathlib.Core.Path.{◌≡◌, refl, sym}
use lib.ListN.{length}
use Rattle.std.specs.Prelude.{Ok}
use Rattle.block.specs.Refusal.{first_refusal}
use Rattle.model.specs.Refusals.{batch_checks}
use Rattle.call_tests.proofs.TestLaws.{passed_for, memory-refused}
use Rattle.batches.proofs.Blocks.{whole-count}
use Rattle.batches.proofs.BatchLaws.{placed-formed, promised-answer, promised-list, promised-tally, batch-turned, batch-refused-by}
use Rattle.batches.proofs.admit_batch.Goals as goal

pub returns-in_err-test_memory : goal.returns-in_err-test_memory
returns-in_err-test_memory c =
    let p = batch-turned _ _ _ _ _ _ _ _ c.from_residual.ensures.1 (memory-refused _ _ (sym c.in_err-test_memory.ensures.result_value) _ refl) in
    record { result_after = p.0; answers_after = p.1.0; tally_value = p.1.1 }

pub returns-in_err-test_batch : goal.returns-in_err-test_batch
returns-in_err-test_batch c =
    let e = rw c.in_ok-memory.ensures.ok_part at c.as_mut_array.ensures.cases in
    let formed = rw (← e.same) at c.in_ok-test_memory.ensures.formed in
    let p = batch-turned _ _ _ _ _ _ _ _ c.from_residual-in_err-test_batch.ensures.1 (batch-refused-by _ _ _ _ formed (sym c.in_err-test_batch.ensures.result_value)) in
    rw (← e.same) (record { result_after = p.0; answers_after = p.1.0; tally_value = p.1.1 })

pub settle_came-requires : goal.settle_came-requires
settle_came-requires c =
    let e = rw c.in_ok-memory.ensures.ok_part at c.as_mut_array.ensures.cases in
    let formed = rw (← e.same) at c.in_ok-test_memory.ensures.formed in
    placed-formed _ _ _ _ (whole-count _ c.in_ok-test_batch.ensures.whole) formed c.take_blocks-done.ensures

pub returns : goal.returns
returns c =
    let e = rw c.in_ok-memory.ensures.ok_part at c.as_mut_array.ensures.cases in
    let w = rw (← e.same) at c.in_ok-test_memory.ensures.formed in
    let n = length c.args.answers.now in
    let p : first_refusal (batch_checks c.args.blocks.now n) ≡ Ok tt = passed_for _ (sym c.in_ok-test_batch.ensures.result_value) in
    let k = whole-count c.args.blocks.now c.in_ok-test_batch.ensures.whole in
    let g = c.take_blocks-done.ensures in
    let s = c.settle_came.ensures in
    rw (← e.same) (record {
      result_after = promised-answer _ _ _ _ k w g n p s;
      answers_after = promised-list _ _ _ _ k w g n p s;
      tally_value = promised-tally _ _ _ _ k w g n p s;
    })
