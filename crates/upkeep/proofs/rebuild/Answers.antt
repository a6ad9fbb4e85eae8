-- Refused as the test of the memory is; past it `whole::rebuild` leaves the rebuilt registry's memory.
use mathlib.Core.Path.{refl, sym}
use Rattle.call_tests.proofs.TestLaws.{memory-refused}
use Rattle.answers.specs.Answers.{outcome_answer}
use Rattle.answers.proofs.AnswerLaws.{turned}
use Rattle.upkeep.proofs.UpkeepLaws.{rebuild-answer}
use Rattle.upkeep.proofs.rebuild.Goals as goal

pub returns-in_err-test_memory : goal.returns-in_err-test_memory
returns-in_err-test_memory c = turned _ _ outcome_answer c.from_residual.ensures.1 (memory-refused _ _ (sym c.in_err-test_memory.ensures.result_value) _ refl)

pub rebuild-requires : goal.rebuild-requires
rebuild-requires c =
    let e = rw c.in_ok-memory.ensures.ok_part at c.as_mut_array.ensures.cases in
    rw e.same c.in_ok-test_memory.ensures.entries

pub returns : goal.returns
returns c =
    let e = rw c.in_ok-memory.ensures.ok_part at c.as_mut_array.ensures.cases in
    sym (rebuild-answer _ c.in_ok-test_memory.ensures.formed _ (rw e.same at c.rebuild.ensures))
