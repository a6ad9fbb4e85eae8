-- Both slots pass 10 before either is asked for 11; past the tests the answer is the stored bit.
use mathlib.Core.Path.{refl, sym}
use native.Mathlib.Omega.{arith}
use Rattle.steps.proofs.Outcomes.{reaches-beyond-right}
use Rattle.call_tests.proofs.TestLaws.{memory-refused}
use Rattle.answers.specs.Answers.{reply_answer}
use Rattle.answers.proofs.AnswerLaws.{turned}
use Rattle.queries.proofs.QueryLaws.{reaches-refused-left, reaches-refused-right, reaches-answer}
use Rattle.queries.proofs.reaches.Goals as goal

pub returns-in_err-memory : goal.returns-in_err-memory
returns-in_err-memory c = turned _ _ reply_answer c.from_residual.ensures.1 (memory-refused _ _ c.in_err-memory.ensures.refused _ refl)

pub returns-then-b-ge-CONTAINER_SLOTS : goal.returns-then-b-ge-CONTAINER_SLOTS
returns-then-b-ge-CONTAINER_SLOTS c =
    rw c.in_ok-memory.ensures.same (sym (reaches-beyond-right _ c.in_ok-memory.ensures.formed _ _ (omega arith)))

pub returns-in_err-test_slot : goal.returns-in_err-test_slot
returns-in_err-test_slot c =
    let formed = c.in_ok-memory.ensures.formed in
    rw c.in_ok-memory.ensures.same (turned _ _ reply_answer c.from_residual-in_err-test_slot.ensures.1 (reaches-refused-left _ formed _ _ _ (omega arith) (sym c.in_err-test_slot.ensures.result_value)))

pub returns-in_err-test_slot-2 : goal.returns-in_err-test_slot-2
returns-in_err-test_slot-2 c =
    let formed = c.in_ok-memory.ensures.formed in
    rw c.in_ok-memory.ensures.same (turned _ _ reply_answer c.from_residual-in_err-test_slot-2.ensures.1 (reaches-refused-right _ formed _ _ _ (omega arith) (sym c.in_ok-test_slot.ensures.result_value) (sym c.in_err-test_slot-2.ensures.result_value)))

pub returns : goal.returns
returns c =
    let formed = c.in_ok-memory.ensures.formed in
    rw c.in_ok-memory.ensures.same (sym (reaches-answer _ formed _ _ _ (record { below = c.in_ok-test_slot.ensures.in_table; there = c.in_ok-test_slot.ensures.stands }) (record { below = c.in_ok-test_slot-2.ensures.in_table; there = c.in_ok-test_slot-2.ensures.stands }) c.bit_of.ensures))
