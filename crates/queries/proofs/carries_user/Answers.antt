-- Past the tests the container stands: no label has a value above 65,535, and one up to it is looked for as one word.
use mathlib.Core.Path.{refl, sym}
use native.Mathlib.Omega.{arith}
use Rattle.entries.specs.Tables.{container_tabled}
use Rattle.model.specs.Refusals.{refusals}
use Rattle.formed.specs.Registry.{registry_in}
use Rattle.formed.proofs.Reading.{formed-small}
use Rattle.entries.proofs.Trials.{container-within}
use Rattle.entries.proofs.FormedEntries.{formed-slots}
use Rattle.call_tests.proofs.TestLaws.{memory-refused, slot-refused}
use Rattle.answers.specs.Answers.{reply_answer}
use Rattle.answers.proofs.AnswerLaws.{turned}
use Rattle.queries.proofs.QueryLaws.{user-above, user-answer}
use Rattle.queries.proofs.carries_user.Goals as goal

pub returns-in_err-memory : goal.returns-in_err-memory
returns-in_err-memory c = turned _ _ reply_answer c.from_residual.ensures.1 (memory-refused _ _ c.in_err-memory.ensures.refused _ refl)

pub returns-in_err-test_slot : goal.returns-in_err-test_slot
unfolding refusals registry_in
returns-in_err-test_slot c =
    let formed = c.in_ok-memory.ensures.formed in
    rw c.in_ok-memory.ensures.same (turned _ _ reply_answer c.from_residual-in_err-test_slot.ensures.1 (slot-refused (container_tabled _) formed _ _ refl (sym c.in_err-test_slot.ensures.result_value)))

pub returns-then-value-gt65535 : goal.returns-then-value-gt65535
returns-then-value-gt65535 c =
    rw c.in_ok-memory.ensures.same (sym (user-above _ c.in_ok-memory.ensures.formed _ _ (record { below = c.in_ok-test_slot.ensures.in_table; there = c.in_ok-test_slot.ensures.stands }) c.if-value-gt65535.true))

pub overflow_mul-memory : goal.overflow_mul-memory
overflow_mul-memory c =
    let key = formed-small _ c.in_ok-memory.ensures.entries 0 (omega arith) in
    omega arith

pub overflow_add-memory : goal.overflow_add-memory
overflow_add-memory c =
    let key = formed-small _ c.in_ok-memory.ensures.entries 0 (omega arith) in
    omega arith

pub carries-requires : goal.carries-requires
carries-requires c =
    let w = c.in_ok-memory.ensures.entries in
    container-within _ w.whole (formed-slots _ w) _ c.in_ok-test_slot.ensures.in_table

pub returns : goal.returns
returns c =
    let formed = c.in_ok-memory.ensures.formed in
    rw c.in_ok-memory.ensures.same (sym (user-answer _ formed _ _ (record { below = c.in_ok-test_slot.ensures.in_table; there = c.in_ok-test_slot.ensures.stands }) _ c.if-value-gt65535.false c.carries.ensures))
