-- Refused as its tests are; past them the policy stands, and what is left is the changed registry's memory.
use mathlib.Core.Bool.{true}
use mathlib.Core.Path.{refl, sym, ap, ◌∙◌}
use Rattle.entries.specs.Tables.{policy_tabled}
use Rattle.model.specs.Table.{on}
use Rattle.model.specs.Calls.{done}
use Rattle.model.specs.Refusals.{refusals}
use Rattle.formed.specs.Registry.{registry_in}
use Rattle.steps.proofs.Outcomes.{remove-policy-done}
use Rattle.call_tests.proofs.TestLaws.{memory-refused, slot-refused}
use Rattle.answers.specs.Answers.{outcome_answer}
use Rattle.answers.proofs.AnswerLaws.{turned}
use Rattle.removal.proofs.remove_policy.Goals as goal

pub returns-in_err-test_memory : goal.returns-in_err-test_memory
returns-in_err-test_memory c = turned _ _ outcome_answer c.from_residual.ensures.1 (memory-refused _ _ (sym c.in_err-test_memory.ensures.result_value) _ refl)

pub returns-in_err-test_slot : goal.returns-in_err-test_slot
unfolding refusals registry_in
returns-in_err-test_slot c = turned _ _ outcome_answer c.from_residual-in_err-test_slot.ensures.1 (slot-refused (policy_tabled _) c.in_ok-test_memory.ensures.formed _ _ refl (sym c.in_err-test_slot.ensures.result_value))

pub returns : goal.returns
returns c =
    let e = rw c.in_ok-memory.ensures.ok_part at c.as_mut_array.ensures.cases in
    let slot = c.in_ok-test_slot.ensures in
    ap (λ x. (x, done)) (rw e.same at c.take_policy.ensures) ∙ sym (remove-policy-done _ c.in_ok-test_memory.ensures.formed _ _ slot.in_table slot.stands)

pub take_policy-requires : goal.take_policy-requires
take_policy-requires c =
    let e = rw c.in_ok-memory.ensures.ok_part at c.as_mut_array.ensures.cases in
    rw e.same (c.in_ok-test_memory.ensures.entries, c.in_ok-test_slot.ensures.in_table, ap (on (λ x. true)) c.in_ok-test_slot.ensures.stands)
