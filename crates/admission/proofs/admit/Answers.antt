-- Refused as its two tests are; else the block says an entry that the settings of the memory accept, and the search decides.
use mathlib.Core.Path.{◌≡◌, refl, sym, ◌∙◌}
use mathlib.Core.Bool.{true}
use mathlib.Core.List.{List}
use Prim.Native.Nat.{ℕ}
use Rattle.block.specs.Entry.{Entry, container, policy}
use Rattle.block.specs.Reader.{AcceptedAs}
use Rattle.model.specs.Calls.{change, admit}
use Rattle.formed.specs.Registry.{model_in, well_formed}
use Rattle.steps.specs.MemoryStep.{memory_step}
use Rattle.steps.proofs.Outcomes.{admit-refused}
use Rattle.call_tests.proofs.TestLaws.{memory-refused, entry-refused}
use Rattle.answers.specs.Answers.{admitted_answer}
use Rattle.answers.proofs.AnswerLaws.{turned}
use Rattle.answers.proofs.AdmissionLaws.{admit-container, admit-policy}
use Rattle.free_slots.specs.Entries.{entry_admitted}
use Rattle.admission.proofs.admit.Goals as goal

admit-entry : (m : List ℕ) → well_formed m ≡ true → (b : List ℕ) (x : Entry) → AcceptedAs (model_in m).settings b x → memory_step m (change (admit b)) ≡ entry_admitted m x
admit-entry m formed b (container x) e = admit-container m formed b x e
admit-entry m formed b (policy p) e = admit-policy m formed b p e

pub returns-in_err-test_memory : goal.returns-in_err-test_memory
returns-in_err-test_memory c = turned _ _ admitted_answer c.from_residual.ensures.1 (memory-refused _ _ (sym c.in_err-test_memory.ensures.result_value) _ refl)

pub returns-in_err-sort : goal.returns-in_err-sort
returns-in_err-sort c =
    let e = rw c.in_ok-memory.ensures.ok_part at c.as_mut_array.ensures.cases in
    let refused = rw e.same at c.in_err-sort.ensures.result_value in
    rw e.same (turned _ _ admitted_answer c.from_residual-in_err-sort.ensures.1 (admit-refused _ c.in_ok-test_memory.ensures.formed _ _ (entry-refused _ _ _ (sym refused))))

pub admit_entry-requires : goal.admit_entry-requires
admit_entry-requires c =
    let e = rw c.in_ok-memory.ensures.ok_part at c.as_mut_array.ensures.cases in
    (rw e.same c.in_ok-test_memory.ensures.entries, c.in_ok-sort.ensures.accepted)

pub returns : goal.returns
returns c =
    let e = rw c.in_ok-memory.ensures.ok_part at c.as_mut_array.ensures.cases in
    let formed = rw (← e.same) at c.in_ok-test_memory.ensures.formed in
    rw (← e.same) (c.admit_entry.ensures ∙ sym (admit-entry _ formed _ _ c.in_ok-sort.ensures.accepted))
