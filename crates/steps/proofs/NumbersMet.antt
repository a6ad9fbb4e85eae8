-- The numbers of the checks that a call meets are document 01's, in its order: each list computes.
use mathlib.Core.Path.{◌≡◌, refl}
use mathlib.Core.List.{List, map}
use Prim.Native.Nat.{ℕ}
use Rattle.block.specs.Refusal.{reason_number}
use Rattle.block.specs.Reader.{settings_checks, entry_checks}
use Rattle.model.specs.Calls.{ask_reaches, ask_user, next_finding, list_findings, counts, audit, write}
use Rattle.model.specs.Calls.{Call, open_with, change, admit, admit_batch, remove_container, remove_policy, rebuild, ask}
use Rattle.model.specs.Refusals.{admit_checks, refusals}
use Rattle.steps.specs.MemoryStep.{memory_refusals}
use Rattle.steps.specs.NumbersMet.{numbers_met}

-- Every call meets the refusals that document 01 names for it, in the order of their numbers.
pub numbers-met : (m : List ℕ) (call : Call) → map (λ c. reason_number c.reason) (memory_refusals m call) ≡ numbers_met call
unfolding memory_refusals refusals admit_checks settings_checks entry_checks
numbers-met m (open_with b) = refl
numbers-met m (change (admit b)) = refl
numbers-met m (change (admit_batch bs n t)) = refl
numbers-met m (change (remove_container c)) = refl
numbers-met m (change (remove_policy q)) = refl
numbers-met m (change rebuild) = refl
numbers-met m (ask (ask_reaches a b)) = refl
numbers-met m (ask (ask_user c v)) = refl
numbers-met m (ask (next_finding c)) = refl
numbers-met m (ask (list_findings c n)) = refl
numbers-met m (ask counts) = refl
numbers-met m (ask audit) = refl
numbers-met m (ask (write n)) = refl
