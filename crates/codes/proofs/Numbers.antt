-- No refusal that a call meets has the number 0, which C is told where a call was done.
use mathlib.Core.Path.{◌≡◌, refl}
use mathlib.Core.Bool.{true}
use lib.Dec.{ltb}
use Rattle.model.specs.Table.{all}
use Rattle.model.specs.Calls.{ask_reaches, ask_user, next_finding, list_findings, counts, audit, write}
use Rattle.model.specs.Calls.{Call, open_with, change, admit, admit_batch, remove_container, remove_policy, rebuild, ask}
use Rattle.steps.specs.NumbersMet.{numbers_met}

pub numbers-positive : (call : Call) → all (ltb 0) (numbers_met call) ≡ true
numbers-positive (open_with b) = refl
numbers-positive (change (admit b)) = refl
numbers-positive (change (admit_batch bs n t)) = refl
numbers-positive (change (remove_container c)) = refl
numbers-positive (change (remove_policy q)) = refl
numbers-positive (change rebuild) = refl
numbers-positive (ask (ask_reaches a b)) = refl
numbers-positive (ask (ask_user c v)) = refl
numbers-positive (ask (next_finding c)) = refl
numbers-positive (ask (list_findings c n)) = refl
numbers-positive (ask counts) = refl
numbers-positive (ask audit) = refl
numbers-positive (ask (write n)) = refl
