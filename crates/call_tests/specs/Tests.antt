-- The tests of the refusals that many calls meet, by the checks of `memory_refusals`; of a refusal they answer the reason.
use Rattle.std.specs.Prelude.{Bool, List, [], ◌∷◌, ℕ, Result, Ok, Err, ⊤}
use Rattle.block.specs.declared.Reason.{Reason}
use Rattle.block.specs.declared.Reason.TheVariants.{MemorySize, BeyondTable, FreeSlot}
use Rattle.block.specs.declared.Refusal.{Refusal}
use Rattle.block.specs.declared.Sort.{Sort}
use Rattle.block.specs.declared.Sort.TheVariants as sort
use Rattle.block.specs.Entry.{Entry, container, policy}
use Rattle.block.specs.Reader.{container_said, policy_said}
use Rattle.block.specs.Refusal.{check, first_refusal}
use Rattle.model.specs.Refusals.{where0, beyond}
use Rattle.steps.specs.MemoryStep.{other_size, formed_check}

module _ {A : Type 0} where
  -- a refusal without its position in a block
  abbrev pub reason_of : Result A Refusal → Result A Reason
  reason_of (Ok x) = Ok x
  reason_of (Err f) = Err f.reason

-- 1 and 2
unfoldable pub memory_test : List ℕ → Result ⊤ Reason
memory_test m = reason_of (first_refusal (check MemorySize (where0 (other_size m)) ∷ formed_check m))

-- 10 and 11 of slot i of a table of so many slots, of which these are free
unfoldable pub slot_test : ℕ → (ℕ → Bool) → ℕ → Result ⊤ Reason
slot_test size free i = reason_of (first_refusal (check BeyondTable (where0 (beyond size i)) ∷ check FreeSlot (where0 (free i)) ∷ []))

-- what a block says as an entry of that sort
abbrev pub said_as : Sort → List ℕ → Entry
said_as sort.Container b = container (container_said b)
said_as sort.Policy b = policy (policy_said b)
